use Rattle.comparison.proofs.Forks.{alike_more}
use Rattle.comparison.proofs.fork.first_difference.Goals as goal

pub loop-a-preserved : goal.loop-a-preserved
loop-a-preserved c =
    let i = c.in-Some-Some in
    alike_more c.args.one.now c.args.two.now c.loop-a.left.now c.loop-a.right.now i.more_left.now i.more_right.now i.a.now i.b.now c.loop-a.invariant i.ensures.cases.0 i.ensures'.cases.0 c.if-a-b.false
