use Rattle.std.proofs.Common.{ap, ◌∙◌, arith, take_all, rules}
use Rattle.tally.specs.Group.{total}
use Rattle.tally.proofs.Totals.{total_next, total_laws}
use Rattle.tally.proofs.sums.sum.Goals as goal

pub loop-x-preserved : goal.loop-x-preserved
loop-x-preserved g c =
    let joined = rw c.loop-x.invariant.1 at c.add-all.ensures in
    (omega arith, joined ∙ total_next g.T.Tally.group c.args.xs.now c.loop-x.x-index _ c.loop-x-test.true (search rules))

pub returns : goal.returns
returns g c = record {
  value = c.loop-x.invariant.1 ∙ ap (total g.T.Tally.group) (take_all _ _ c.loop-x-test.false);
  laws = total_laws g.T.Tally.group;
}
