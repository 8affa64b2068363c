use Rattle.std.proofs.Common.{◌≡◌, ◌≤◌, length, sym, ap, ◌∙◌, arith}
use Rattle.comparison.proofs.Forks.{alike_more, common_is}
use Rattle.comparison.proofs.fork.common_length.Goals as goal
use Rattle.comparison.proofs.fork.common_length.Goals.{in-Some-Some+then-a-b, in_default, in_default-2}

pub loop-a-preserved : goal.loop-a-preserved
loop-a-preserved c =
    let i = c.in-Some-Some in
    alike_more c.args.one.now c.args.two.now c.loop-a.left.now c.loop-a.right.now i.more_left.now i.more_right.now i.a.now i.b.now c.loop-a.invariant i.ensures.cases.0 i.ensures'.cases.0 c.if-a-b.false

pub returns : goal.returns
returns c =
    common_is c.args.one.now c.args.two.now c.loop-a.left.now c.loop-a.right.now c.loop-a.invariant (λ a b more other l r e. elim c.match-split_first.branch [
      | in-Some-Some+then-a-b w ↦
          let i = w.in-Some-Some in
          let one = sym i.ensures.cases.0 ∙ l in
          let two = sym i.ensures'.cases.0 ∙ r in
          let same : i.a.now ≡ i.b.now = cc in
          w.if-a-b.true same
      | in_default w ↦ let k = ap length r in let z = w.in_default.ensures'.cases in let no : 1 ≤ 0 = omega arith in absurd (omega (arith, no))
      | in_default-2 w ↦ let k = ap length l in let z = w.in_default.ensures.cases in let no : 1 ≤ 0 = omega arith in absurd (omega (arith, no))
    ])
