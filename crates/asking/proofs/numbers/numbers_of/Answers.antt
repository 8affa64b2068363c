use Rattle.std.proofs.Common.{◌∙◌, sym, ap, ◌<◌, ◌++◌, [], ◌∷◌, length, vec_items, arith}
use Rattle.asking.proofs.Written.{take_next, never_past}
use Rattle.asking.proofs.numbers.numbers_of.Goals.{in-Some+in_ok-push, in_default}
use Rattle.asking.proofs.numbers.numbers_of.Goals as goal

pub loop-at-preserved : goal.loop-at-preserved
loop-at-preserved g c =
    let xs = g.T.FileTally.numbers c.args.tally in
    let at = c.loop-at.at in
    let size = g.T.FileTally.lossless.size c.args.tally in
    let below : at < 255 = omega arith in
    let within : at < length xs = omega arith in
    elim c.match-number.branch [
      | in-Some+in_ok-push w ↦
          let n = w.in-Some.number in
          ap vec_items w.numbers-is ∙ w.in_ok-push.ensures.items ∙ ap (λ ys. ys ++ n ∷ []) c.loop-at.invariant
          ∙ sym (take_next xs at n (sym w.in-Some.is ∙ c.number.ensures below))
      | in_default w ↦ never_past xs at (sym w.in_default.is ∙ c.number.ensures below) within
    ]
