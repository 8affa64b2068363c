use Rattle.std.proofs.Common.{◌≡◌, ◌++◌, drop, vec_items}
use Rattle.asking.specs.Texts.{spaced}
use Rattle.asking.proofs.answers.push_spaced.Given as goal

abbrev pub invariant-loop-number : goal.invariant-loop-number
invariant-loop-number l = vec_items l.text ++ spaced (drop l.number-index l.numbers) ≡ vec_items l.fn.text ++ spaced l.numbers
