use Rattle.std.proofs.Common.{◌≡◌, ◌++◌, drop, vec_items}
use Rattle.asking.specs.Texts.{parts_text}
use Rattle.asking.proofs.offsets.push_offset.Given as goal

abbrev pub invariant-loop-at : goal.invariant-loop-at
invariant-loop-at l = vec_items l.text ++ parts_text l.named (drop l.at l.kinds) (drop l.at l.numbers) ≡ vec_items l.fn.text ++ parts_text l.named l.kinds l.numbers
