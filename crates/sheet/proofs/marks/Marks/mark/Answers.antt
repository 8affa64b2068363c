use Rattle.std.proofs.Common.{◌≡◌, ◌*◌, ◌%◌, ◌^◌, ap, ◌∙◌}
use lib.Bits.{bit_or}
use Rattle.std.proofs.lemmas.Nat.{one_shl}
use Rattle.sheet.specs.Marked.{has}
use Rattle.sheet.proofs.Digits.{marked_one}
use Rattle.sheet.proofs.marks.Marks.mark.Goals as goal

pub returns-then-symbol-lt-ROWS : goal.returns-then-symbol-lt-ROWS
returns-then-symbol-lt-ROWS c =
    let m = c.args.self.now.bits in
    let k = c.args.symbol in
    let e : (1 * 2 ^ k) % 2 ^ 32 ≡ 2 ^ k = one_shl k 32 c.if-symbol-lt-ROWS.true in
    λ A. ap (λ x. has (bit_or m x) A) e ∙ marked_one m k c.if-symbol-lt-ROWS.true A
