-- A row and a rule whose first fields have passed. Assumes nothing.
use Rattle.std.proofs.Common.{◌≡◌, ℕ, ◌-◌, ◌<◌, ◌≤◌, true, List, [], ◌∷◌, length, get_or, take, drop, sym, ap, ◌∙◌, arith, lt-ltb, le-leb}
use lib.Seq.{take-length}
use Rattle.layout.specs.Contents.{FileRow}
use Rattle.layout.specs.Reading.{then, give, row, row_follows, word}

-- a row at a symbol below n that comes after the one before it, and with a length from 1 to 64, is as its word is
pub row_goes : (total n : ℕ) (xs : List FileRow) (bs : List ℕ) → 2 ≤ length bs → get_or bs 0 0 < n → row_follows xs (get_or bs 0 0) ≡ true → 1 ≤ get_or bs 1 0 → get_or bs 1 0 ≤ 64 →
    row total n xs bs ≡ then (word total n (get_or bs 1 0) (take (length bs - 2) (drop 2 bs))) (λ w. give (record { symbol = get_or bs 0 0; word = w }))
row_goes total n xs [] h a b c d = absurd (omega arith)
row_goes total n xs (A ∷ []) h a b c d = absurd (omega arith)
row_goes total n xs (A ∷ l ∷ rest) h a b c d =
    let same : length (A ∷ l ∷ rest) - 2 ≡ length rest = omega arith in
    let whole : take (length (A ∷ l ∷ rest) - 2) rest ≡ rest = ap (λ m. take m rest) same ∙ take-length rest in
    rw (lt-ltb A n a, b, le-leb 1 l c, le-leb l 64 d) (ap (λ r. then (word total n l r) (λ w. give (record { symbol = A; word = w }))) (sym whole))
