-- What a lookup of the back of a list gives. Assumes nothing.
use Rattle.std.proofs.Common.{◌≡◌, ℕ, ◌-◌, ◌≤◌, [], length, drop, Some, None, Option, ap, ◌∙◌, arith, length-drop, take_all, Bor}
use borrow.Author.Tests.{clash}
use Rattle.std.specs.Slice.{IsGetRangeResult}
use Rattle.std.specs.Option.{unwrap_or}
use Rattle.grammar.specs.Meaning.{Input}

-- what is read of a list from n on, or nothing where it is not there
module _ (xs : Input) (n : ℕ) (o : Option (Bor Input)) (d : Bor Input) (read : IsGetRangeResult xs n (length xs) o) (nothing : d.now ≡ []) where
  pub read_short : (r : Bor Input) → r ≡ unwrap_or o d → length r.now ≤ length xs
  read_short r e = go o read (ap (λ (b : Bor Input). length b.now) e)
    where
      go : (p : Option (Bor Input)) → IsGetRangeResult xs n (length xs) p → length r.now ≡ length (unwrap_or p d).now → length r.now ≤ length xs
      go None h size = let none = ap length nothing in omega arith
      go (Some x) h size = let long = h.0.3 in omega arith

  pub read_is : n ≤ length xs → (r : Bor Input) → r ≡ unwrap_or o d → r.now ≡ drop n xs
  read_is l r e = go o read (ap (λ (b : Bor Input). b.now) e)
    where
      go : (p : Option (Bor Input)) → IsGetRangeResult xs n (length xs) p → r.now ≡ (unwrap_or p d).now → r.now ≡ drop n xs
      go None h is = absurd (clash (h.1 (l, omega arith)))
      go (Some x) h is = is ∙ h.0.2 ∙ take_all (length xs - n) (drop n xs) (let size = length-drop n xs in omega arith)
