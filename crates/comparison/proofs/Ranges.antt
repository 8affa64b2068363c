-- What is read of a list by a range, or nothing where the range is not there. Assumes nothing.
use Rattle.std.proofs.Common.{◌≡◌, ℕ, ◌-◌, ◌≤◌, length, take, drop, Some, None, Option, ap, ◌∙◌, arith, length-drop, take_all, Bor}
use borrow.Author.Tests.{clash}
use Rattle.std.specs.Slice.{IsGetRangeResult}
use Rattle.std.specs.Option.{unwrap_or}
use Rattle.grammar.specs.Meaning.{Input}

module _ (xs : Input) (n : ℕ) (l : n ≤ length xs) (o : Option (Bor Input)) (d r : Bor Input) (e : r ≡ unwrap_or o d) where
  -- from n on
  pub read_back : IsGetRangeResult xs n (length xs) o → r.now ≡ drop n xs
  read_back read = go o read (ap (λ (b : Bor Input). b.now) e)
    where
      go : (p : Option (Bor Input)) → IsGetRangeResult xs n (length xs) p → r.now ≡ (unwrap_or p d).now → r.now ≡ drop n xs
      go None h is = absurd (clash (h.1 (l, omega arith)))
      go (Some x) h is = is ∙ h.0.2 ∙ take_all (length xs - n) (drop n xs) (let size = length-drop n xs in omega arith)

  -- up to n
  pub read_front : IsGetRangeResult xs 0 n o → r.now ≡ take n xs
  read_front read = go o read (ap (λ (b : Bor Input). b.now) e)
    where
      go : (p : Option (Bor Input)) → IsGetRangeResult xs 0 n p → r.now ≡ (unwrap_or p d).now → r.now ≡ take n xs
      go None h is = absurd (clash (h.1 (omega arith, l)))
      go (Some x) h is = is ∙ h.0.2 ∙ ap (λ k. take k xs) (let same : n - 0 ≡ n = omega arith in same)
