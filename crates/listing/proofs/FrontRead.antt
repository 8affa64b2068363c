-- What was read in one step more. Assumes nothing.
use Rattle.std.proofs.Common.{◌≡◌, ℕ, ◌+◌, ◌-◌, ◌≤◌, List, ◌++◌, length, take, Some, None, Option, ap, sym, subst, ◌∙◌, refl, le_refl, arith, append_assoc, length-append, length-drop, length-take, length-take-le, take-take}
use Rattle.std.proofs.Math.Seq.{take-append-add}
use Rattle.std.proofs.lemmas.Slice.{take-put_mid, drop-put_mid}
use borrow.Rule.Slice.PartMut.{put_mid}
use Rattle.std.specs.Io.KnownBytes.{Consumes}

-- first some bytes are consumed, and then more
consumes_then : (p q r : Option (List ℕ)) (xs ys : List ℕ) → Consumes p q xs → Consumes q r ys → Consumes p r (xs ++ ys)
consumes_then None q r xs ys c d = tt
consumes_then (Some u) None r xs ys c d = absurd c
consumes_then (Some u) (Some v) None xs ys c d = absurd d
consumes_then (Some u) (Some v) (Some w) xs ys c d = c ∙ ap (λ t. xs ++ t) d ∙ sym (append_assoc xs ys w)

-- n bytes more in a buffer that has a of them, where the rest of the buffer was given
module _ (a n : ℕ) (xs ys : List ℕ) (here : a ≤ length xs) (size : length ys ≡ length xs - a) (read : n ≤ length ys) where
  -- the bytes before and those that were given
  start : take (a + length ys) (put_mid a (length xs - a) xs ys) ≡ take a xs ++ ys
  start = take-put_mid a (length xs - a) xs ys (a + length ys) refl here

  -- the buffer is as long
  pub as_long : length (put_mid a (length xs - a) xs ys) ≡ length xs
  as_long =
      let filled = put_mid a (length xs - a) xs ys in
      let full = a + (length xs - a) in
      let end = ap length (drop-put_mid a (length xs - a) xs ys full (le_refl full) here size) in
      omega (arith, ap length start, end, length-take (a + length ys) filled, length-take a xs, length-append (take a xs) ys, length-drop full filled, length-drop full xs)

  front : take (a + n) (put_mid a (length xs - a) xs ys) ≡ take a xs ++ take n ys
  front =
      sym (take-take (a + n) (a + length ys) (put_mid a (length xs - a) xs ys) (omega arith)) ∙ ap (take (a + n)) start
      ∙ ap (λ k. take (k + n) (take a xs ++ ys)) (sym (length-take-le a xs here)) ∙ take-append-add (take a xs) ys n

  -- and they are consumed
  pub one_more : (p q r : Option (List ℕ)) → Consumes p q (take a xs) → Consumes q r (take n ys) → Consumes p r (take (a + n) (put_mid a (length xs - a) xs ys))
  one_more p q r c d = subst (Consumes p r) (sym front) (consumes_then p q r (take a xs) (take n ys) c d)
