-- An input behind the letters of a buffer. Assumes nothing.
use Rattle.std.proofs.Common.{◌≡◌, ℕ, ◌+◌, ◌-◌, ◌≤◌, min, List, ◌++◌, length, take, sym, ap, ◌∙◌, arith, length-take}
use Rattle.std.proofs.Math.Seq.{take-append-add}
use Rattle.std.proofs.lemmas.List.{take_min, length-take-le}
use Rattle.std.proofs.lemmas.Slice.{take-put_mid}
use borrow.Rule.Slice.PartMut.{put_mid}

-- zs, the front of ys for which there is room behind the first n of xs, is written there
pub added : (m n k : ℕ) (xs ys zs : List ℕ) → length xs ≡ m → n ≤ m → k ≡ min (length ys) (m - n) → zs ≡ take k ys →
    take (n + k) (put_mid n (n + k - n) xs zs) ≡ take m (take n xs ++ ys)
added m n k xs ys zs room within is front =
    let size : length zs ≡ k = ap length front ∙ length-take k ys ∙ (omega arith) in
    let least : k ≡ min (m - n) (length ys) = omega arith in
    let kept : zs ≡ take (m - n) ys = front ∙ ap (λ i. take i ys) least ∙ take_min (m - n) ys in
    let all : m ≡ length (take n xs) + (m - n) = omega (arith, length-take-le n xs) in
    take-put_mid n (n + k - n) xs zs (n + k) (omega arith) (omega arith) ∙ ap (λ l. take n xs ++ l) kept
    ∙ sym (ap (λ i. take i (take n xs ++ ys)) all ∙ take-append-add (take n xs) ys (m - n))
