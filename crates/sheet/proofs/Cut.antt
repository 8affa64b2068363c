-- The front of a word, as a row keeps it. Assumes nothing.
use Rattle.std.proofs.Common.{◌≡◌, ℕ, min, List, ◌++◌, length, take, sym, ap, ◌∙◌, arith}
use Rattle.std.proofs.Math.Seq.{take-append_seam}
use Rattle.std.proofs.lemmas.List.{take_min}

pub front_kept : (w ys zs : List ℕ) (n : ℕ) → n ≡ min (length w) 64 → ys ≡ take n w → take (length (take n w)) (ys ++ zs) ≡ take 64 w
front_kept w ys zs n e q =
    let m : n ≡ min 64 (length w) = omega (arith, e) in
    ap (λ x. take (length x) (ys ++ zs)) (sym q) ∙ take-append_seam ys zs ∙ q ∙ ap (λ m. take m w) m ∙ take_min 64 w
