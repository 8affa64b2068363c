-- The first stray symbol of a word, as the search of a list finds it. Assumes nothing.
use Rattle.std.proofs.Common.{◌≡◌, ℕ, suc, ◌+◌, Bool, cond, [], ◌∷◌, Some, refl, ap, sym, ◌∙◌, inl, inr, arith, lt-ltb, le-ltb}
use Rattle.std.proofs.lemmas.Bool.{cases_lt, le-leb, lt-leb}
use Rattle.std.proofs.lemmas.Iterator.Adapters.{position_from-zero}
use Rattle.std.specs.Prelude.{nat_le}
use Rattle.std.specs.List.{position, position_from}
use Rattle.grammar.specs.Meaning.{Word}
use Rattle.calls.specs.Refusals.{stray_from}

-- whether a symbol is not below the count
abbrev pub stray : ℕ → ℕ → Bool
stray n A = nat_le n A

-- counted on from k
stray_same : (n k : ℕ) (w : Word) → position_from (stray n) k w ≡ stray_from k n w
stray_same n k [] = refl
stray_same n k (A ∷ w) = elim (cases_lt A n) [
  | inl l ↦ ap (λ b. cond b (Some k) (position_from (stray n) (k + 1) w)) (lt-leb n A l) ∙ ap (λ i. position_from (stray n) i w) (let s : k + 1 ≡ suc k = omega arith in s) ∙ stray_same n (suc k) w
      ∙ sym (ap (λ b. cond b (stray_from (suc k) n w) (Some k)) (lt-ltb A n l))
  | inr l ↦ ap (λ b. cond b (Some k) (position_from (stray n) (k + 1) w)) (le-leb n A l) ∙ sym (ap (λ b. cond b (stray_from (suc k) n w) (Some k)) (le-ltb A n l))
]

-- the first that is not below the count stands at the place of the first stray symbol
pub first_stray : (n : ℕ) (w : Word) → position (stray n) w ≡ stray_from 0 n w
first_stray n w = position_from-zero (stray n) w ∙ stray_same n 0 w
