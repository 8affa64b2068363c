-- Sums over the symbols of a word, and what holds of each symbol. Assumes nothing.
use Rattle.std.proofs.Common.{◌≡◌, ℕ, zero, suc, ◌+◌, ◌<◌, ◌≤◌, min, [], ◌∷◌, ◌++◌, length, get_or, fold, sym, refl, ap, ◌∙◌, append_assoc, arith, take, subst}
use Rattle.std.proofs.lemmas.List.{take_more}
use Rattle.grammar.specs.Meaning.{Word, Input, Each}
use Rattle.norm.specs.Norms.{norms, firsts}

pub norms_append : (norm : ℕ → ℕ) (x y : Word) → norms norm (x ++ y) ≡ norms norm x + norms norm y
norms_append norm [] y = omega arith
norms_append norm (A ∷ x) y = let e = norms_append norm x y in omega arith

pub firsts_append : (first : ℕ → Input) (x y : Word) → firsts first (x ++ y) ≡ firsts first x ++ firsts first y
firsts_append first [] y = refl
firsts_append first (A ∷ x) y = ap (λ l. first A ++ l) (firsts_append first x y) ∙ sym (append_assoc (first A) (firsts first x) (firsts first y))

pub each_append : (P : ℕ → Type 0) (x y : Word) → Each P x → Each P y → Each P (x ++ y)
each_append P [] y h k = k
each_append P (A ∷ x) y h k = (h.0, each_append P x y h.1 k)

pub each_front : (P : ℕ → Type 0) (x y : Word) → Each P (x ++ y) → Each P x
each_front P [] y h = tt
each_front P (A ∷ x) y h = (h.0, each_front P x y h.1)

pub each_back : (P : ℕ → Type 0) (x y : Word) → Each P (x ++ y) → Each P y
each_back P [] y h = h
each_back P (A ∷ x) y h = each_back P x y h.1

-- a symbol weighs no more than the word
pub each_within : (norm : ℕ → ℕ) (v : ℕ) (w : Word) → norms norm w ≤ v → Each (λ A. norm A ≤ v) w
each_within norm v [] h = tt
each_within norm v (A ∷ w) h = (omega arith, each_within norm v w (omega arith))

-- with greater norms
pub norms_more : (norm more : ℕ → ℕ) → ((B : ℕ) → norm B ≤ more B) → (w : Word) → norms norm w ≤ norms more w
norms_more norm more h [] = omega arith
norms_more norm more h (B ∷ w) = let l = h B in let k = norms_more norm more h w in omega arith

-- what holds of each symbol holds at each place
pub each_at : (P : ℕ → Type 0) (w : Word) (i d : ℕ) → i < length w → Each P w → P (get_or w i d)
each_at P [] i d h e = absurd (omega arith)
each_at P (A ∷ w) zero d h e = e.0
each_at P (A ∷ w) (suc i) d h e = each_at P w i d (omega arith) e.1

-- one symbol more of a word
pub each_more : (P : ℕ → Type 0) (w : Word) (i d : ℕ) → i < length w → Each P (take i w) → P (get_or w i d) → Each P (take (i + 1) w)
each_more P w i d h e p = subst (Each P) (sym (take_more w i d h)) (each_append P (take i w) (get_or w i d ∷ []) e (p, tt))

pub norms_more_symbol : (norm : ℕ → ℕ) (w : Word) (i : ℕ) → i < length w → norms norm (take (i + 1) w) ≡ norms norm (take i w) + norm (get_or w i 0)
norms_more_symbol norm w i h = let e = norms_append norm (take i w) (get_or w i 0 ∷ []) in ap (norms norm) (take_more w i 0 h) ∙ omega arith

-- what holds at each place holds of each symbol
pub each_from_places : (P : ℕ → Type 0) (w : Word) → ((k : ℕ) → k < length w → P (get_or w k 0)) → Each P w
each_from_places P [] h = tt
each_from_places P (A ∷ w) h = (h 0 (omega arith), each_from_places P w (λ k l. h (suc k) (omega arith)))

-- the norm of a word, added up symbol by symbol to a limit
pub norms_fold : (norm : ℕ → ℕ) (top : ℕ) (w : Word) (k : ℕ) → k ≤ top → fold (λ s B. min (s + norm B) top) k w ≡ min (k + norms norm w) top
norms_fold norm top [] k h = omega arith
norms_fold norm top (B ∷ w) k h = norms_fold norm top w (min (k + norm B) top) (omega arith) ∙ omega arith
