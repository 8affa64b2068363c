-- The order of the alphabet on inputs. Assumes nothing.
use Rattle.std.proofs.Common.{◌≡◌, ℕ, [], ◌∷◌, ◌++◌, length, refl, ap₂, inl, inr, arith}
use Rattle.grammar.specs.Meaning.{Input}
use Rattle.norm.specs.Norms.{NoLater}

pub no_later_same : (s : Input) → NoLater s s
no_later_same [] = tt
no_later_same (a ∷ s) = inr (refl, no_later_same s)

pub no_later_both : (s t : Input) → length s ≡ length t → NoLater s t → NoLater t s → s ≡ t
no_later_both [] [] l h k = refl
no_later_both [] (b ∷ t) l h k = absurd (omega arith)
no_later_both (a ∷ s) [] l h k = absurd (omega arith)
no_later_both (a ∷ s) (b ∷ t) l (inl h) (inl k) = absurd (omega arith)
no_later_both (a ∷ s) (b ∷ t) l (inl h) (inr k) = let e = k.0 in absurd (omega arith)
no_later_both (a ∷ s) (b ∷ t) l (inr h) (inl k) = let e = h.0 in absurd (omega arith)
no_later_both (a ∷ s) (b ∷ t) l (inr h) (inr k) = ap₂ {C = Input} (λ x y. x ∷ y) h.0 (no_later_both s t (omega arith) h.1 k.1)

pub no_later_behind : (s t u v : Input) → length s ≡ length t → NoLater s t → NoLater u v → NoLater (s ++ u) (t ++ v)
no_later_behind [] [] u v l h k = k
no_later_behind [] (b ∷ t) u v l h k = absurd (omega arith)
no_later_behind (a ∷ s) [] u v l h k = absurd (omega arith)
no_later_behind (a ∷ s) (b ∷ t) u v l (inl h) k = inl h
no_later_behind (a ∷ s) (b ∷ t) u v l (inr h) k = inr (h.0, no_later_behind s t u v (omega arith) h.1 k)

-- behind the same letter
pub no_later_tail : (a : ℕ) (s t : Input) → NoLater (a ∷ s) (a ∷ t) → NoLater s t
no_later_tail a s t (inl h) = absurd (omega arith)
no_later_tail a s t (inr h) = h.1
