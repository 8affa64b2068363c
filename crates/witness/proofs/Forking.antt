-- Two words of one norm are one, or begin apart.
--
-- The idea: a symbol has a norm of at least 1, so neither word is a proper front of the other.
--
-- Assumes nothing.
use Rattle.std.proofs.Common.{◌≡◌, ℕ, ◌⊎◌, [], ◌∷◌, refl, ap, inl, inr, arith}
use native.Mathlib.Decide.{ℕ_discrete}
use Rattle.tally.specs.Group.{Group}
use Rattle.grammar.specs.Meaning.{Word, Input, Meaning}
use Rattle.norm.specs.Norms.{norms}
use Rattle.norm.specs.Laws.{NormLaws}
use Rattle.witness.specs.Forks.{Forked}
use Rattle.witness.specs.Laws.{ForkLaw}

module _ {T : Type 0} (𝓣 : Group T) (M : Meaning T) (norm : ℕ → ℕ) (first : ℕ → Input) (N : NormLaws 𝓣 M norm first) where
  pub forked : ForkLaw 𝓣 M norm first
  forked [] [] kx ky e = inl refl
  forked [] (B ∷ y) kx ky e = let h = N.positive B ky.0 in absurd (omega arith)
  forked (A ∷ x) [] kx ky e = let h = N.positive A kx.0 in absurd (omega arith)
  forked (A ∷ x) (B ∷ y) kx ky e = go (ℕ_discrete A B) (λ l. forked x y kx.1 ky.1 l)
    where
      on : A ≡ B → (x ≡ y) ⊎ Forked x y → (A ∷ x ≡ B ∷ y) ⊎ Forked (A ∷ x) (B ∷ y)
      on h (inl k) = inl (rw (h, k))
      on h (inr f) = inr (record {
        common = A ∷ f.common;
        first = f.first;
        second = f.second;
        first_end = f.first_end;
        second_end = f.second_end;
        first_word = ap {B = Word} (λ l. A ∷ l) f.first_word;
        second_word = rw (← h) (ap {B = Word} (λ l. A ∷ l) f.second_word);
        apart = f.apart;
      })

      go : Dec (A ≡ B) → (norms norm x ≡ norms norm y → (x ≡ y) ⊎ Forked x y) → (A ∷ x ≡ B ∷ y) ⊎ Forked (A ∷ x) (B ∷ y)
      go (yes h) ih = on h (ih (let d = ap norm h in omega arith))
      go (no h) ih = inr (record { common = []; first = A; second = B; first_end = x; second_end = y; first_word = refl; second_word = refl; apart = h })
