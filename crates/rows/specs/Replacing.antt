-- Words put for the symbols of a word.
--
-- Replacing T          for each symbol a word with a tally, to be put for it
-- put ρ w              the words for the symbols of w, one behind the other
-- gain 𝓣 ρ w           the sum of their tallies
-- just 𝓣 A m           m for A, and each other symbol for itself, with zero
-- after 𝓣 σ ρ          first ρ, and then σ in what it gives
-- Normals 𝓣 D n ρ      for each symbol below n its normal form and sum
-- Grown D A m E        E is D with the row m for A, which has none in D
--
-- Assumes nothing.
use Rattle.std.specs.Prelude.{◌≡◌, ℕ, ◌<◌, cond, [], ◌∷◌, ◌++◌, Some, None, ◌==◌}
use Rattle.tally.specs.Group.{Group}
use Rattle.grammar.specs.Meaning.{Word, Weighted}
use Rattle.rows.specs.Sheets.{Sheet, Normal}

abbrev pub Replacing : Type 0 → Type 0
Replacing T = ℕ → Weighted T

abbrev pub put : {T : Type 0} → Replacing T → Word → Word
put ρ [] = []
put ρ (A ∷ w) = (ρ A).word ++ put ρ w

module _ {T : Type 0} (𝓣 : Group T) where
  abbrev pub gain : Replacing T → Word → T
  gain ρ [] = 𝓣.zero
  gain ρ (A ∷ w) = 𝓣.add (ρ A).tally (gain ρ w)

  abbrev pub just : ℕ → Weighted T → Replacing T
  just A m C = cond (C == A) m (record { word = C ∷ []; tally = 𝓣.zero })

  abbrev pub after : Replacing T → Replacing T → Replacing T
  after σ ρ C = record { word = put σ (ρ C).word; tally = 𝓣.add (ρ C).tally (gain σ (ρ C).word) }

  abbrev pub Normals : Sheet T → ℕ → Replacing T → Type 0
  Normals D n ρ = (A : ℕ) → A < n → Normal 𝓣 D (A ∷ []) (ρ A).word (ρ A).tally

pub record Grown {T : Type 0} (D : Sheet T) (A : ℕ) (m : Weighted T) (E : Sheet T) : Type 0 where
  pub free : D A ≡ None
  pub here : E A ≡ Some m
  pub others : (C : ℕ) → ¬ (C ≡ A) → E C ≡ D C
