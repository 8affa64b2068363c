-- Norms and first inputs, as properties, and the order of symbols.
--
-- NoLater s t              s does not come after t in the alphabet
-- Taken 𝓣 M w s            w takes s
-- First 𝓣 M w s            s is the first input of w: w takes it and nothing shorter, and of that length nothing earlier
-- Normed 𝓣 M norm first    norm and first give the norm and the first input of each symbol: the norm is the first input's length
-- norms norm w             the norm of a word, the sum over its symbols
-- firsts first w           the first input of a word, one behind the other
-- Earlier norm A B         A is earlier than B: its norm is smaller, or at equal norms its number
-- Closed M                 rules name only symbols below the count
--
-- Assumes nothing.
use Rattle.std.specs.Prelude.{◌≡◌, ℕ, ◌+◌, ◌<◌, ◌≤◌, ◌⊎◌, [], ◌∷◌, ◌++◌, length, Some}
use Rattle.tally.specs.Group.{Group}
use Rattle.grammar.specs.Meaning.{Word, Input, Meaning, Below, word_of}
use Rattle.grammar.specs.Takes.{takes}

abbrev pub NoLater : Input → Input → Type 0
NoLater [] t = Unit {0}
NoLater (a ∷ s) [] = ⊥
NoLater (a ∷ s) (b ∷ t) = (a < b) ⊎ ((a ≡ b) × NoLater s t)

abbrev pub norms : (ℕ → ℕ) → Word → ℕ
norms norm [] = 0
norms norm (A ∷ w) = norm A + norms norm w

abbrev pub firsts : (ℕ → Input) → Word → Input
firsts first [] = []
firsts first (A ∷ w) = first A ++ firsts first w

abbrev pub Earlier : (ℕ → ℕ) → ℕ → ℕ → Type 0
Earlier norm A B = (norm A < norm B) ⊎ ((norm A ≡ norm B) × (A < B))

abbrev pub Closed : {T : Type 0} → Meaning T → Type 0
Closed M = (A a : ℕ) → Below M.count (word_of (M.rule A a))

module _ {T : Type 0} (𝓣 : Group T) (M : Meaning T) where
  abbrev pub Taken : Word → Input → Type 0
  Taken w s = (t : T) × (takes 𝓣 M w s ≡ Some t)

  pub record First (w : Word) (s : Input) : Type 0 where
    pub taken : Taken w s
    pub shortest : (r : Input) → Taken w r → length s ≤ length r
    pub earliest : (r : Input) → Taken w r → length r ≡ length s → NoLater s r

  pub record Normed (norm : ℕ → ℕ) (first : ℕ → Input) : Type 0 where
    pub first_input : (A : ℕ) → A < M.count → First (A ∷ []) (first A)
    pub size : (A : ℕ) → A < M.count → norm A ≡ length (first A)
