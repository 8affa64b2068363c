-- How norms are measured: from above, rule by rule, up to a limit v.
--
-- A measure is a norm of at most v, or v + 1 for more than v, or v + 2 where no input is known.
-- measure ms A            the measure of A; v + 2 is kept where nothing is
-- best_at bs A            the best rule of A
-- norm_in, letter_in bs A its measure, and its letter
-- along v norm k w        k and then the measures along w, as a measure
-- through v norm w        what a rule with the word w makes of its symbol's measure
-- makes v norm o          the same for a rule that may be there
-- Best v R norm A k l     k is the least that a rule of A makes, and l the least letter of such a rule
-- Reached v n R norm      what is measured is had: its symbol takes an input, and a rule makes as little of it
-- Settled v n R norm      no rule makes less of it
-- NormFault               see the declared enum
-- Within, Beyond          A takes an input of at most v letters; all that it takes are longer
-- Unnormed v n R f        f is what is wrong with the norms: the least symbol without an input; else the least whose norm passes v
--
-- Assumes nothing.
use Rattle.std.specs.Prelude.{◌≡◌, ℕ, suc, ◌+◌, ◌<◌, ◌≤◌, min, cond, List, [], ◌∷◌, length, Some, None, Option, nat_lt, slice_index_or}
use Rattle.grammar.specs.Meaning.{Word, Input}
use Rattle.norm.specs.Words.{Words, reads, Lives, Barren}
use Rattle.norm.specs.declared.best_rule.BestRule.{BestRule}
use Rattle.norm.specs.declared.fault.NormFault.{NormFault}
use Rattle.norm.specs.declared.fault.NormFault.TheVariants.{NoInput, TooLong}

abbrev pub measure : List ℕ → ℕ → ℕ
measure ms A = slice_index_or ms A 66

abbrev pub best_at : List BestRule → ℕ → BestRule
best_at bs A = slice_index_or bs A (record { measure = 66; letter = 0 })

abbrev pub norm_in : List BestRule → ℕ → ℕ
norm_in bs A = (best_at bs A).measure

abbrev pub letter_in : List BestRule → ℕ → ℕ
letter_in bs A = (best_at bs A).letter

abbrev pub along : ℕ → (ℕ → ℕ) → ℕ → Word → ℕ
along v norm k [] = k
along v norm k (B ∷ w) = cond (nat_lt (suc v) (norm B)) (suc (suc v)) (along v norm (min (k + norm B) (suc v)) w)

abbrev pub through : ℕ → (ℕ → ℕ) → Word → ℕ
through v norm w = along v norm 1 w

abbrev pub makes : ℕ → (ℕ → ℕ) → Option Word → ℕ
makes v norm None = suc (suc v)
makes v norm (Some w) = through v norm w

pub record Best (v : ℕ) (R : Words) (norm : ℕ → ℕ) (A k l : ℕ) : Type 0 where
  pub under : (a : ℕ) → k ≤ makes v norm (R A a)
  pub made : k ≤ suc v → k ≡ makes v norm (R A l)
  pub first : (a : ℕ) → a < l → k < makes v norm (R A a)

pub record Reached (v n : ℕ) (R : Words) (norm : ℕ → ℕ) : Type 0 where
  pub limit : (A : ℕ) → norm A ≤ suc (suc v)
  pub lives : (A : ℕ) → A < n → norm A ≤ suc v → Lives R A
  pub made : (A : ℕ) → A < n → norm A ≤ suc v → (a : ℕ) × (makes v norm (R A a) ≤ norm A)

abbrev pub Settled : ℕ → ℕ → Words → (ℕ → ℕ) → Type 0
Settled v n R norm = (A : ℕ) → A < n → (a : ℕ) → norm A ≤ makes v norm (R A a)

abbrev pub Within : ℕ → Words → ℕ → Type 0
Within v R A = (s : Input) × (reads R (A ∷ []) s ≡ Some []) × (length s ≤ v)

abbrev pub Beyond : ℕ → Words → ℕ → Type 0
Beyond v R A = (s : Input) → reads R (A ∷ []) s ≡ Some [] → v < length s

pub record IsBarren (n : ℕ) (R : Words) (A : ℕ) : Type 0 where
  pub symbol : A < n
  pub here : Barren R A
  pub before : (B : ℕ) → B < A → Lives R B

pub record IsLong (v n : ℕ) (R : Words) (A : ℕ) : Type 0 where
  pub symbol : A < n
  pub live : (B : ℕ) → B < n → Lives R B
  pub here : Beyond v R A
  pub before : (B : ℕ) → B < A → Within v R B

abbrev pub Unnormed : ℕ → ℕ → Words → NormFault → Type 0
Unnormed v n R (NoInput A) = IsBarren n R A
Unnormed v n R (TooLong A) = IsLong v n R A
