-- What a grammar means.
--
-- Word, Input      a list of symbols; a list of letters
-- Weighted T       a word with a tally: what a rule gives
-- Meaning T        a count of symbols, and for a symbol and a letter at most one rule
-- Letter a         a is a letter: the byte of one of A to Z
-- word_of o        the word of a rule; empty where there is none
-- tally_of z o     the tally of a rule; z where there is none
-- Each P w         P holds of each symbol of w
-- Below n w        each symbol of w is below n
-- WellFormed M     what every grammar owes, at every number
--
-- Assumes nothing.
use Rattle.std.specs.Prelude.{◌≡◌, ℕ, ◌<◌, ◌≤◌, true, List, [], ◌∷◌, length, is_some, Some, None, Option}

abbrev pub Word : Type 0
Word = List ℕ

abbrev pub Input : Type 0
Input = List ℕ

pub record Weighted (T : Type 0) : Type 0 where
  pub word : Word
  pub tally : T

pub record Meaning (T : Type 0) : Type 0 where
  pub count : ℕ
  pub rule : ℕ → ℕ → Option (Weighted T)

abbrev pub Letter : ℕ → Type 0
Letter a = (65 ≤ a) × (a ≤ 90)

abbrev pub word_of : {T : Type 0} → Option (Weighted T) → Word
word_of (Some r) = r.word
word_of None = []

abbrev pub tally_of : {T : Type 0} → T → Option (Weighted T) → T
tally_of z (Some r) = r.tally
tally_of z None = z

abbrev pub Each : (ℕ → Type 0) → Word → Type 0
Each P [] = Unit {0}
Each P (A ∷ w) = P A × Each P w

abbrev pub Below : ℕ → Word → Type 0
Below n = Each (λ A. A < n)

pub record WellFormed {T : Type 0} (M : Meaning T) : Type 0 where
  -- at most 255 symbols
  pub few : M.count ≤ 255
  -- a rule stands at a symbol below the count, and at a letter
  pub counted : (A a : ℕ) → is_some (M.rule A a) ≡ true → A < M.count
  pub lettered : (A a : ℕ) → is_some (M.rule A a) ≡ true → Letter a
  -- its word has at most 255 symbols, each at most 255
  pub short : (A a : ℕ) → length (word_of (M.rule A a)) ≤ 255
  pub bytes : (A a : ℕ) → Each (λ B. B ≤ 255) (word_of (M.rule A a))
