-- The rows that a comparison of the words x₀ and y₀ writes, where they come from, and how it ends with "different".
--
-- Limited M norm v               norms are at most v, and words of rules have at most 4 symbols
-- Given M x                      x is a word of known symbols, at most 8 of them
-- Origin 𝓣 M x₀ y₀ D k p q x y   x with the sum p and y with the sum q are the given words, where k is 0; or what a row of D leads to at a letter, where k is 1
-- Pair 𝓣 M x₀ y₀ D               two words with sums that are looked at under the sheet D, either way round
-- Apart … x₀ y₀ D                such a pair with its fork
-- Written … D E                  E is D with the row of such a fork, which has an offset
-- History … D k E                the sheet E is made from D by writing k rows
-- Ending … D                     what is found at the end, where the answer is "different"
-- WitnessLaw … x₀ y₀ v           a comparison that ends with "different" has a witness, and it is short
-- HistoryLaw … x₀ y₀             a comparison keeps the order of rows, and each row that it writes is one more
--
-- Assumes nothing.
use Rattle.std.specs.Prelude.{◌≡◌, ℕ, suc, ◌+◌, ◌*◌, ◌<◌, ◌≤◌, ◌⊎◌, [], ◌∷◌, ◌++◌, length, Some, None}
use Rattle.tally.specs.Group.{Group}
use Rattle.grammar.specs.Meaning.{Word, Input, Weighted, Meaning, Below, word_of}
use Rattle.grammar.specs.Takes.{step, takes, Differ}
use Rattle.norm.specs.Words.{ran}
use Rattle.norm.specs.Norms.{Taken, norms, Earlier}
use Rattle.rows.specs.Sheets.{Sheet, unweighed, offset, Normal, TrueRow, Ranked, marked}
use Rattle.rows.specs.Replacing.{Grown}
use Rattle.witness.specs.Forks.{Fork, row_word, row_with, ForkOf}

pub record Limited {T : Type 0} (M : Meaning T) (norm : ℕ → ℕ) (v : ℕ) : Type 0 where
  pub norms : (A : ℕ) → A < M.count → norm A ≤ v
  pub rules : (A a : ℕ) → length (word_of (M.rule A a)) ≤ 4

abbrev pub Given : {T : Type 0} → Meaning T → Word → Type 0
Given M x = Below M.count x × (length x ≤ 8)

module _ {T : Type 0} (𝓣 : Group T) (M : Meaning T) (x₀ y₀ : Word) where
  pub data Origin (D : Sheet T) (k : ℕ) (p q : T) (x y : Word) : Type 0 where
    given : k ≡ 0 → p ≡ 𝓣.zero → q ≡ 𝓣.zero → x ≡ x₀ → y ≡ y₀ → Origin D k p q x y
    from_row : (A a : ℕ) (m n u : Weighted T) → D A ≡ Some m → M.rule A a ≡ Some n → step M m.word a ≡ Some u →
        k ≡ 1 → p ≡ n.tally → q ≡ 𝓣.add m.tally u.tally → x ≡ n.word → y ≡ u.word → Origin D k p q x y

  pub record Pair (D : Sheet T) : Type 0 where
    pub first : Word
    pub second : Word
    pub first_sum : T
    pub second_sum : T
    -- the letters that lead to it
    pub letters : ℕ
    pub origin : Origin D letters first_sum second_sum first second ⊎ Origin D letters second_sum first_sum second first

module _ {T : Type 0} (𝓣 : Group T) (M : Meaning T) (norm : ℕ → ℕ) (first : ℕ → Input) (x₀ y₀ : Word) where
  pub record Apart (D : Sheet T) : Type 0 where
    pub pair : Pair 𝓣 M x₀ y₀ D
    pub fork : Fork 𝓣 M norm first
    pub fork_of : ForkOf 𝓣 M norm first fork D pair.first pair.second pair.first_sum pair.second_sum

  pub record Written (D E : Sheet T) : Type 0 where
    pub apart : Apart D
    pub taken : Taken 𝓣 M (row_word 𝓣 M norm first apart.fork) (first apart.fork.later)
    pub grown : Grown D apart.fork.later (row_with 𝓣 M norm first apart.fork (offset 𝓣 M first apart.fork.later (row_word 𝓣 M norm first apart.fork))) E

  pub data History (D : Sheet T) : ℕ → Sheet T → Type 0 where
    none_written : History D 0 D
    one_written : {k : ℕ} {E E' : Sheet T} → History D k E → Written E E' → History D (suc k) E'

  pub data Ending (D : Sheet T) : Type 0 where
    -- a row whose symbol has a rule where its word has no step, or the other way round
    rule_of_symbol : (A a : ℕ) (m n : Weighted T) → D A ≡ Some m → M.rule A a ≡ Some n → step M m.word a ≡ None → Ending D
    rule_of_word : (A a : ℕ) (m n : Weighted T) → D A ≡ Some m → M.rule A a ≡ None → step M m.word a ≡ Some n → Ending D
    -- a pair with two norms
    unlike_norms : (P : Pair 𝓣 M x₀ y₀ D) → norms norm P.first < norms norm P.second → Ending D
    -- a pair with one normal form, and two sums
    unlike_sums : (P : Pair 𝓣 M x₀ y₀ D) (z : Word) (s r : T) → Normal 𝓣 D P.first z s → Normal 𝓣 D P.second z r → ¬ (𝓣.add P.first_sum s ≡ 𝓣.add P.second_sum r) → Ending D
    -- normal forms apart at A and the earlier B: A cannot run B's first input
    no_run : (P : Pair 𝓣 M x₀ y₀ D) (A B : ℕ) (u a b : Word) (s r : T) → Normal 𝓣 D P.first (u ++ (A ∷ a)) s → Normal 𝓣 D P.second (u ++ (B ∷ b)) r →
        Earlier norm B A → ran 𝓣 M (A ∷ []) (first B) ≡ None → Ending D
    -- or what is left of A is too heavy
    too_heavy : (P : Pair 𝓣 M x₀ y₀ D) (A B : ℕ) (u a b : Word) (s r : T) (m : Weighted T) → Normal 𝓣 D P.first (u ++ (A ∷ a)) s → Normal 𝓣 D P.second (u ++ (B ∷ b)) r →
        norms norm P.first ≡ norms norm P.second → ran 𝓣 M (A ∷ []) (first B) ≡ Some m → norm A < norm B + norms norm m.word → Ending D
    -- or the row's word does not take A's first input
    no_offset : (P : Apart D) → takes 𝓣 M (row_word 𝓣 M norm first P.fork) (first P.fork.later) ≡ None → Ending D

  abbrev pub WitnessLaw : ℕ → Type 0
  WitnessLaw v = Limited M norm v → Given M x₀ → Given M y₀ → (D E : Sheet T) (n k : ℕ) →
      Ranked M.count norm (unweighed D) → ((A : ℕ) (m : Weighted T) → D A ≡ Some m → TrueRow 𝓣 M A m) → History D k E → Ending E → k < n →
      (t : Input) × Differ 𝓣 M x₀ y₀ t × (length t ≤ 8 * n * v)

  abbrev pub HistoryLaw : Type 0
  HistoryLaw = (D E : Sheet T) (k : ℕ) → Ranked M.count norm (unweighed D) → History D k E → Ranked M.count norm (unweighed E) × (marked E M.count ≡ k + marked D M.count)
