-- What is proved of norms and first inputs.
--
-- NormLaws 𝓣 M norm first    the laws of norms and first inputs in the grammar M
-- NormsLaw 𝓣                 they hold in every well-formed grammar whose rules name only its symbols
-- OneNormed 𝓣                a grammar has one norm and one first input for each symbol
-- CertificateLaw 𝓣           a certificate gives the norms and first inputs of symbols with norms within its limit, and says what passes it
--
-- Assumes nothing.
use Rattle.std.specs.Prelude.{◌≡◌, ℕ, suc, ◌+◌, ◌<◌, ◌≤◌, ◌↔◌, [], ◌∷◌, ◌++◌, length, Some}
use Rattle.tally.specs.Group.{Group}
use Rattle.grammar.specs.Meaning.{Word, Input, Weighted, Meaning, Each, Below, WellFormed}
use Rattle.grammar.specs.Takes.{step, takes}
use Rattle.norm.specs.Words.{ran, words_of}
use Rattle.norm.specs.Norms.{Taken, First, Normed, norms, firsts, Closed}
use Rattle.norm.specs.Certified.{Certified, spelled}

pub record NormLaws {T : Type 0} (𝓣 : Group T) (M : Meaning T) (norm : ℕ → ℕ) (first : ℕ → Input) : Type 0 where
  -- an input that is taken is no shorter than the norm of the word
  pub shortest : (w : Word) (s : Input) → Taken 𝓣 M w s → norms norm w ≤ length s
  -- the first input of a word of the grammar's symbols is its symbols' first inputs, and as long as the norm
  pub first_input : (w : Word) → Below M.count w → First 𝓣 M w (firsts first w)
  pub size : (w : Word) → Below M.count w → length (firsts first w) ≡ norms norm w
  -- a norm is at least 1, so a word has at most as many symbols as its norm
  pub positive : (A : ℕ) → A < M.count → 1 ≤ norm A
  pub long_enough : (w : Word) → Below M.count w → length w ≤ norms norm w
  -- of concatenations
  pub norms_append : (x y : Word) → norms norm (x ++ y) ≡ norms norm x + norms norm y
  pub firsts_append : (x y : Word) → firsts first (x ++ y) ≡ firsts first x ++ firsts first y
  -- a step lowers the norm by at most one, and with the first letter of the first input by one
  pub step_lowers : (w : Word) (a : ℕ) (m : Weighted T) → step M w a ≡ Some m → norms norm w ≤ suc (norms norm m.word)
  pub first_step : (w : Word) (a : ℕ) (s : Input) → Below M.count w → firsts first w ≡ a ∷ s →
      (m : Weighted T) × (step M w a ≡ Some m) × (norms norm w ≡ suc (norms norm m.word)) × (firsts first m.word ≡ s)
  -- a run lowers it by at most the number of letters, and stays with the grammar's symbols
  pub run_lowers : (w : Word) (s : Input) (m : Weighted T) → ran 𝓣 M w s ≡ Some m → norms norm w ≤ length s + norms norm m.word
  pub run_below : (w : Word) (s : Input) (m : Weighted T) → Below M.count w → ran 𝓣 M w s ≡ Some m → Below M.count m.word
  -- a run to the empty word is what is taken
  pub run_takes : (w : Word) (s : Input) (t : T) → (ran 𝓣 M w s ≡ Some (record { word = []; tally = t })) ↔ (takes 𝓣 M w s ≡ Some t)

abbrev pub NormsLaw : {T : Type 0} → Group T → Type 0
NormsLaw {T} 𝓣 = (M : Meaning T) (norm : ℕ → ℕ) (first : ℕ → Input) → WellFormed M → Closed M → Normed 𝓣 M norm first → NormLaws 𝓣 M norm first

abbrev pub OneNormed : {T : Type 0} → Group T → Type 0
OneNormed {T} 𝓣 = (M : Meaning T) (norm norm' : ℕ → ℕ) (first first' : ℕ → Input) → Normed 𝓣 M norm first → Normed 𝓣 M norm' first' →
    (A : ℕ) → A < M.count → (norm A ≡ norm' A) × (first A ≡ first' A)

pub record CertificateLaw {T : Type 0} (𝓣 : Group T) : Type 0 where
  pub within : (v : ℕ) (M : Meaning T) (norm letter : ℕ → ℕ) → Certified v M.count (words_of M) norm letter →
      (w : Word) → Below M.count w → Each (λ A. norm A ≤ v) w → First 𝓣 M w (spelled (words_of M) letter (norms norm w) w) × (length (spelled (words_of M) letter (norms norm w) w) ≡ norms norm w)
  pub beyond : (v : ℕ) (M : Meaning T) (norm letter : ℕ → ℕ) → Certified v M.count (words_of M) norm letter →
      (w : Word) (s : Input) → Taken 𝓣 M w s → norms norm w ≤ length s
