-- Which grammars are accepted, and what the others are refused for. n is the most symbols, v the greatest norm.
--
-- max_rule               the most symbols of a rule's word
-- Sized n M              there are symbols, and at most n
-- Fine k M A a           the rule at A and a, if there is one, has at most 4 symbols, each below k
-- BadRule k M A a f      f is what is wrong with the rule at A and a
-- Sooner A a B b         the rule at A and a is visited before the one at B and b: by symbol, then letter
-- TakesSome, TakesNone   the symbol takes some input, or none
-- Within, Passes v A     it takes an input of at most v letters; all that it takes are longer: its norm passes v
-- Accepted n v 𝓣 M       nothing is to be refused
-- Refused n v 𝓣 M f      f is the first fault: each case says what is wrong, and that nothing is before it
--
-- Assumes nothing.
use Rattle.std.specs.Prelude.{◌≡◌, ℕ, ◌<◌, ◌≤◌, ◌⊎◌, [], ◌∷◌, length, None}
use Rattle.tally.specs.Group.{Group}
use Rattle.grammar.specs.Meaning.{Input, Meaning, Below, word_of}
use Rattle.grammar.specs.Takes.{takes}
use Rattle.norm.specs.Norms.{Taken}
use Rattle.survey.specs.declared.fault.GrammarFault.{GrammarFault}
use Rattle.survey.specs.declared.fault.GrammarFault.TheVariants.{Count, LongRule, StraySymbol, NoInput, TooLong}

abbrev pub max_rule : ℕ
max_rule = 4

abbrev pub Sooner : ℕ → ℕ → ℕ → ℕ → Type 0
Sooner A a B b = (A < B) ⊎ ((A ≡ B) × (a < b))

module _ {T : Type 0} where
  pub record Sized (n : ℕ) (M : Meaning T) : Type 0 where
    pub some : 1 ≤ M.count
    pub few : M.count ≤ n

  pub record Fine (k : ℕ) (M : Meaning T) (A a : ℕ) : Type 0 where
    pub short : length (word_of (M.rule A a)) ≤ max_rule
    pub known : Below k (word_of (M.rule A a))

  pub data BadRule (k : ℕ) (M : Meaning T) (A a : ℕ) (f : GrammarFault) : Type 0 where
    -- 9: it has more than 4 symbols
    too_many : max_rule < length (word_of (M.rule A a)) → f ≡ LongRule A a → BadRule k M A a f
    -- 10: it has few enough, and names one that is not below k
    strays : length (word_of (M.rule A a)) ≤ max_rule → ¬ Below k (word_of (M.rule A a)) → f ≡ StraySymbol A a → BadRule k M A a f

module _ {T : Type 0} (𝓣 : Group T) (M : Meaning T) where
  abbrev pub TakesSome : ℕ → Type 0
  TakesSome A = (s : Input) × Taken 𝓣 M (A ∷ []) s

  abbrev pub TakesNone : ℕ → Type 0
  TakesNone A = (s : Input) → takes 𝓣 M (A ∷ []) s ≡ None

  abbrev pub Within : ℕ → ℕ → Type 0
  Within v A = (s : Input) × Taken 𝓣 M (A ∷ []) s × (length s ≤ v)

  abbrev pub Passes : ℕ → ℕ → Type 0
  Passes v A = (s : Input) → Taken 𝓣 M (A ∷ []) s → v < length s

module _ {T : Type 0} (n v : ℕ) (𝓣 : Group T) (M : Meaning T) where
  pub record Accepted : Type 0 where
    pub sized : Sized n M
    pub rules : (A a : ℕ) → Fine M.count M A a
    pub norms : (A : ℕ) → A < M.count → Within 𝓣 M v A

  pub data Refused (f : GrammarFault) : Type 0 where
    -- 8: no symbol, or more than n
    bad_count : ¬ Sized n M → f ≡ Count M.count → Refused f
    -- 9 and 10: a rule is not fine, and those before it are
    bad_rule : Sized n M → (A a : ℕ) → ((B b : ℕ) → Sooner B b A a → Fine M.count M B b) → BadRule M.count M A a f → Refused f
    -- 11: all rules are fine; a symbol takes no input, and those of smaller number take one
    no_input : Sized n M → ((B b : ℕ) → Fine M.count M B b) → (A : ℕ) → A < M.count → TakesNone 𝓣 M A → ((B : ℕ) → B < A → TakesSome 𝓣 M B) → f ≡ NoInput A → Refused f
    -- 12: all rules are fine and all symbols take an input; the norm of one passes v, and of those of smaller number none does
    too_long : Sized n M → ((B b : ℕ) → Fine M.count M B b) → ((B : ℕ) → B < M.count → TakesSome 𝓣 M B) → (A : ℕ) → A < M.count → Passes 𝓣 M v A → ((B : ℕ) → B < A → Within 𝓣 M v B) → f ≡ TooLong A → Refused f
