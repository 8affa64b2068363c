-- Runs that may stop in the middle of a word, and the words of rules without their tallies.
--
-- ran 𝓣 M w s     what is left of w, and the tally, when the letters of s are used in turn; none where a step is missing
-- Words           for a symbol and a letter the word of the rule, if there is one
-- words_of M      the words of a grammar's rules
-- body o          the word of a rule; empty where there is none
-- reads R w s     what is left of w when the letters of s are used in turn, by the words of rules alone
-- Lives R A       the symbol A takes some input
-- Barren R A      it takes none
--
-- Assumes nothing.
use Rattle.std.specs.Prelude.{◌≡◌, ℕ, [], ◌∷◌, ◌++◌, Some, None, Option}
use Rattle.std.specs.Option.{option_map}
use Rattle.tally.specs.Group.{Group}
use Rattle.grammar.specs.Meaning.{Word, Input, Weighted, Meaning}
use Rattle.grammar.specs.Takes.{step}

-- with p added to the tally
abbrev pub raised : {T : Type 0} → Group T → T → Option (Weighted T) → Option (Weighted T)
raised 𝓣 p None = None
raised 𝓣 p (Some m) = Some (record { word = m.word; tally = 𝓣.add p m.tally })

abbrev pub onward : {T : Type 0} → Group T → (Word → Option (Weighted T)) → Option (Weighted T) → Option (Weighted T)
onward 𝓣 k None = None
onward 𝓣 k (Some m) = raised 𝓣 m.tally (k m.word)

abbrev pub ran : {T : Type 0} → Group T → Meaning T → Word → Input → Option (Weighted T)
ran 𝓣 M w [] = Some (record { word = w; tally = 𝓣.zero })
ran 𝓣 M w (a ∷ s) = onward 𝓣 (λ x. ran 𝓣 M x s) (step M w a)

abbrev pub Words : Type 0
Words = ℕ → ℕ → Option Word

abbrev pub words_of : {T : Type 0} → Meaning T → Words
words_of M A a = option_map (λ m. m.word) (M.rule A a)

abbrev pub body : Option Word → Word
body (Some w) = w
body None = []

abbrev pub passed : (Word → Option Word) → Option Word → Option Word
passed k None = None
passed k (Some w) = k w

abbrev pub reads : Words → Word → Input → Option Word
reads R w [] = Some w
reads R [] (a ∷ s) = None
reads R (A ∷ r) (a ∷ s) = passed (λ v. reads R (v ++ r) s) (R A a)

abbrev pub Lives : Words → ℕ → Type 0
Lives R A = (s : Input) × (reads R (A ∷ []) s ≡ Some [])

abbrev pub Barren : Words → ℕ → Type 0
Barren R A = (s : Input) → ¬ (reads R (A ∷ []) s ≡ Some [])
