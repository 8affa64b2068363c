-- What is asked of two words, and what an answer says.
--
-- asked r o                what the comparison came to that a question made; o is in the buffer then
-- Shown 𝓣 M x y s p q      x and y differ on the short input s, and p and q are what they make of it
-- Tells 𝓣 M x y D o a      a is an answer about x and y, over the rows of the sheet D, with o in the buffer: they are the same, and D proves it; or the front of o shows that they differ
-- TellsOf 𝓣 M N x y o a    the same of a word x of one grammar and a word y of another, each by its own grammar
--
-- A question about two words x and z of the twin of M and N, with a buffer of so many bytes:
-- fault_of 𝓣 M N x z room     what is wrong with the words or the buffer, if anything is
-- Refuses 𝓣 M N x z room f    it is refused for f: the fault of the twin; or, where the twin is accepted, the fault of the words or the buffer
-- Answers 𝓣 M N x z room o a  it is refused for nothing, and a is its answer with the comparer that gave it: a new one of the twin, of which nothing else was asked; o is in the buffer then
-- AnswersOf 𝓣 M N x z room o r    r is one of the two
--
-- Assumes nothing.
use Rattle.std.specs.Prelude.{◌≡◌, ℕ, ◌+◌, ◌≤◌, ◌⊎◌, List, [], ◌∷◌, take, length, Some, Ok, Err, None, Option, Result}
use Rattle.tally.specs.Group.{Group}
use Rattle.grammar.specs.Meaning.{Word, Input, Meaning}
use Rattle.grammar.specs.Takes.{takes, Differ}
use Rattle.grammar.specs.Takes as taking
use Rattle.grammar.specs.Twinned.{twinned}
use Rattle.rows.specs.Sheets.{Sheet, weighed, Proves}
use Rattle.survey.specs.Laws.{Surveys}
use Rattle.survey.specs.Refusals.{Accepted, Refused}
use Rattle.survey.specs.Surveyed.{first_in}
use Rattle.survey.specs.declared.fault.GrammarFault.{GrammarFault}
use Rattle.survey.specs.declared.table.Survey.{Survey}
use Rattle.calls.specs.Histories.{Comparing, refused, same, different, compared}
use Rattle.calls.specs.Refusals.{compare_fault}
use Rattle.calls.specs.declared.fault.CallFault.{CallFault}
use Rattle.calls.specs.declared.fault.CallFault.TheVariants.{Grammar}
use Rattle.comparer.specs.Comparers.{rows_of, Over}
use Rattle.comparer.specs.Lawful.{HistoryOver}
use Rattle.asking.specs.declared.outcome.Outcome.{Outcome}
use Rattle.asking.specs.declared.outcome.Outcome.TheVariants.{Same, Different}
use Rattle.asking.specs.declared.outcome.Answered.{Answered}

abbrev pub asked : {T : Type 0} → Result (Outcome T) CallFault → List ℕ → Comparing
asked (Ok Same) o = same
asked (Ok (Different n p q)) o = different (take n o)
asked (Err f) o = refused f

module _ {T : Type 0} (𝓣 : Group T) where
  module _ (M : Meaning T) (x y : Word) where
    pub record Shown (s : Input) (p q : Option T) : Type 0 where
      pub differ : Differ 𝓣 M x y s
      pub short : length s ≤ 16384
      pub one : p ≡ takes 𝓣 M x s
      pub two : q ≡ takes 𝓣 M y s

    abbrev pub Tells : Sheet T → List ℕ → Outcome T → Type 0
    Tells D o Same = taking.Same 𝓣 M x y × Proves 𝓣 D x y
    Tells D o (Different n p q) = Shown (take n o) p q

  module _ (M N : Meaning T) (x y : Word) where
    abbrev pub TellsOf : List ℕ → Outcome T → Type 0
    TellsOf o Same = (s : Input) → takes 𝓣 M x s ≡ takes 𝓣 N y s
    TellsOf o (Different n p q) = (p ≡ takes 𝓣 M x (take n o)) × (q ≡ takes 𝓣 N y (take n o)) × (¬ (p ≡ q))

  module _ (M N : Meaning T) (x z : Word) where
    abbrev pub fault_of : ℕ → Option CallFault
    fault_of room = compare_fault (M.count + N.count) x z room

    abbrev pub Refuses : ℕ → CallFault → Type 0
    Refuses room f = ((g : GrammarFault) × Refused 32 64 𝓣 (twinned M N) g × (f ≡ Grammar g)) ⊎ (Accepted 32 64 𝓣 (twinned M N) × (fault_of room ≡ Some f))

    -- one call led to the comparer's rows: the comparison of the two words
    pub record Answers (room : ℕ) (o : List ℕ) (a : Answered T) : Type 0 where
      pub survey : Survey T
      pub surveys : Surveys 32 64 𝓣 (twinned M N) survey
      pub free : fault_of room ≡ None
      pub over : Over a.comparer survey
      pub history : HistoryOver 𝓣 survey (compared x z room (asked (Ok a.outcome) o) ∷ []) (rows_of a.comparer)
      pub told : Tells (twinned M N) x z (weighed 𝓣 (twinned M N) (first_in survey) (rows_of a.comparer)) o a.outcome

    abbrev pub AnswersOf : ℕ → List ℕ → Result (Answered T) CallFault → Type 0
    AnswersOf room o (Ok a) = Answers room o a
    AnswersOf room o (Err f) = Refuses room f
