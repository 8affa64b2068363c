-- What the exports answer.
--
-- refused_told c          what is told of a refusal: verdict 2, the fault's number, and its two numbers
-- check_told o            what is told of a file's check: verdict 0, or the refusal
-- run_told r              what is told of a run: verdict 0 with the tally, 1 where the input is not taken, or the refusal
-- compare_told r          what is told of a comparison and the length of its rows: verdict 0 with that length, 1 with it and the input's length, or the refusal
-- foot_meaning bs         the grammar that the bytes of a file with foot lengths hold; without symbols where the check refuses them
--
-- Over a new comparer of the grammar M, which may be refused:
-- Ran 𝓣 M w s r           r is what the run of s from w comes to
-- Answered … o p q a n    a is the answer about x and y, with o in the buffer of the input; the rows that the comparison leaves fill the first n bytes of q, which was p
-- Compared … o p q r      r is such an answer, or the refusal of the grammar, of the words and the buffer of the input, or of that of the rows
--
-- Assumes nothing.
use Rattle.std.specs.Prelude.{◌≡◌, ℕ, ◌⊎◌, List, [], ◌∷◌, ◌++◌, length, drop, Some, None, Ok, Err, Option, Result}
use Rattle.tally.specs.Group.{Group}
use Rattle.tally.specs.declared.foot_mm.FootMm.{FootMm}
use Rattle.layout.specs.declared.kind.Kind.TheVariants.{Foot}
use Rattle.format.specs.Kinds.{only_kinds, only_made, foot_numbered}
use Rattle.file_grammar.specs.Filed.{file_meaning}
use Rattle.grammar.specs.Meaning.{Word, Input, Meaning}
use Rattle.grammar.specs.Takes.{takes}
use Rattle.layout.specs.Contents.{Contents}
use Rattle.layout.specs.Faults as files
use Rattle.layout.specs.declared.fault.Fault.{Fault}
use Rattle.layout.specs.declared.fault.FaultCode.{FaultCode}
use Rattle.rows.specs.Sheets.{View}
use Rattle.survey.specs.Laws.{Surveys}
use Rattle.survey.specs.Refusals.{Refused}
use Rattle.survey.specs.declared.fault.GrammarFault.{GrammarFault}
use Rattle.survey.specs.declared.table.Survey.{Survey}
use Rattle.calls.specs.Faults as calls
use Rattle.calls.specs.Histories.{compared}
use Rattle.calls.specs.Laws.{Decides}
use Rattle.calls.specs.Offers.{copied}
use Rattle.calls.specs.Refusals.{compare_fault, run_fault, copy_fault}
use Rattle.calls.specs.declared.answer.Answer.{Answer}
use Rattle.calls.specs.declared.answer.Answer.TheVariants.{Same, Different}
use Rattle.calls.specs.declared.fault.CallFault.{CallFault}
use Rattle.calls.specs.declared.fault.CallFault.TheVariants.{Grammar}
use Rattle.comparer.specs.Comparers.{comparing}
use Rattle.comparer.specs.Lawful.{HistoryOver}
use Rattle.exported.specs.declared.told.Told.{Told}

abbrev pub told : ℕ → ℕ → ℕ → ℕ → Told
told v k m n = record { verdict = v; number = k; first = m; second = n }

abbrev pub refused_told : FaultCode → Told
refused_told c = told 2 c.number c.first c.second

abbrev pub check_told : Result Contents Fault → Told
check_told (Ok c) = told 0 0 0 0
check_told (Err f) = refused_told (files.code_of f)

abbrev pub run_told : Result (Option FootMm) CallFault → Told
run_told (Ok (Some t)) = told 0 0 t.mm 0
run_told (Ok None) = told 1 0 0 0
run_told (Err f) = refused_told (calls.code_of f)

abbrev pub compare_told : Result (Answer × ℕ) CallFault → Told
compare_told (Ok (Same, n)) = told 0 0 n 0
compare_told (Ok (Different k, n)) = told 1 0 n k
compare_told (Err f) = refused_told (calls.code_of f)

abbrev pub foot_meaning : List ℕ → Meaning FootMm
foot_meaning bs = file_meaning (only_kinds Foot) (only_made foot_numbered) bs

module _ {T : Type 0} (𝓣 : Group T) (M : Meaning T) where
  -- the grammar is refused
  abbrev pub Without : CallFault → Type 0
  Without f = (g : GrammarFault) × Refused 32 64 𝓣 M g × (f ≡ Grammar g)

  abbrev pub Ran : Word → Input → Result (Option T) CallFault → Type 0
  Ran w s (Ok o) = o ≡ takes 𝓣 M w s
  Ran w s (Err f) = Without f ⊎ (run_fault M.count w s ≡ Some f)

  -- the buffer of the input has so many bytes
  module _ (x y : Word) (room : ℕ) (o p q : List ℕ) where
    pub record Answered (a : Answer) (n : ℕ) : Type 0 where
      pub decided : Decides 𝓣 M x y (comparing (Ok a) o)
      -- the rows are those that this one comparison leads to
      pub survey : Survey T
      pub surveys : Surveys 32 64 𝓣 M survey
      pub view : View
      pub history : HistoryOver 𝓣 survey (compared x y room (comparing (Ok a) o) ∷ []) view
      pub size : n ≡ length (copied view)
      pub written : q ≡ copied view ++ drop (length (copied view)) p

    abbrev pub Compared : Result (Answer × ℕ) CallFault → Type 0
    Compared (Ok (a, n)) = Answered a n
    Compared (Err f) = Without f ⊎ ((compare_fault M.count x y room ≡ Some f) ⊎ (copy_fault (length p) ≡ Some f))
