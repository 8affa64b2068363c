-- What a call does to every history of the comparer.
--
-- HistoryOver 𝓣 s es V    the events es lead to the rows of V, over the grammar of the survey s
-- LawOver 𝓣 s es V        the law of these events and rows
-- Lawful 𝓣 c e d          the call of the event e leads from the comparer c to d: the grammar is the same, and every history of c goes on to one of d, which has the law
-- LawFor 𝓣 M              every history over the grammar M has the law
--
-- Assumes nothing.
use Rattle.std.specs.Prelude.{ℕ, List, ◌∷◌}
use Rattle.tally.specs.Group.{Group}
use Rattle.grammar.specs.Meaning.{Input, Meaning}
use Rattle.norm.specs.Norms.{Normed}
use Rattle.rows.specs.Sheets.{View}
use Rattle.survey.specs.Refusals.{Accepted}
use Rattle.survey.specs.Surveyed.{surveyed, norm_in, first_in}
use Rattle.survey.specs.declared.table.Survey.{Survey}
use Rattle.calls.specs.Histories.{Event, History}
use Rattle.calls.specs.Laws.{Law}
use Rattle.comparer.specs.Comparers.{rows_of, Over, SameGrammar}
use Rattle.comparer.specs.declared.comparer.Comparer.{Comparer}

module _ {T : Type 0} (𝓣 : Group T) where
  abbrev pub HistoryOver : Survey T → List (Event T) → View → Type 0
  HistoryOver s = History 𝓣 (surveyed s) (norm_in s) (first_in s)

  abbrev pub LawOver : Survey T → List (Event T) → View → Type 0
  LawOver s = Law 𝓣 (surveyed s) (norm_in s) (first_in s)

  pub record Lawful (c : Comparer T) (e : Event T) (d : Comparer T) : Type 0 where
    pub same_grammar : SameGrammar c d
    pub history : (s : Survey T) → Over c s → (es : List (Event T)) → HistoryOver s es (rows_of c) → HistoryOver s (e ∷ es) (rows_of d)
    pub law : (s : Survey T) → Over c s → (es : List (Event T)) → HistoryOver s es (rows_of c) → LawOver s (e ∷ es) (rows_of d)

  abbrev pub LawFor : Meaning T → Type 0
  LawFor M = (norm : ℕ → ℕ) (first : ℕ → Input) → Accepted 32 64 𝓣 M → Normed 𝓣 M norm first →
      (es : List (Event T)) (V : View) → History 𝓣 M norm first es V → Law 𝓣 M norm first es V
