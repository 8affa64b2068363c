-- What becomes of a comparer that is made over the grammar of a file and is offered its rows.
--
-- Opened 𝓣 M rs r    over a grammar of the meaning M, offered the rows rs, it comes to r: a comparer with these rows, or a fault
--
-- Assumes nothing.
use Rattle.std.specs.Prelude.{◌≡◌, ℕ, List, Ok, Err, Result}
use Rattle.tally.specs.Group.{Group}
use Rattle.grammar.specs.Meaning.{Meaning}
use Rattle.layout.specs.Contents.{FileRow, rows_bytes}
use Rattle.survey.specs.Refusals.{Refused}
use Rattle.survey.specs.Laws.{Surveys}
use Rattle.survey.specs.Surveyed.{norm_in, first_in}
use Rattle.survey.specs.declared.fault.GrammarFault.{GrammarFault}
use Rattle.survey.specs.declared.table.Survey.{Survey}
use Rattle.calls.specs.Offers.{Offered, with_rows}
use Rattle.calls.specs.declared.fault.CallFault.{CallFault}
use Rattle.calls.specs.declared.fault.CallFault.TheVariants.{Grammar}
use Rattle.comparer.specs.Comparers.{rows_of}
use Rattle.comparer.specs.declared.comparer.Comparer.{Comparer}
use Rattle.listing.specs.Found.{Led}
use Rattle.listing.specs.Listed.{no_rows}

pub data Opened {T : Type 0} (𝓣 : Group T) (M : Meaning T) (rs : List FileRow) : Result (Comparer T) CallFault → Type 0 where
  -- the grammar is refused
  over_refused : (f : GrammarFault) → Refused 32 64 𝓣 M f → Opened 𝓣 M rs (Err (Grammar f))
  -- the rows are not taken
  not_taken : (s : Survey T) (f : CallFault) → Surveys 32 64 𝓣 M s → Offered 𝓣 M (norm_in s) (first_in s) no_rows (rows_bytes rs) (Err f) → Opened 𝓣 M rs (Err f)
  taken : (s : Survey T) (d : Comparer T) → Surveys 32 64 𝓣 M s → Offered 𝓣 M (norm_in s) (first_in s) no_rows (rows_bytes rs) (Ok rs) → Led 𝓣 s d →
      ((A : ℕ) → rows_of d A ≡ with_rows no_rows rs A) → Opened 𝓣 M rs (Ok d)
