-- A comparer, as its calls speak of it.
--
-- rows_of c           the rows that it has
-- Over c s            its grammar is not refused, and s is the survey of it
-- Without c r         its grammar is refused
-- SameGrammar c d     d has the grammar that c has, or the same refused one
-- row_read r          a row that was told, as a word with its offset
-- comparing r o       what a comparison comes to that answers r, with o in the buffer then
-- offering n bs r     the offer of the bytes bs over n symbols, with the answer r, as an event: the rows that were taken, or the fault
-- refused_offer r o  what an offer is refused for over a refused grammar: the first fault of the bytes, or the fault of the grammar
-- after_offer … V bs r W   over the rows of V, the offer of bs comes to r, and leaves the rows of W: with those that were taken, or as they were
-- sheet_after … V bs r   over the rows of V, the offer of bs comes to r: a sheet of these rows with those that were taken, or the fault
-- copying k r o       a copy to a buffer of k bytes that answers r, with o in the buffer then, as an event
-- CarriedOver … M V r   a new comparer over a grammar of the meaning M is made, and offered a copy of the rows of V; this comes to r: the comparer with these rows, or the fault of the offer
--
-- Assumes nothing.
use Rattle.std.specs.Prelude.{◌≡◌, ℕ, List, [], take, None, Ok, Err, Result}
use Rattle.std.specs.Borrow.{Bor}
use Rattle.tally.specs.Group.{Group}
use Rattle.grammar.specs.Meaning.{Weighted, Meaning}
use Rattle.layout.specs.Contents.{FileRow}
use Rattle.layout.specs.declared.fault.Fault.{Fault}
use Rattle.rows.specs.Sheets.{View}
use Rattle.sheet.specs.Rowed.{shows}
use Rattle.sheet.specs.Candidates.{candidates}
use Rattle.sheet.specs.declared.sheet.Sheet.{Sheet}
use Rattle.survey.specs.Laws.{Surveys}
use Rattle.survey.specs.Refusals.{Refused as RefusedFor}
use Rattle.survey.specs.Surveyed.{surveyed, norm_in, first_in}
use Rattle.survey.specs.declared.table.Survey.{Survey}
use Rattle.calls.specs.Histories.{Comparing, refused, same, different, Event, offered, copied_to}
use Rattle.calls.specs.declared.answer.Answer.{Answer}
use Rattle.calls.specs.declared.answer.Answer.TheVariants.{Same, Different}
use Rattle.calls.specs.Offers.{Offered, with_rows, copied}
use Rattle.calls.specs.declared.fault.CallFault.{CallFault}
use Rattle.calls.specs.declared.fault.CallFault.TheVariants.{File, Grammar}
use Rattle.comparer.specs.declared.comparer.Comparer.{Comparer}
use Rattle.comparer.specs.declared.desk.Desk.{Desk}
use Rattle.comparer.specs.declared.refused.Refused.{Refused}

module _ {T : Type 0} where
  abbrev pub rows_of : Comparer T → View
  rows_of c = shows c.sheet

  abbrev pub has_survey : Result (Desk T) Refused → Survey T → Type 0
  has_survey (Ok d) s = d.survey ≡ s
  has_survey (Err r) s = ⊥

  abbrev pub Over : Comparer T → Survey T → Type 0
  Over c = has_survey c.desk

  abbrev pub Without : Comparer T → Refused → Type 0
  Without c r = c.desk ≡ Err r

  pub record SameGrammar (c d : Comparer T) : Type 0 where
    pub over : (s : Survey T) → Over c s → Over d s
    pub without : (r : Refused) → Without c r → Without d r

abbrev pub row_read : {T : Type 0} → Bor (List ℕ) × T → Weighted T
row_read r = record { word = r.0.now; tally = r.1 }

abbrev pub comparing : Result Answer CallFault → List ℕ → Comparing
comparing (Ok Same) o = same
comparing (Ok (Different n)) o = different (take n o)
comparing (Err f) o = refused f

abbrev pub rows_read : Result (List FileRow) Fault → List FileRow
rows_read (Ok rs) = rs
rows_read (Err f) = []

abbrev pub offering : {T : Type 0} → ℕ → List ℕ → Result (Unit {0}) CallFault → Event T
offering n bs (Ok u) = offered bs (Ok (rows_read (candidates n bs)))
offering n bs (Err f) = offered bs (Err f)

abbrev pub copying : {T : Type 0} → ℕ → Result ℕ CallFault → List ℕ → Event T
copying k (Ok n) o = copied_to k (Ok (take n o))
copying k (Err f) o = copied_to k (Err f)

abbrev pub refused_offer : Refused → Result (List FileRow) Fault → CallFault
refused_offer r (Ok rs) = Grammar r.fault
refused_offer r (Err f) = File f

abbrev pub after_offer : {T : Type 0} → Group T → Survey T → View → List ℕ → Result (Unit {0}) CallFault → View → Type 0
after_offer 𝓣 s V bs (Ok u) W = (rs : List FileRow) × Offered 𝓣 (surveyed s) (norm_in s) (first_in s) V bs (Ok rs) × ((A : ℕ) → W A ≡ with_rows V rs A)
after_offer 𝓣 s V bs (Err f) W = Offered 𝓣 (surveyed s) (norm_in s) (first_in s) V bs (Err f) × ((A : ℕ) → W A ≡ V A)

abbrev pub sheet_after : {T : Type 0} → Group T → Survey T → View → List ℕ → Result Sheet CallFault → Type 0
sheet_after 𝓣 s V bs (Ok t) = after_offer 𝓣 s V bs (Ok tt) (shows t)
sheet_after 𝓣 s V bs (Err f) = after_offer 𝓣 s V bs (Err f) V

pub data CarriedOver {T : Type 0} (𝓣 : Group T) (M : Meaning T) (V : View) : Result (Comparer T) CallFault → Type 0 where
  -- the grammar is refused
  not_over : (q : Refused) → RefusedFor 32 64 𝓣 M q.fault → q.count ≡ M.count → CarriedOver 𝓣 M V (Err (refused_offer q (candidates q.count (copied V))))
  not_taken : (t : Survey T) (f : CallFault) (W : View) → Surveys 32 64 𝓣 M t → after_offer 𝓣 t (λ A. None) (copied V) (Err f) W → CarriedOver 𝓣 M V (Err f)
  taken : (t : Survey T) (d : Comparer T) → Surveys 32 64 𝓣 M t → Over d t → after_offer 𝓣 t (λ A. None) (copied V) (Ok tt) (rows_of d) → CarriedOver 𝓣 M V (Ok d)
