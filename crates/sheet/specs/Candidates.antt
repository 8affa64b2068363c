-- Candidate rows: bytes that are one section of rows.
--
-- candidates n bs      the rows over n symbols that bs hold, with nothing behind them; or the first fault in reading order
-- Offers n o result    the result is a sheet of the rows o, where they are over at most 32 symbols; or the fault o
-- CandidatesLaw n bs   just the bytes of legal rows over n symbols are candidates
--
-- Assumes nothing.
use Rattle.std.specs.Prelude.{◌≡◌, ℕ, ◌≤◌, ◌↔◌, List, length, Ok, Err, Result}
use Rattle.layout.specs.Contents.{FileRow, LegalRows, rows_bytes}
use Rattle.layout.specs.Reading.{then, rows, ended, value_of}
use Rattle.layout.specs.declared.fault.Fault.{Fault}
use Rattle.sheet.specs.Rowed.{shows, row_at}
use Rattle.sheet.specs.declared.sheet.Sheet.{Sheet}

abbrev pub candidates : ℕ → List ℕ → Result (List FileRow) Fault
candidates n bs = value_of (then (rows (length bs) n bs) (ended (length bs)))

abbrev pub Offers : ℕ → Result (List FileRow) Fault → Result Sheet Fault → Type 0
Offers n o (Ok s) = (rs : List FileRow) × (o ≡ Ok rs) × (n ≤ 32 → (A : ℕ) → shows s A ≡ row_at A rs)
Offers n o (Err f) = o ≡ Err f

abbrev pub CandidatesLaw : ℕ → List ℕ → Type 0
CandidatesLaw n bs = (rs : List FileRow) → (candidates n bs ≡ Ok rs) ↔ (LegalRows n rs × (bs ≡ rows_bytes rs))
