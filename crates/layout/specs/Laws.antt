-- The laws of the file check, for bytes and a tally with the kinds ks.
--
-- Bytes bs         each is below 256
-- FileLaw ks bs    the check accepts just the encodings of legal contents with these kinds, and refuses with just what is wrong
-- OneContents      legal contents with one encoding are the same contents
-- AnyLaw bs        for the kinds that a file states itself: just the encodings of legal contents are accepted, and a fault is what is wrong, never the kinds
-- RowsLaw total n bs   reading a section of rows gives just the legal rows over n symbols whose bytes come first, and the rest
--
-- Assumes nothing.
use Rattle.std.specs.Prelude.{◌≡◌, ℕ, ◌<◌, ◌↔◌, List, ◌++◌, Ok, Err}
use Rattle.layout.specs.Contents.{FileRow, Contents, All, LegalRows, Legal, rows_bytes, encode}
use Rattle.layout.specs.Reading.{rows, checked, checked_any}
use Rattle.layout.specs.Wrong.{Wrong}
use Rattle.layout.specs.declared.fault.Fault.{Fault}
use Rattle.layout.specs.declared.fault.Fault.TheVariants.{Kinds}

abbrev pub Bytes : List ℕ → Type 0
Bytes = All (λ b. b < 256)

pub record FileLaw (ks bs : List ℕ) : Type 0 where
  pub accepted : (c : Contents) → (checked ks bs ≡ Ok c) ↔ (Legal c × (c.kinds ≡ ks) × (bs ≡ encode c))
  pub refused : (f : Fault) → (checked ks bs ≡ Err f) ↔ Wrong ks bs f

abbrev pub OneContents : Type 0
OneContents = (c d : Contents) → Legal c → Legal d → encode c ≡ encode d → c ≡ d

pub record AnyLaw (bs : List ℕ) : Type 0 where
  pub accepted : (c : Contents) → (checked_any bs ≡ Ok c) ↔ (Legal c × (bs ≡ encode c))
  pub refused : (f : Fault) → (checked_any bs ≡ Err f) ↔ ((¬ (f ≡ Kinds)) × ((ks : List ℕ) × Wrong ks bs f))

abbrev pub RowsLaw : ℕ → ℕ → List ℕ → Type 0
RowsLaw total n bs = (rs : List FileRow) (rest : List ℕ) → (rows total n bs ≡ Ok (record { value = rs; rest = rest })) ↔ (LegalRows n rs × (bs ≡ rows_bytes rs ++ rest))
