-- The rows of a sheet, as the table and the marks hold them.
--
-- view rs m A        the word of the marked row of A: what unmarked places hold does not show
-- shown v, shows s   the view of a lent sheet, and of a sheet
-- with_row V A w     the view V with the row w for A
-- NextRow V k A      A is the least symbol from k on that has a row
-- Fits r             the row r of a file has a place in a sheet
-- row_at A rs        the word of the last of the rows rs that is A's, if there is one
-- over o p           o, or p where o is none
--
-- Assumes nothing.
use Rattle.std.specs.Prelude.{◌≡◌, ℕ, ◌<◌, ◌≤◌, cond, ◌==◌, List, [], ◌∷◌, length, Option, Some, None}
use Rattle.std.specs.List.{slice_get}
use Rattle.std.specs.Option.{option_map}
use Rattle.grammar.specs.Meaning.{Word}
use Rattle.layout.specs.Contents.{FileRow}
use Rattle.rows.specs.Sheets.{View}
use Rattle.sheet.specs.Marked.{has}
use Rattle.norm.specs.Tabled.{held}
use Rattle.norm.specs.declared.short_word.ShortWord.{ShortWord}
use Rattle.sheet.specs.declared.view.SheetView.{SheetView}
use Rattle.sheet.specs.declared.sheet.Sheet.{Sheet}

abbrev pub view : List (ShortWord 64) → ℕ → View
view rs m A = cond (has m A) (option_map held (slice_get rs A)) None

abbrev pub shown : SheetView → View
shown v = view v.rows.now v.marks.bits

abbrev pub shows : Sheet → View
shows s = view s.rows s.marks.bits

abbrev pub with_row : View → ℕ → Word → View
with_row V A w C = cond (C == A) (Some w) (V C)

pub record NextRow (V : View) (k A : ℕ) : Type 0 where
  pub from : k ≤ A
  pub word : Word
  pub is : V A ≡ Some word
  pub before : (B : ℕ) → k ≤ B → B < A → V B ≡ None

pub record Fits (r : FileRow) : Type 0 where
  pub symbol : r.symbol < 32
  pub short : length r.word ≤ 64

abbrev pub over : {X : Type 0} → Option X → Option X → Option X
over None p = p
over (Some x) p = Some x

abbrev pub row_at : ℕ → List FileRow → Option Word
row_at A [] = None
row_at A (r ∷ rs) = over (row_at A rs) (cond (A == r.symbol) (Some r.word) None)
