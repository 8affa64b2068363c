-- What is proved of written files.
--
-- Holds ns ks made M V c        c is what a file holds that has the names ns, the kinds ks, the grammar M and the rows of V
-- FileLaw … names M V c         c is written: it is legal and holds just that; the check reads it back; whatever legal contents hold the same are c; and it has at most 14,565 bytes
-- Taken … V c                   the rows of c are taken by a comparer without rows over M, which then has the rows of V
--
-- Assumes nothing.
use Rattle.std.specs.Prelude.{◌≡◌, ℕ, ◌≤◌, List, length, None, Ok}
use Rattle.tally.specs.Group.{Group}
use Rattle.grammar.specs.Meaning.{Input, Meaning}
use Rattle.layout.specs.Contents.{Contents, Legal, rows_bytes, encode}
use Rattle.layout.specs.Reading.{checked}
use Rattle.file_grammar.specs.Filed.{held, file_meaning}
use Rattle.rows.specs.Sheets.{View}
use Rattle.sheet.specs.Rowed.{row_at}
use Rattle.calls.specs.Offers.{with_rows, Offered}
use Rattle.writing.specs.Files.{min_file}

pub record Holds {T : Type 0} (ns ks : List ℕ) (made : ℕ → ℕ → T) (M : Meaning T) (V : View) (c : Contents) : Type 0 where
  pub names : c.names ≡ ns
  pub kinds : c.kinds ≡ ks
  pub grammar : held made (Ok c) ≡ M
  pub rows : (A : ℕ) → row_at A c.rows ≡ V A

pub record FileLaw {T : Type 0} (names ks : List ℕ) (made : ℕ → ℕ → T) (M : Meaning T) (V : View) (c : Contents) : Type 0 where
  pub legal : Legal c
  pub holds : Holds names ks made M V c
  pub accepted : checked ks (encode c) ≡ Ok c
  pub grammar : file_meaning ks made (encode c) ≡ M
  pub only : (d : Contents) → Legal d → Holds names ks made M V d → d ≡ c
  pub short : length (encode c) ≤ min_file

pub record Taken {T : Type 0} (𝓣 : Group T) (M : Meaning T) (norm : ℕ → ℕ) (first : ℕ → Input) (V : View) (c : Contents) : Type 0 where
  pub offered : Offered 𝓣 M norm first (λ A. None) (rows_bytes c.rows) (Ok c.rows)
  pub rows : (A : ℕ) → with_rows (λ A. None) c.rows A ≡ V A
