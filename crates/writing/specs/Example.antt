-- The worked file of two names, written anew; and names and kinds that are refused.
--
-- good_meaning, good_view   the grammar and the rows that the worked file holds
-- Examples                  writing them gives the worked contents, and so its bytes; what wrong names and kinds are refused for
--
-- Assumes nothing.
use Rattle.std.specs.Prelude.{◌≡◌, [], ◌∷◌, Some, None, Ok}
use Rattle.tally.specs.declared.foot_mm.FootMm.{FootMm}
use Rattle.grammar.specs.Meaning.{Meaning}
use Rattle.layout.specs.Contents.{encode}
use Rattle.layout.specs.Example.{good_bytes, good_contents}
use Rattle.layout.specs.declared.fault.Fault.TheVariants.{Limit, Unallowed, Kinds}
use Rattle.format.specs.Kinds.{foot_numbered, only_numbers, only_made}
use Rattle.file_grammar.specs.Filed.{held}
use Rattle.rows.specs.Sheets.{View}
use Rattle.sheet.specs.Rowed.{row_at}
use Rattle.calls.specs.Refusals.{first_of}
use Rattle.calls.specs.declared.fault.CallFault.TheVariants.{File}
use Rattle.writing.specs.Files.{file_of, file_faults}

abbrev pub good_meaning : Meaning FootMm
good_meaning = held (only_made foot_numbered) (Ok good_contents)

abbrev pub good_view : View
good_view A = row_at A good_contents.rows

pub record Examples : Type 0 where
  pub contents : file_of good_contents.names good_contents.kinds (only_numbers foot_numbered) good_meaning good_view ≡ good_contents
  pub bytes : encode (file_of good_contents.names good_contents.kinds (only_numbers foot_numbered) good_meaning good_view) ≡ good_bytes
  -- as many names as symbols are fine; one more is not
  pub names : first_of (file_faults 2 (1 ∷ []) (98 ∷ 99 ∷ [])) ≡ None
  pub more : first_of (file_faults 2 (1 ∷ []) (98 ∷ 99 ∷ 100 ∷ [])) ≡ Some (File (Limit 0))
  -- the second name is a capital letter, which lies at byte 2; the third is the first again, at byte 3
  pub capital : first_of (file_faults 3 (1 ∷ []) (98 ∷ 67 ∷ 100 ∷ [])) ≡ Some (File (Unallowed 2))
  pub repeated : first_of (file_faults 3 (1 ∷ []) (98 ∷ 99 ∷ 98 ∷ [])) ≡ Some (File (Unallowed 3))
  -- the kinds 2 and then 1 do not rise; nor can a file hold three
  pub falling : first_of (file_faults 2 (2 ∷ 1 ∷ []) (98 ∷ 99 ∷ [])) ≡ Some (File Kinds)
  pub three : first_of (file_faults 2 (1 ∷ 2 ∷ 3 ∷ []) (98 ∷ 99 ∷ [])) ≡ Some (File Kinds)
