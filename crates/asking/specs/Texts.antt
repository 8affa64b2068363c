-- What is printed of an answer.
--
-- Over the names of two files and their kinds, as labels l:
-- marked m x xs        the name x, behind the mark m where it stands among xs too
-- name_text l A        the name of the twin's symbol A, with its file's number where both files have it
-- word_text l w        the names of a word, run together
-- row_text l A w vs    the line of the row of A with the word w and an offset of the numbers vs
-- rows_text l f D n    the lines of the rows of the sheet D at symbols below n, whose offsets have the numbers of f
--
-- An offset of the numbers vs:
-- kind_of b            the kind of a byte, in a file that was checked
-- sign_text k v        ` ^ ` of odd ones; of lengths ` + ` or ` - `, whichever makes them small
-- size_of k v          the number behind that sign
-- part_text b k v      the part of one kind, with the kind's word if b; nothing where it is zero
-- offset_text ks vs    each part, with its kind's word where there are two kinds
--
-- verdict_text t o     the line of a word, as it was given, that takes an input with the numbers in o or does not take it
-- input_text s         the letters; a minus sign for none
-- same_text l f D      the text of a "same": the line that says so, and those of the rows
-- different_text …     the text of a "different": the input, and the line of each word
--
-- Assumes nothing.
use Rattle.std.specs.Prelude.{ℕ, zero, suc, ◌-◌, ◌^◌, Bool, List, [], ◌∷◌, ◌++◌, length, drop, Some, None, Option, if◌then◌else◌, ◌==◌, nat_lt, slice_index, codes}
use Rattle.std.specs.Fmt.{decimal}
use Rattle.std.specs.List.{list_any}
use Rattle.grammar.specs.Meaning.{Word, Input, Weighted}
use Rattle.layout.specs.Kinds.{kind_text}
use Rattle.layout.specs.declared.kind.Kind.{Kind}
use Rattle.layout.specs.declared.kind.Kind.TheVariants.{Foot, Last, OddOnes}
use Rattle.rows.specs.Sheets.{Sheet}
use Rattle.asking.specs.declared.labels.Labels.{Labels}

abbrev pub Text : Type 0
Text = List ℕ

abbrev pub kind_of : ℕ → Kind
kind_of b = if b == 1 then Foot else (if b == 2 then Last else OddOnes)

abbrev pub sign_text : Kind → ℕ → Text
sign_text Foot v = if nat_lt v (2 ^ 31) then codes " + " else codes " - "
sign_text Last v = if nat_lt v (2 ^ 31) then codes " + " else codes " - "
sign_text OddOnes v = codes " ^ "

abbrev pub size_of : Kind → ℕ → ℕ
size_of Foot v = if nat_lt v (2 ^ 31) then v else 2 ^ 32 - v
size_of Last v = if nat_lt v (2 ^ 31) then v else 2 ^ 32 - v
size_of OddOnes v = v

abbrev pub part_text : Bool → Kind → ℕ → Text
part_text named k v = if v == 0 then [] else (sign_text k v ++ decimal (size_of k v) ++ (if named then codes " " ++ kind_text k else []))

abbrev pub parts_text : Bool → List ℕ → List ℕ → Text
parts_text named [] vs = []
parts_text named (k ∷ ks) vs = part_text named (kind_of k) (slice_index vs 0) ++ parts_text named ks (drop 1 vs)

abbrev pub offset_text : List ℕ → List ℕ → Text
offset_text ks vs = parts_text (nat_lt 1 (length ks)) ks vs

abbrev pub marked : Text → ℕ → List ℕ → Text
marked mark x others = (if list_any (λ y. y == x) others then mark else []) ++ x ∷ []

unfoldable pub lines : (ℕ → Text) → ℕ → Text
lines f zero = []
lines f (suc k) = lines f k ++ f k

module _ (l : Labels) where
  abbrev pub name_text : ℕ → Text
  name_text A =
      if nat_lt A (length l.first.now)
      then marked (codes "1.") (slice_index l.first.now A) l.second.now
      else marked (codes "2.") (slice_index l.second.now (A - length l.first.now)) l.first.now

  abbrev pub word_text : Word → Text
  word_text [] = []
  word_text (A ∷ w) = name_text A ++ word_text w

  abbrev pub row_text : ℕ → Word → List ℕ → Text
  row_text A w vs = name_text A ++ codes " = " ++ word_text w ++ offset_text l.kinds.now vs ++ codes "\n"

  module _ {T : Type 0} (numbers : T → List ℕ) where
    abbrev pub line_text : ℕ → Option (Weighted T) → Text
    line_text A None = []
    line_text A (Some m) = row_text A m.word (numbers m.tally)

    abbrev pub rows_text : Sheet T → ℕ → Text
    rows_text D = lines (λ A. line_text A (D A))

    abbrev pub same_text : Sheet T → Text
    same_text D = codes "same\n" ++ rows_text D 32

abbrev pub spaced : List ℕ → Text
spaced [] = []
spaced (v ∷ vs) = codes " " ++ decimal v ++ spaced vs

abbrev pub verdict_text : Text → Option (List ℕ) → Text
verdict_text word None = word ++ codes ": not taken\n"
verdict_text word (Some vs) = word ++ codes ": taken" ++ spaced vs ++ codes "\n"

abbrev pub input_text : Input → Text
input_text [] = codes "-"
input_text (a ∷ s) = a ∷ s

abbrev pub different_text : Input → Text → Option (List ℕ) → Text → Option (List ℕ) → Text
different_text s one p two q = codes "different " ++ input_text s ++ codes "\n" ++ verdict_text one p ++ verdict_text two q
