-- The kinds of numbers in a file, and the bytes that stand for them.
--
-- byte_of k              the byte of a kind
-- Decodes b r            r is the kind with the byte b, or an error with b where that is no kind's byte
-- kind_text, unknown_text   what is printed of a kind, and of a byte that is no kind's
-- KindBytes              exactly the bytes that may be kinds in a file stand for kinds
--
-- Assumes nothing.
use Rattle.std.specs.Prelude.{◌≡◌, ◌↔◌, ℕ, List, ◌++◌, Result, MatchResult, codes}
use Rattle.std.specs.Fmt.{decimal}
use Rattle.layout.specs.Contents as contents
use Rattle.layout.specs.declared.kind.Kind.{Kind}
use Rattle.layout.specs.declared.kind.Kind.TheVariants.{Foot, Last, OddOnes}
use Rattle.layout.specs.declared.kind.UnknownKind.{UnknownKind}

abbrev pub byte_of : Kind → ℕ
byte_of Foot = 1
byte_of Last = 2
byte_of OddOnes = 3

abbrev pub Decodes : ℕ → Result Kind UnknownKind → Type 0
Decodes byte r = MatchResult r (λ kind. byte_of kind ≡ byte) (λ e. (e.0 ≡ byte) × (¬ contents.Kind byte))

abbrev pub kind_text : Kind → List ℕ
kind_text Foot = codes "foot"
kind_text Last = codes "last"
kind_text OddOnes = codes "odd"

abbrev pub unknown_text : UnknownKind → List ℕ
unknown_text e = codes "no kind of number has byte " ++ decimal e.0

abbrev pub KindBytes : Type 0
KindBytes = (byte : ℕ) → contents.Kind byte ↔ ((kind : Kind) × (byte_of kind ≡ byte))
