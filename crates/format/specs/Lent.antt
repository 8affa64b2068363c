-- Contents as they are lent to the encoder, and what it writes.
--
-- rule_of r                       the rule that is lent
-- owned_rule k r                  the rule that r owns, in a file of k kinds: the first k of its numbers, and as much of its word as it says
-- contents_of c                   the contents that are lent
-- contents_by rule c              the same with rules of any entry: an entry e is the rule that `rule` says in a file of so many kinds, which for a RuleEntry is rule_of e
-- counted bs                      a list behind the low byte of its length
-- low_rule, low_row, low_encode   rule_bytes, row_bytes and encode with the low bytes of counts and lengths: the same where contents are legal
-- Wrote o at bs next p            bs was written into o at a place, which made it p: the next place, at most 2^64 - 1, and what p is where there was room
-- Puts w bs v                     bs was written by the writer w, which became v; its buffer is the same
-- filled_len bs o                 the length of bs, if o has room for them
-- filled bs o                     o with bs at its start, or o where there is no room
-- Canonical c                     what is written of the contents c is their encoding, and the check reads them back from it
--
-- Assumes nothing.
use Rattle.std.specs.Prelude.{◌≡◌, ℕ, ◌+◌, ◌-◌, ◌%◌, ◌^◌, ◌≤◌, min, cond, List, ◌∷◌, ◌++◌, map, length, take, drop, Some, None, Ok, Option, nat_le}
use Rattle.layout.specs.Contents.{FileRule, FileRow, Contents, two, four, joined, encode}
use Rattle.layout.specs.Reading.{checked}
use Rattle.format.specs.Views.{row_of}
use Rattle.format.specs.declared.contents.RuleEntry.{RuleEntry}
use Rattle.format.specs.declared.contents.OwnedEntry.{OwnedEntry}
use Rattle.format.specs.declared.contents.EntryContents.{EntryContents}
use Rattle.format.specs.declared.contents.FileContents.{FileContents}
use Rattle.format.specs.declared.encode.Writer.{Writer}

abbrev pub rule_of : RuleEntry → FileRule
rule_of r = record { symbol = r.symbol; letter = r.letter; numbers = r.numbers.now; word = r.word.now }

abbrev pub owned_rule : ℕ → OwnedEntry → FileRule
owned_rule k r = record { symbol = r.symbol; letter = r.letter; numbers = take k r.numbers; word = take r.length r.symbols }

abbrev pub contents_of : FileContents → Contents
contents_of c = record { names = c.names.now; kinds = c.kinds.now; rules = map rule_of c.rules.now; rows = map row_of c.rows.now }

abbrev pub contents_by : {R : Type 0} → (ℕ → R → FileRule) → EntryContents R → Contents
contents_by rule c = record { names = c.names.now; kinds = c.kinds.now; rules = map (rule (length c.kinds.now)) c.rules.now; rows = map row_of c.rows.now }

abbrev pub counted : List ℕ → List ℕ
counted bs = length bs % 256 ∷ bs

abbrev pub low_rule : FileRule → List ℕ
low_rule r = r.symbol ∷ r.letter ∷ joined four r.numbers ++ counted r.word

abbrev pub low_row : FileRow → List ℕ
low_row r = r.symbol ∷ counted r.word

abbrev pub low_encode : Contents → List ℕ
low_encode c = counted c.names ++ counted c.kinds ++ two (length c.rules % 65536) ++ joined low_rule c.rules ++ length c.rows % 256 ∷ joined low_row c.rows

pub record Wrote (o : List ℕ) (at : ℕ) (bs : List ℕ) (next : ℕ) (p : List ℕ) : Type 0 where
  pub place : next ≡ min (at + length bs) (2 ^ 64 - 1)
  pub bytes : at + length bs ≤ length o → p ≡ take at o ++ bs ++ drop (at + length bs) o

pub record Puts (w : Writer) (bs : List ℕ) (v : Writer) : Type 0 where
  pub same_buffer : v.out.ghost_name ≡ w.out.ghost_name
  pub wrote : Wrote w.out.now w.at bs v.at v.out.now

abbrev pub filled_len : List ℕ → List ℕ → Option ℕ
filled_len bs o = cond (nat_le (length bs) (length o)) (Some (length bs)) None

abbrev pub filled : List ℕ → List ℕ → List ℕ
filled bs o = cond (nat_le (length bs) (length o)) (bs ++ drop (length bs) o) o

pub record Canonical (c : Contents) : Type 0 where
  pub written : low_encode c ≡ encode c
  pub reads_back : checked c.kinds (encode c) ≡ Ok c
