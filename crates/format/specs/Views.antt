-- What the code's answers stand for.
--
-- took result rest            what a reader gave, and the bytes that are left, as a reading gives them
-- Reads o r result s          the reader r reads as the reading o does: it gives the result, and is s then
-- ReadsItems enc o r result s the same of a section, whose items lie in the bytes as enc says
-- lent, lent_row              what is given with the lent bytes read out
-- newest xs                   the item that was read last, if there is one
-- GivesRow bs r cs            the bytes bs begin with the row r and cs is left; or they begin with no row, and stay
-- Behind head before P        P holds behind any items, the newest first, where `before` is the head of the newest
--
-- Assumes nothing.
use Rattle.std.specs.Prelude.{◌≡◌, ℕ, ◌<◌, true, List, [], ◌∷◌, ◌++◌, length, Some, None, Ok, Err, Option, Result, MatchOption}
use Rattle.std.specs.Borrow.{Bor}
use Rattle.std.specs.Option.{option_map}
use Rattle.layout.specs.Contents.{FileRule, FileRow, Contents, joined, rule_bytes, row_bytes}
use Rattle.layout.specs.Reading.{Read, Reading, row, row_follows}
use Rattle.format.specs.declared.reader.Reader.{Reader}
use Rattle.format.specs.declared.row.Row.{Row}
use Rattle.format.specs.declared.row.Section.{Section}
use Rattle.format.specs.declared.row.Checked.{Checked}
use Rattle.layout.specs.declared.fault.Fault.{Fault}

-- what a reader gave, and what is left
abbrev pub took : {X : Type 0} → Result X Fault → List ℕ → Result (Read X) Fault
took (Ok x) rest = Ok (record { value = x; rest = rest })
took (Err f) rest = Err f

-- it reads so, and the number of all bytes stays
pub record Reads {X : Type 0} (o : ℕ → Reading X) (r : Reader) (result : Result X Fault) (s : Reader) : Type 0 where
  pub read : took result s.left.now ≡ o r.total r.left.now
  pub total : s.total ≡ r.total

-- a lent list, read out
abbrev pub lent : Result (Bor (List ℕ)) Fault → Result (List ℕ) Fault
lent (Ok xs) = Ok xs.now
lent (Err f) = Err f

-- the item that was read last
abbrev pub newest : {X : Type 0} → List X → Option X
newest [] = None
newest (x ∷ xs) = Some x

-- what holds behind the items before
abbrev pub Behind : {X H : Type 0} → (X → H) → Option H → (List X → Type 0) → Type 0
Behind head before P = (xs : List _) → option_map head (newest xs) ≡ before → P xs

-- what a reading gives, seen through f
abbrev pub seen : {X Y : Type 0} → (X → Y) → Result (Read X) Fault → Result (Read Y) Fault
seen f (Ok r) = Ok (record { value = f r.value; rest = r.rest })
seen f (Err e) = Err e

-- where a rule stands, and where a row does
abbrev pub rule_head : FileRule → ℕ × ℕ
rule_head r = (r.symbol, r.letter)

abbrev pub row_head : FileRow → ℕ
row_head r = r.symbol

-- a row as it is lent
abbrev pub row_of : Row → FileRow
row_of r = record { symbol = r.symbol; word = r.word.now }

-- a lent row, read out
abbrev pub lent_row : Result Row Fault → Result FileRow Fault
lent_row (Ok r) = Ok (row_of r)
lent_row (Err f) = Err f

-- bytes that begin with no row
abbrev pub NoRow : List ℕ → Type 0
NoRow bs = (r : FileRow) (cs : List ℕ) → ¬ (bs ≡ row_bytes r ++ cs)

-- the row that is given, and what is left
abbrev pub GivesRow : List ℕ → Option Row → List ℕ → Type 0
GivesRow bs r cs = MatchOption r (NoRow bs × (cs ≡ bs)) (λ r. bs ≡ row_bytes (row_of r) ++ cs)

-- a section's items as they lie in the bytes: how many, and their bytes
pub record ReadItems {X : Type 0} (enc : X → List ℕ) (o : Result (Read (List X)) Fault) (section : Section) (rest : List ℕ) : Type 0 where
  pub items : List X
  pub reads : o ≡ Ok (record { value = items; rest = rest })
  pub count : section.count ≡ length items
  pub bytes : section.bytes.now ≡ joined enc items

-- the section and what is left are what the reading o gives, or its fault
abbrev pub GaveItems : {X : Type 0} → (X → List ℕ) → Result (Read (List X)) Fault → Result Section Fault → List ℕ → Type 0
GaveItems enc o (Ok section) rest = ReadItems enc o section rest
GaveItems enc o (Err f) rest = o ≡ Err f

-- it reads a section so, and the number of all bytes stays
pub record ReadsItems {X : Type 0} (enc : X → List ℕ) (o : ℕ → Reading (List X)) (r : Reader) (result : Result Section Fault) (s : Reader) : Type 0 where
  pub read : GaveItems enc (o r.total r.left.now) result s.left.now
  pub total : s.total ≡ r.total

-- the same where a function hands on what is left
abbrev pub TookItems : {X : Type 0} → (X → List ℕ) → Result (Read (List X)) Fault → Result (Section × Bor (List ℕ)) Fault → Type 0
TookItems enc o (Ok p) = ReadItems enc o p.0 p.1.now
TookItems enc o (Err f) = o ≡ Err f

-- the parts of a checked file are those of the contents c
pub record Shows (v : Checked) (c : Contents) : Type 0 where
  pub names : v.names.now ≡ c.names
  pub kinds : v.kinds.now ≡ c.kinds
  pub rule_count : v.rules.count ≡ length c.rules
  pub rules : v.rules.bytes.now ≡ joined rule_bytes c.rules
  pub row_count : v.rows.count ≡ length c.rows
  pub rows : v.rows.bytes.now ≡ joined row_bytes c.rows

-- the check answers o: the parts of its contents, or its fault
abbrev pub Answers : Result Contents Fault → Result Checked Fault → Type 0
Answers o (Ok v) = (c : Contents) × (o ≡ Ok c) × Shows v c
Answers o (Err f) = o ≡ Err f

-- the symbol A of a row that bs begin with is below n and after the rows xs; or f is the fault of the row
abbrev pub Judged : ℕ → ℕ → List FileRow → ℕ → List ℕ → Result (Unit {0}) Fault → Type 0
Judged total n xs A bs (Ok _) = (A < n) × (row_follows xs A ≡ true)
Judged total n xs A bs (Err f) = (cs : List ℕ) → bs ≡ A ∷ cs → row total n xs bs ≡ Err f
