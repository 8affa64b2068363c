-- The check as a reading: contents, or the first fault.
--
-- Readings take the number of all bytes and the bytes that are left, and give a value and what is left after it, or a fault.
-- place total bs      where the bytes that are left begin
-- then o k            k of what was read, or the fault
-- one                 one byte
-- within lo hi        one byte, a count or a length from lo to hi
-- below n             one byte, a symbol below n
-- many item k before  k items more, each read with those before it at hand, the newest first; all of them, the oldest first
-- stated, checked_any the kinds that a file states, if it can be read up to them, and the check for those
--
-- Assumes nothing.
use Rattle.std.specs.Prelude.{ℕ, zero, suc, ◌+◌, ◌-◌, ◌*◌, Bool, true, false, not, ◌&&◌, ◌||◌, List, [], ◌∷◌, reverse, length, Ok, Err, Result, ◌==◌, nat_le, nat_lt}
use Rattle.grammar.specs.Meaning.{Word}
use Rattle.grammar.specs.Listed.{letter}
use Rattle.layout.specs.Contents.{FileRule, FileRow, Contents}
use Rattle.layout.specs.declared.fault.Fault.{Fault}
use Rattle.layout.specs.declared.fault.Fault.TheVariants.{Short, Limit, Unallowed, Order, Symbol, Trailing, Kinds}

-- a value, and the bytes that are left
pub record Read (X : Type 0) : Type 0 where
  pub value : X
  pub rest : List ℕ

abbrev pub Reading : Type 0 → Type 0
Reading X = List ℕ → Result (Read X) Fault

abbrev pub place : ℕ → List ℕ → ℕ
place total bs = total - length bs

abbrev pub then : {X Y : Type 0} → Result (Read X) Fault → (X → Reading Y) → Result (Read Y) Fault
then (Ok r) k = k r.value r.rest
then (Err f) k = Err f

abbrev pub give : {X : Type 0} → X → Reading X
give x bs = Ok (record { value = x; rest = bs })

-- x if the test passes, else the fault
abbrev pub given : {X : Type 0} → Bool → Fault → X → Reading X
given true f x bs = give x bs
given false f x bs = Err f

-- a byte may be a name; it is none of those before
abbrev pub named : ℕ → Bool
named b = (nat_le 97 b && nat_le b 122) || (nat_le 48 b && nat_le b 57)

abbrev pub absent : ℕ → List ℕ → Bool
absent b [] = true
absent b (x ∷ xs) = not (x == b) && absent b xs

-- a kind is above the one before it
abbrev pub above : List ℕ → ℕ → Bool
above [] b = true
above (x ∷ xs) b = nat_lt x b

-- a rule at A and a comes after the one before it; so does a row at A
abbrev pub follows : List FileRule → ℕ → ℕ → Bool
follows [] A a = true
follows (r ∷ rs) A a = nat_lt r.symbol A || (r.symbol == A && nat_lt r.letter a)

abbrev pub row_follows : List FileRow → ℕ → Bool
row_follows [] A = true
row_follows (r ∷ rs) A = nat_lt r.symbol A

module _ (total : ℕ) where
  abbrev pub one : Reading ℕ
  one [] = Err (Short total)
  one (b ∷ bs) = give b bs

  abbrev pub within : ℕ → ℕ → Reading ℕ
  within lo hi bs = then (one bs) (λ b. given (nat_le lo b && nat_le b hi) (Limit (place total bs)) b)

  abbrev pub below : ℕ → Reading ℕ
  below n bs = then (one bs) (λ b. given (nat_lt b n) (Symbol (place total bs)) b)

  abbrev pub many : {X : Type 0} → (List X → Reading X) → ℕ → List X → Reading (List X)
  many item zero before bs = give (reverse before) bs
  many item (suc k) before bs = then (item before bs) (λ x. many item k (x ∷ before))

  -- a name, none of those before
  abbrev pub name : List ℕ → Reading ℕ
  name before bs = then (one bs) (λ b. given (named b && absent b before) (Unallowed (place total bs)) b)

  -- a kind, 1 to 3, above the one before
  abbrev pub kind : List ℕ → Reading ℕ
  kind before bs = then (one bs) (λ b. given ((nat_le 1 b && nat_le b 3) && above before b) (Unallowed (place total bs)) b)

  -- the count of rules: two bytes, high first
  abbrev pub rule_count : Reading ℕ
  rule_count bs = then (one bs) (λ h cs. then (one cs) (λ l. given (nat_le (256 * h + l) 832) (Limit (place total bs)) (256 * h + l)))

  -- a tally's number: four bytes, high first
  abbrev pub number : List ℕ → Reading ℕ
  number before bs = then (one bs) (λ a cs. then (one cs) (λ b ds. then (one ds) (λ c es. then (one es) (λ d. give (256 * (256 * (256 * a + b) + c) + d)))))

  abbrev pub word : ℕ → ℕ → Reading Word
  word n k = many (λ _. below n) k []

  abbrev pub a_letter : Reading ℕ
  a_letter bs = then (one bs) (λ b. given (letter b) (Unallowed (place total bs)) b)

  -- a rule: a symbol, a letter, in order, k numbers, a word
  abbrev pub rule : ℕ → ℕ → List FileRule → Reading FileRule
  rule n k before bs =
      then (below n bs) (λ A cs. then (a_letter cs) (λ a ds. then (given (follows before A a) (Order (place total bs)) A ds)
      (λ _ es. then (many number k [] es) (λ ns fs. then (within 0 4 fs) (λ l gs. then (word n l gs) (λ w. give (record { symbol = A; letter = a; numbers = ns; word = w })))))))

  -- a row: a symbol, in order, a word
  abbrev pub row : ℕ → List FileRow → Reading FileRow
  row n before bs =
      then (below n bs) (λ A cs. then (given (row_follows before A) (Order (place total bs)) A cs)
      (λ _ ds. then (within 1 64 ds) (λ l es. then (word n l es) (λ w. give (record { symbol = A; word = w })))))

  abbrev pub rows : ℕ → Reading (List FileRow)
  rows n bs = then (within 0 31 bs) (λ k. many (row n) k [])

  -- nothing is left
  abbrev pub ended : {X : Type 0} → X → Reading X
  ended x [] = give x []
  ended x (b ∷ bs) = Err (Trailing (place total (b ∷ bs)))

  abbrev pub names : Reading (List ℕ)
  names bs = then (within 1 32 bs) (λ k. many name k [])

  abbrev pub kinds : Reading (List ℕ)
  kinds bs = then (within 0 2 bs) (λ k. many kind k [])

  abbrev pub rules : ℕ → ℕ → Reading (List FileRule)
  rules n k bs = then (rule_count bs) (λ c. many (rule n k) c [])

abbrev pub same_kinds : List ℕ → List ℕ → Bool
same_kinds [] [] = true
same_kinds [] (y ∷ ys) = false
same_kinds (x ∷ xs) [] = false
same_kinds (x ∷ xs) (y ∷ ys) = x == y && same_kinds xs ys

-- the whole file, for a tally with these kinds
abbrev pub whole : ℕ → List ℕ → Reading Contents
whole total ks bs =
    then (names total bs) (λ ns cs. then (kinds total cs) (λ fs ds. then (given (same_kinds ks fs) Kinds fs ds)
    (λ _ es. then (rules total (length ns) (length fs) es) (λ rs gs. then (rows total (length ns) gs) (λ ws hs. ended total (record { names = ns; kinds = fs; rules = rs; rows = ws }) hs)))))

abbrev pub value_of : {X : Type 0} → Result (Read X) Fault → Result X Fault
value_of (Ok r) = Ok r.value
value_of (Err f) = Err f

abbrev pub checked : List ℕ → List ℕ → Result Contents Fault
checked ks bs = value_of (whole (length bs) ks bs)

-- the kinds that a file states, if it can be read up to them
abbrev pub stated : List ℕ → Result (List ℕ) Fault
stated bs = value_of (then (names (length bs) bs) (λ _ cs. kinds (length bs) cs))

-- the check of a file for the kinds that it states itself
abbrev pub checked_as : Result (List ℕ) Fault → List ℕ → Result Contents Fault
checked_as (Ok fs) bs = checked fs bs
checked_as (Err f) bs = Err f

abbrev pub checked_any : List ℕ → Result Contents Fault
checked_any bs = checked_as (stated bs) bs
