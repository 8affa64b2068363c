-- What a file holds, when that is legal, and the bytes that encode it.
--
-- FileRule, FileRow, Contents   a rule, a row, and all that a file holds
-- Name x, Kind x                x may be a name (a to z, 0 to 9); x is a kind (1 foot, 2 last, 3 odd ones)
-- All P xs                      P holds of each element
-- Apart xs                      no two elements are the same
-- Rising R xs                   each element comes after the one before it
-- Before r A a                  the rule r is before a rule at A and a
-- After, RowAfter               the order of rules (by symbol, then letter) and of rows (by symbol)
-- LegalRule, LegalRow           a rule or a row over n names and k kinds
-- Legal c                       the contents are legal
-- two, four                     the bytes of a number, high first
-- rule_bytes, row_bytes         the bytes of a rule and of a row
-- encode c                      the bytes of the contents
--
-- Assumes nothing.
use Rattle.std.specs.Prelude.{◌≡◌, ℕ, ◌/◌, ◌%◌, ◌^◌, ◌<◌, ◌≤◌, ◌⊎◌, List, [], ◌∷◌, ◌++◌, length}
use Rattle.grammar.specs.Meaning.{Word, Letter, Below}

pub record FileRule : Type 0 where
  pub symbol : ℕ
  pub letter : ℕ
  pub numbers : List ℕ
  pub word : Word

pub record FileRow : Type 0 where
  pub symbol : ℕ
  pub word : Word

pub record Contents : Type 0 where
  pub names : List ℕ
  pub kinds : List ℕ
  pub rules : List FileRule
  pub rows : List FileRow

abbrev pub Name : ℕ → Type 0
Name x = ((97 ≤ x) × (x ≤ 122)) ⊎ ((48 ≤ x) × (x ≤ 57))

abbrev pub Kind : ℕ → Type 0
Kind x = (1 ≤ x) × (x ≤ 3)

abbrev pub All : {X : Type 0} → (X → Type 0) → List X → Type 0
All P [] = Unit {0}
All P (x ∷ xs) = P x × All P xs

abbrev pub Apart : {X : Type 0} → List X → Type 0
Apart [] = Unit {0}
Apart (x ∷ xs) = All (λ y. ¬ (x ≡ y)) xs × Apart xs

abbrev pub Rising : {X : Type 0} → (X → X → Type 0) → List X → Type 0
Rising R [] = Unit {0}
Rising R (x ∷ []) = Unit {0}
Rising R (x ∷ y ∷ ys) = R x y × Rising R (y ∷ ys)

abbrev pub Before : FileRule → ℕ → ℕ → Type 0
Before r A a = (r.symbol < A) ⊎ ((r.symbol ≡ A) × (r.letter < a))

abbrev pub After : FileRule → FileRule → Type 0
After r s = Before r s.symbol s.letter

abbrev pub RowAfter : FileRow → FileRow → Type 0
RowAfter r s = r.symbol < s.symbol

pub record LegalRule (n k : ℕ) (r : FileRule) : Type 0 where
  pub symbol : r.symbol < n
  pub letter : Letter r.letter
  pub size : length r.numbers ≡ k
  pub numbers : All (λ x. x < 2 ^ 32) r.numbers
  pub short : length r.word ≤ 4
  pub word : Below n r.word

pub record LegalRow (n : ℕ) (r : FileRow) : Type 0 where
  pub symbol : r.symbol < n
  pub filled : 1 ≤ length r.word
  pub short : length r.word ≤ 64
  pub word : Below n r.word

-- the rows of a section, over n symbols
pub record LegalRows (n : ℕ) (rs : List FileRow) : Type 0 where
  pub few : length rs ≤ 31
  pub each : All (LegalRow n) rs
  pub rising : Rising RowAfter rs

pub record Legal (c : Contents) : Type 0 where
  pub some : 1 ≤ length c.names
  pub few : length c.names ≤ 32
  pub names : All Name c.names
  pub apart : Apart c.names
  pub kinds_few : length c.kinds ≤ 2
  pub kinds : All Kind c.kinds
  pub kinds_rising : Rising (λ x y. x < y) c.kinds
  pub rules_few : length c.rules ≤ 832
  pub rules : All (LegalRule (length c.names) (length c.kinds)) c.rules
  pub rules_rising : Rising After c.rules
  pub rows : LegalRows (length c.names) c.rows

abbrev pub two : ℕ → List ℕ
two n = n / 256 ∷ n % 256 ∷ []

abbrev pub four : ℕ → List ℕ
four n = n / 16777216 ∷ n / 65536 % 256 ∷ n / 256 % 256 ∷ n % 256 ∷ []

abbrev pub joined : {X : Type 0} → (X → List ℕ) → List X → List ℕ
joined f [] = []
joined f (x ∷ xs) = f x ++ joined f xs

abbrev pub rule_bytes : FileRule → List ℕ
rule_bytes r = r.symbol ∷ r.letter ∷ joined four r.numbers ++ length r.word ∷ r.word

abbrev pub row_bytes : FileRow → List ℕ
row_bytes r = r.symbol ∷ length r.word ∷ r.word

abbrev pub rows_bytes : List FileRow → List ℕ
rows_bytes rs = length rs ∷ joined row_bytes rs

abbrev pub encode : Contents → List ℕ
encode c = length c.names ∷ c.names ++ length c.kinds ∷ c.kinds ++ two (length c.rules) ++ joined rule_bytes c.rules ++ rows_bytes c.rows
