-- What is wrong with bytes, and where.
--
-- Field             what is to be read next
-- size F            how many bytes it has
-- Last P xs         P holds of the last element, if there is one
-- LegalNames, LegalKinds, LegalRules   the legal sections
-- SomeNames n …     some of the n names of a section, but not all; so for kinds, rules and rows
-- head, rules_front, rows_front        the bytes before the sections' items, and of the items that were read
-- InRules, InRule, InRows, InRow       what is legal up to there
-- ReadTo ks p F     the bytes p are read without a fault, and F is to be read next: each case says of which legal parts p is made
-- Wrong ks bs f     a front of bs is read without a fault, and what follows is wrong as f says: each case is one way to be wrong
--
-- Assumes nothing.
use Rattle.std.specs.Prelude.{◌≡◌, ℕ, ◌+◌, ◌*◌, ◌^◌, ◌<◌, ◌≤◌, List, [], ◌∷◌, ◌++◌, length}
use Rattle.grammar.specs.Meaning.{Word, Letter, Below}
use Rattle.layout.specs.Contents.{FileRule, FileRow, Contents, Name, Kind, All, Apart, Rising, Before, After, RowAfter, LegalRule, LegalRow, Legal, two, four, joined, rule_bytes, row_bytes, encode}
use Rattle.layout.specs.declared.fault.Fault.{Fault}
use Rattle.layout.specs.declared.fault.Fault.TheVariants.{Short, Limit, Unallowed, Order, Symbol, Trailing, Kinds}

pub data Field : Type 0 where
  -- a count or a length from lo to hi; the count of rules
  count : (lo hi : ℕ) → Field
  rule_count : Field
  -- a name, none of those before; a kind, after those before
  name : List ℕ → Field
  kind : List ℕ → Field
  -- no bytes: whether these kinds are the tally's
  fit : List ℕ → Field
  -- the symbol of a rule or of a row, below n, with those before it; a symbol of a word
  rule : ℕ → List FileRule → Field
  row : ℕ → List FileRow → Field
  symbol : ℕ → Field
  -- the letter of a rule; a number of a tally
  letter : Field
  number : Field
  -- no bytes: nothing follows
  end : Field

abbrev pub size : Field → ℕ
size (count lo hi) = 1
size rule_count = 2
size (name before) = 1
size (kind before) = 1
size (fit fs) = 0
size (rule n before) = 1
size (row n before) = 1
size (symbol n) = 1
size letter = 1
size number = 4
size end = 0

abbrev pub Last : {X : Type 0} → (X → Type 0) → List X → Type 0
Last P [] = Unit {0}
Last P (x ∷ []) = P x
Last P (x ∷ y ∷ ys) = Last P (y ∷ ys)

pub record LegalNames (ns : List ℕ) : Type 0 where
  pub some : 1 ≤ length ns
  pub few : length ns ≤ 32
  pub each : All Name ns
  pub apart : Apart ns

pub record SomeNames (n : ℕ) (before : List ℕ) : Type 0 where
  pub some : 1 ≤ n
  pub few : n ≤ 32
  pub more : length before < n
  pub each : All Name before
  pub apart : Apart before

pub record LegalKinds (fs : List ℕ) : Type 0 where
  pub few : length fs ≤ 2
  pub each : All Kind fs
  pub rising : Rising (λ x y. x < y) fs

pub record SomeKinds (n : ℕ) (before : List ℕ) : Type 0 where
  pub few : n ≤ 2
  pub more : length before < n
  pub each : All Kind before
  pub rising : Rising (λ x y. x < y) before

pub record LegalRules (n k : ℕ) (rs : List FileRule) : Type 0 where
  pub few : length rs ≤ 832
  pub each : All (LegalRule n k) rs
  pub rising : Rising After rs

pub record SomeRules (n k c : ℕ) (before : List FileRule) : Type 0 where
  pub few : c ≤ 832
  pub more : length before < c
  pub each : All (LegalRule n k) before
  pub rising : Rising After before

pub record SomeRows (n c : ℕ) (before : List FileRow) : Type 0 where
  pub few : c ≤ 31
  pub more : length before < c
  pub each : All (LegalRow n) before
  pub rising : Rising RowAfter before

abbrev pub head : List ℕ → List ℕ → List ℕ
head ns fs = length ns ∷ ns ++ length fs ∷ fs

abbrev pub rules_front : List ℕ → List ℕ → ℕ → List FileRule → List ℕ
rules_front ns fs c before = head ns fs ++ two c ++ joined rule_bytes before

abbrev pub rows_front : List ℕ → List ℕ → List FileRule → ℕ → List FileRow → List ℕ
rows_front ns fs rs c before = rules_front ns fs (length rs) rs ++ c ∷ joined row_bytes before

-- inside the section of rules: c are announced, those before are read
pub record InRules (ks ns : List ℕ) (c : ℕ) (before : List FileRule) : Type 0 where
  pub names : LegalNames ns
  pub kinds : LegalKinds ks
  pub rules : SomeRules (length ns) (length ks) c before

-- inside a rule at A and a, which comes after those before it
pub record InRule (ks ns : List ℕ) (c : ℕ) (before : List FileRule) (A a : ℕ) : Type 0 where
  pub section : InRules ks ns c before
  pub symbol : A < length ns
  pub letter : Letter a
  pub later : Last (λ r. Before r A a) before

-- inside the section of rows, behind the rules rs
pub record InRows (ks ns : List ℕ) (rs : List FileRule) (c : ℕ) (before : List FileRow) : Type 0 where
  pub names : LegalNames ns
  pub kinds : LegalKinds ks
  pub rules : LegalRules (length ns) (length ks) rs
  pub rows : SomeRows (length ns) c before

-- inside a row at A, which comes after those before it
pub record InRow (ks ns : List ℕ) (rs : List FileRule) (c : ℕ) (before : List FileRow) (A : ℕ) : Type 0 where
  pub section : InRows ks ns rs c before
  pub symbol : A < length ns
  pub later : Last (λ r. r.symbol < A) before

pub data ReadTo (ks p : List ℕ) (F : Field) : Type 0 where
  to_names : p ≡ [] → F ≡ count 1 32 → ReadTo ks p F
  to_name : (n : ℕ) (before : List ℕ) → SomeNames n before → p ≡ n ∷ before → F ≡ name before → ReadTo ks p F
  to_kinds : (ns : List ℕ) → LegalNames ns → p ≡ length ns ∷ ns → F ≡ count 0 2 → ReadTo ks p F
  to_kind : (ns : List ℕ) (n : ℕ) (before : List ℕ) → LegalNames ns → SomeKinds n before → p ≡ length ns ∷ ns ++ n ∷ before → F ≡ kind before → ReadTo ks p F
  to_fit : (ns fs : List ℕ) → LegalNames ns → LegalKinds fs → p ≡ head ns fs → F ≡ fit fs → ReadTo ks p F
  to_rules : (ns : List ℕ) → LegalNames ns → LegalKinds ks → p ≡ head ns ks → F ≡ rule_count → ReadTo ks p F
  to_rule : (ns : List ℕ) (c : ℕ) (before : List FileRule) → InRules ks ns c before → p ≡ rules_front ns ks c before → F ≡ rule (length ns) before → ReadTo ks p F
  to_letter : (ns : List ℕ) (c : ℕ) (before : List FileRule) (A : ℕ) → InRules ks ns c before → A < length ns → p ≡ rules_front ns ks c before ++ A ∷ [] → F ≡ letter → ReadTo ks p F
  to_number : (ns : List ℕ) (c : ℕ) (before : List FileRule) (A a : ℕ) (xs : List ℕ) → InRule ks ns c before A a → length xs < length ks → All (λ x. x < 2 ^ 32) xs →
      p ≡ rules_front ns ks c before ++ A ∷ a ∷ joined four xs → F ≡ number → ReadTo ks p F
  to_length : (ns : List ℕ) (c : ℕ) (before : List FileRule) (A a : ℕ) (xs : List ℕ) → InRule ks ns c before A a → length xs ≡ length ks → All (λ x. x < 2 ^ 32) xs →
      p ≡ rules_front ns ks c before ++ A ∷ a ∷ joined four xs → F ≡ count 0 4 → ReadTo ks p F
  to_word : (ns : List ℕ) (c : ℕ) (before : List FileRule) (A a : ℕ) (xs : List ℕ) (l : ℕ) (w : Word) → InRule ks ns c before A a → length xs ≡ length ks → All (λ x. x < 2 ^ 32) xs →
      l ≤ 4 → length w < l → Below (length ns) w → p ≡ rules_front ns ks c before ++ A ∷ a ∷ joined four xs ++ l ∷ w → F ≡ symbol (length ns) → ReadTo ks p F
  to_rows : (ns : List ℕ) (rs : List FileRule) → LegalNames ns → LegalKinds ks → LegalRules (length ns) (length ks) rs → p ≡ rules_front ns ks (length rs) rs → F ≡ count 0 31 → ReadTo ks p F
  to_row : (ns : List ℕ) (rs : List FileRule) (c : ℕ) (before : List FileRow) → InRows ks ns rs c before → p ≡ rows_front ns ks rs c before → F ≡ row (length ns) before → ReadTo ks p F
  to_row_length : (ns : List ℕ) (rs : List FileRule) (c : ℕ) (before : List FileRow) (A : ℕ) → InRow ks ns rs c before A → p ≡ rows_front ns ks rs c before ++ A ∷ [] → F ≡ count 1 64 → ReadTo ks p F
  to_row_word : (ns : List ℕ) (rs : List FileRule) (c : ℕ) (before : List FileRow) (A l : ℕ) (w : Word) → InRow ks ns rs c before A → 1 ≤ l → l ≤ 64 → length w < l → Below (length ns) w →
      p ≡ rows_front ns ks rs c before ++ A ∷ l ∷ w → F ≡ symbol (length ns) → ReadTo ks p F
  to_end : (c : Contents) → Legal c → c.kinds ≡ ks → p ≡ encode c → F ≡ end → ReadTo ks p F

pub data Wrong (ks bs : List ℕ) (f : Fault) : Type 0 where
  -- 1: fewer bytes are left than the next field has
  short : (p rest : List ℕ) (F : Field) → bs ≡ p ++ rest → ReadTo ks p F → length rest < size F → f ≡ Short (length bs) → Wrong ks bs f
  -- 2: a count or a length is outside its limits
  out_of_limits : (p rest : List ℕ) (b lo hi : ℕ) → bs ≡ p ++ b ∷ rest → ReadTo ks p (count lo hi) → ¬ ((lo ≤ b) × (b ≤ hi)) → f ≡ Limit (length p) → Wrong ks bs f
  too_many_rules : (p rest : List ℕ) (h l : ℕ) → bs ≡ p ++ h ∷ l ∷ rest → ReadTo ks p rule_count → 832 < 256 * h + l → f ≡ Limit (length p) → Wrong ks bs f
  -- 3: a name is not allowed or repeats, a kind is not allowed or does not rise, a letter is not allowed
  bad_name : (p rest : List ℕ) (b : ℕ) (before : List ℕ) → bs ≡ p ++ b ∷ rest → ReadTo ks p (name before) → ¬ (Name b × All (λ x. ¬ (x ≡ b)) before) → f ≡ Unallowed (length p) → Wrong ks bs f
  bad_kind : (p rest : List ℕ) (b : ℕ) (before : List ℕ) → bs ≡ p ++ b ∷ rest → ReadTo ks p (kind before) → ¬ (Kind b × Last (λ x. x < b) before) → f ≡ Unallowed (length p) → Wrong ks bs f
  bad_letter : (p rest : List ℕ) (b : ℕ) → bs ≡ p ++ b ∷ rest → ReadTo ks p letter → ¬ Letter b → f ≡ Unallowed (length p) → Wrong ks bs f
  -- 4: a rule or a row does not come after the one before it, although its symbol and letter are allowed
  rule_order : (p rest : List ℕ) (n A a : ℕ) (before : List FileRule) → bs ≡ p ++ A ∷ a ∷ rest → ReadTo ks p (rule n before) → A < n → Letter a → ¬ Last (λ r. Before r A a) before → f ≡ Order (length p) → Wrong ks bs f
  row_order : (p rest : List ℕ) (n A : ℕ) (before : List FileRow) → bs ≡ p ++ A ∷ rest → ReadTo ks p (row n before) → A < n → ¬ Last (λ r. r.symbol < A) before → f ≡ Order (length p) → Wrong ks bs f
  -- 5: a symbol is not below the number of names
  rule_symbol : (p rest : List ℕ) (n b : ℕ) (before : List FileRule) → bs ≡ p ++ b ∷ rest → ReadTo ks p (rule n before) → n ≤ b → f ≡ Symbol (length p) → Wrong ks bs f
  row_symbol : (p rest : List ℕ) (n b : ℕ) (before : List FileRow) → bs ≡ p ++ b ∷ rest → ReadTo ks p (row n before) → n ≤ b → f ≡ Symbol (length p) → Wrong ks bs f
  word_symbol : (p rest : List ℕ) (n b : ℕ) → bs ≡ p ++ b ∷ rest → ReadTo ks p (symbol n) → n ≤ b → f ≡ Symbol (length p) → Wrong ks bs f
  -- 6: bytes follow the last row
  more_bytes : (p rest : List ℕ) (b : ℕ) → bs ≡ p ++ b ∷ rest → ReadTo ks p end → f ≡ Trailing (length p) → Wrong ks bs f
  -- 7: the tally has other kinds
  other_kinds : (p rest : List ℕ) (fs : List ℕ) → bs ≡ p ++ rest → ReadTo ks p (fit fs) → ¬ (ks ≡ fs) → f ≡ Kinds → Wrong ks bs f
