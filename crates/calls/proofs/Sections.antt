-- The rows of a view as they are written, by symbol, behind their count. Assumes nothing.
use Rattle.std.proofs.Common.{◌≡◌, ℕ, zero, suc, ◌+◌, ◌^◌, ◌<◌, ◌≤◌, List, [], ◌∷◌, ◌++◌, length, drop, Some, None, Option, refl, sym, ap, ◌∙◌, subst, inl, inr, arith, append-nil, append_assoc, length-append, length-take-le}
use Rattle.std.proofs.lemmas.Bool.{cases_lt}
use Rattle.std.specs.Option.{option_map, option_to_list}
use Rattle.grammar.specs.Meaning.{Word}
use Rattle.layout.specs.Contents.{FileRow, joined, row_bytes}
use Rattle.layout.proofs.Ordered.{joined_push}
use Rattle.format.specs.Lent.{Wrote}
use Rattle.format.proofs.Writes.{wrote_then}
use Rattle.norm.specs.Tabled.{held}
use Rattle.norm.specs.declared.short_word.ShortWord.{ShortWord}
use Rattle.rows.specs.Sheets.{View, marked, tell}
use Rattle.sheet.specs.Marked.{number}
use Rattle.sheet.specs.Rowed.{view, NextRow}
use Rattle.sheet.proofs.Rows.{number_marked}
use Rattle.calls.specs.Offers.{rows_in, copied}

-- the row of a symbol, if there is one
abbrev row_for : ℕ → Option Word → List FileRow
row_for A o = option_to_list (option_map (λ w. record { symbol = A; word = w }) o)

one_told : (A : ℕ) (o : Option Word) → length (row_for A o) ≡ tell o
one_told A None = refl
one_told A (Some w) = refl

few_told : (o : Option Word) → tell o ≤ 1
few_told None = omega arith
few_told (Some w) = omega arith

module _ (V : View) where
  -- as many rows as symbols with one
  rows_number : (n : ℕ) → length (rows_in V n) ≡ marked V n
  rows_number zero = refl
  rows_number (suc n) = let e = length-append (rows_in V n) (row_for n (V n)) in omega (arith, e, one_told n (V n), rows_number n)

  rows_few : (n : ℕ) → marked V n ≤ n
  rows_few zero = omega arith
  rows_few (suc n) = omega (arith, few_told (V n), rows_few n)

  -- with no row between
  rows_between : (k n : ℕ) → k ≤ n → ((B : ℕ) → k ≤ B → B < n → V B ≡ None) → rows_in V n ≡ rows_in V k
  rows_between k zero l none = ap (rows_in V) (let e : zero ≡ k = omega arith in e)
  rows_between k (suc n) l none = elim (cases_lt n k) [
    | inl h ↦ ap (rows_in V) (let e : suc n ≡ k = omega arith in e)
    | inr h ↦ ap (λ o. rows_in V n ++ row_for n o) (none n h (omega arith)) ∙ append-nil (rows_in V n) ∙ rows_between k n h (λ B a b. none B a (omega arith))
  ]

  -- one row more
  rows_more : (k A : ℕ) (w : Word) → NextRow V k A → V A ≡ Some w → rows_in V (A + 1) ≡ rows_in V k ++ record { symbol = A; word = w } ∷ []
  rows_more k A w next is =
      ap (rows_in V) (let s : A + 1 ≡ suc A = omega arith in s) ∙ ap (λ o. rows_in V A ++ row_for A o) is
      ∙ ap (λ rs. rs ++ record { symbol = A; word = w } ∷ []) (rows_between k A next.from next.before)

  -- the count of the rows, and the rows of symbols below k
  abbrev pub section : ℕ → List ℕ
  section k = length (rows_in V 32) ∷ joined row_bytes (rows_in V k)

  section_more : (k A : ℕ) (r : ShortWord 64) → NextRow V k A → V A ≡ Some (held r) → section k ++ A ∷ r.len ∷ held r ≡ section (A + 1)
  section_more k A r next is =
      let len : r.len ≡ length (held r) = sym (length-take-le r.len r.symbols (omega (arith, r.within, r.room))) in
      ap (λ n. section k ++ A ∷ n ∷ held r) len
      ∙ ap (λ bs. length (rows_in V 32) ∷ bs) (sym (joined_push row_bytes (rows_in V k) (record { symbol = A; word = held r })) ∙ ap (joined row_bytes) (sym (rows_more k A (held r) next is)))

  section_all : (k : ℕ) → k ≤ 32 → ((A : ℕ) → k ≤ A → V A ≡ None) → section k ≡ copied V
  section_all k l none = ap (λ rs. length (rows_in V 32) ∷ joined row_bytes rs) (sym (rows_between k 32 l (λ B h b. none B h)))

  -- the count is written first
  pub count_written : {o p : List ℕ} {from next : ℕ} (b : ℕ) → b ≡ length (rows_in V 32) → Wrote o from (b ∷ []) next p → Wrote o from (section 0) next p
  count_written {o} {p} {from} {next} b e w = subst (λ n. Wrote o from (n ∷ []) next p) e w

  -- then each row, in two steps
  pub row_written : {o p q r : List ℕ} {from at mid next : ℕ} (k A : ℕ) (x : ShortWord 64) (w : Word) → length o < 2 ^ 64 → NextRow V k A → V A ≡ Some (held x) → w ≡ held x →
      Wrote o from (section k) at p → Wrote p at (A ∷ x.len ∷ []) mid q → Wrote q mid w next r → Wrote o from (section (A + 1)) next r
  row_written {o} {p} {q} {r} {from} {at} {mid} {next} k A x w room after is e one two three =
      subst (λ (bs : List ℕ). Wrote o from bs next r) (append_assoc (section k) (A ∷ x.len ∷ []) w ∙ ap (λ (v : Word). section k ++ A ∷ x.len ∷ v) e ∙ section_more k A x after is) (wrote_then room (wrote_then room one two) three)

  -- and with no row left it is done
  pub all_written : {o p : List ℕ} {from next : ℕ} (k : ℕ) → k ≤ 32 → ((A : ℕ) → k ≤ A → V A ≡ None) → Wrote o from (section k) next p → Wrote o from (copied V) next p
  all_written {o} {p} {from} {next} k l none w = subst (λ (bs : List ℕ). Wrote o from bs next p) (section_all k l none) w

  -- from the start of a buffer with room
  pub copy_written : {o p : List ℕ} {next : ℕ} → length o < 2 ^ 63 → Wrote o 0 (copied V) next p → length (copied V) ≤ length o → (next ≡ length (copied V)) × (p ≡ copied V ++ drop (length (copied V)) o)
  copy_written {o} {p} {next} room all fits =
      let from : 0 + length (copied V) ≡ length (copied V) = omega arith in
      (omega (arith, all.place), all.bytes (omega arith) ∙ ap (λ n. copied V ++ drop n o) from)

-- the number of the marks is the count of the rows
module _ (rs : List (ShortWord 64)) (m : ℕ) (room : length rs ≡ 32) where
  pub count_rows : number m 32 ≡ length (rows_in (view rs m) 32)
  count_rows = number_marked rs m 32 room (omega arith) ∙ sym (rows_number (view rs m) 32)

  pub count_small : number m 32 ≤ 32
  count_small = let e = number_marked rs m 32 room (omega arith) in omega (arith, e, rows_few (view rs m) 32)
