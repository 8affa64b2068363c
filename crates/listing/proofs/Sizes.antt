-- How much of a file can be read before a field: no more than a file can have, 14,565 bytes.
--
-- read_short   what is read up to a field, together with that field, has no more
--
-- Assumes nothing.
use Rattle.std.proofs.Common.{◌≡◌, ℕ, ◌+◌, ◌*◌, ◌≤◌, List, [], ◌∷◌, ◌++◌, length, ap, arith, length-append}
use Rattle.layout.specs.Contents.{FileRule, FileRow, All, LegalRule, LegalRow, two, four, joined, rule_bytes, row_bytes}
use Rattle.file_grammar.proofs.Placing.{four_length}
use Rattle.writing.proofs.Sizes.{joined_short, rule_short, row_short, legal_short}
use Rattle.layout.specs.Wrong.{Field, size, head, rules_front, rows_front, InRules, InRows, ReadTo, to_names, to_name, to_kinds, to_kind, to_fit, to_rules, to_rule, to_letter, to_number, to_length, to_word, to_rows, to_row, to_row_length, to_row_word, to_end}

-- legal rules have at most 15 bytes each, legal rows at most 66
rules_short : (n k : ℕ) → k ≤ 2 → (rs : List FileRule) → All (LegalRule n k) rs → length (joined rule_bytes rs) ≤ 15 * length rs
rules_short n k few = joined_short rule_bytes (LegalRule n k) 15 (rule_short n k few)

rows_short : (n : ℕ) (rs : List FileRow) → All (LegalRow n) rs → length (joined row_bytes rs) ≤ 66 * length rs
rows_short n = joined_short row_bytes (LegalRow n) 66 (row_short n)

-- what lies before the items of a section
head_size : (ns fs : List ℕ) → length (head ns fs) ≡ 2 + length ns + length fs
head_size ns fs = let l = length-append ns (length fs ∷ fs) in omega arith

rules_front_size : (ns fs : List ℕ) (c : ℕ) (before : List FileRule) → length (rules_front ns fs c before) ≡ 4 + length ns + length fs + length (joined rule_bytes before)
rules_front_size ns fs c before = let h = head_size ns fs in let l = length-append (head ns fs ++ two c) (joined rule_bytes before) in let k = length-append (head ns fs) (two c) in omega arith

rows_front_size : (ns fs : List ℕ) (rs : List FileRule) (c : ℕ) (before : List FileRow) →
    length (rows_front ns fs rs c before) ≡ 5 + length ns + length fs + length (joined rule_bytes rs) + length (joined row_bytes before)
rows_front_size ns fs rs c before =
    let h = rules_front_size ns fs (length rs) rs in
    let l = length-append (rules_front ns fs (length rs) rs) (c ∷ joined row_bytes before) in
    omega arith

-- some rules of a section, but not all, leave room for one more; so do rows
in_rules : (ks ns : List ℕ) (c : ℕ) (before : List FileRule) → InRules ks ns c before → length (rules_front ns ks c before) ≤ 12503
in_rules ks ns c before h =
    let few = h.kinds.few in
    let names = h.names.few in
    let n = h.rules.few in
    let more = h.rules.more in
    let rules = rules_short (length ns) (length ks) few before h.rules.each in
    let front = rules_front_size ns ks c before in
    omega arith

in_rows : (ks ns : List ℕ) (rs : List FileRule) (c : ℕ) (before : List FileRow) → InRows ks ns rs c before → length (rows_front ns ks rs c before) ≤ 14499
in_rows ks ns rs c before h =
    let few = h.kinds.few in
    let names = h.names.few in
    let all = h.rules.few in
    let n = h.rows.few in
    let more = h.rows.more in
    let rules = rules_short (length ns) (length ks) few rs h.rules.each in
    let rows = rows_short (length ns) before h.rows.each in
    let front = rows_front_size ns ks rs c before in
    omega arith

pub read_short : {ks p : List ℕ} {F : Field} → ReadTo ks p F → length p + size F ≤ 14565
read_short (to_names e d) = let l = ap length e in let s = ap size d in omega arith
read_short (to_name n before h e d) = let l = ap length e in let s = ap size d in let more = h.more in let few = h.few in omega arith
read_short (to_kinds ns h e d) = let l = ap length e in let s = ap size d in let few = h.few in omega arith
read_short (to_kind ns n before h i e d) =
    let l = ap length e in
    let s = ap size d in
    let names = h.few in
    let few = i.few in
    let more = i.more in
    let a = length-append ns (n ∷ before) in
    omega arith
read_short (to_fit ns fs h i e d) = let l = ap length e in let s = ap size d in let names = h.few in let kinds = i.few in let a = head_size ns fs in omega arith
read_short {ks} (to_rules ns h i e d) = let l = ap length e in let s = ap size d in let names = h.few in let kinds = i.few in let a = head_size ns ks in omega arith
read_short {ks} (to_rule ns c before h e d) = let l = ap length e in let s = ap size d in let front = in_rules ks ns c before h in omega arith
read_short {ks} (to_letter ns c before A h i e d) =
    let l = ap length e in
    let s = ap size d in
    let front = in_rules ks ns c before h in
    let a = length-append (rules_front ns ks c before) (A ∷ []) in
    omega arith
read_short {ks} (to_number ns c before A a xs h i j e d) =
    let l = ap length e in
    let s = ap size d in
    let kinds = h.section.kinds.few in
    let front = in_rules ks ns c before h.section in
    let numbers = four_length xs in
    let b = length-append (rules_front ns ks c before) (A ∷ a ∷ joined four xs) in
    omega arith
read_short {ks} (to_length ns c before A a xs h i j e d) =
    let l = ap length e in
    let s = ap size d in
    let kinds = h.section.kinds.few in
    let front = in_rules ks ns c before h.section in
    let numbers = four_length xs in
    let b = length-append (rules_front ns ks c before) (A ∷ a ∷ joined four xs) in
    omega arith
read_short {ks} (to_word ns c before A a xs n w h i j few more below e d) =
    let l = ap length e in
    let s = ap size d in
    let kinds = h.section.kinds.few in
    let front = in_rules ks ns c before h.section in
    let numbers = four_length xs in
    let b = length-append (rules_front ns ks c before) (A ∷ a ∷ joined four xs) in
    let all = length-append (rules_front ns ks c before ++ A ∷ a ∷ joined four xs) (n ∷ w) in
    omega arith
read_short {ks} (to_rows ns rs h i j e d) =
    let l = ap length e in
    let s = ap size d in
    let names = h.few in
    let kinds = i.few in
    let few = j.few in
    let rules = rules_short (length ns) (length ks) kinds rs j.each in
    let front = rules_front_size ns ks (length rs) rs in
    omega arith
read_short {ks} (to_row ns rs c before h e d) = let l = ap length e in let s = ap size d in let front = in_rows ks ns rs c before h in omega arith
read_short {ks} (to_row_length ns rs c before A h e d) =
    let l = ap length e in
    let s = ap size d in
    let front = in_rows ks ns rs c before h.section in
    let a = length-append (rows_front ns ks rs c before) (A ∷ []) in
    omega arith
read_short {ks} (to_row_word ns rs c before A n w h some few more below e d) =
    let l = ap length e in
    let s = ap size d in
    let front = in_rows ks ns rs c before h.section in
    let a = length-append (rows_front ns ks rs c before) (A ∷ n ∷ w) in
    omega arith
read_short (to_end c h i e d) = let l = ap length e in let s = ap size d in let all = legal_short c h in omega arith
