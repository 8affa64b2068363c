-- How many bytes legal contents have: names 33, kinds 3, the count of rules 2 and each rule 15, the count of rows 1 and each row 66. Assumes nothing.
use Rattle.std.proofs.Common.{◌≡◌, ℕ, ◌+◌, ◌*◌, ◌≤◌, List, [], ◌∷◌, ◌++◌, length, arith, length-append}
use Rattle.layout.specs.Contents.{FileRule, FileRow, Contents, All, LegalRule, LegalRow, LegalRows, Legal, two, four, joined, rule_bytes, row_bytes, rows_bytes, encode}
use Rattle.file_grammar.proofs.Placing.{four_length}
use Rattle.writing.specs.Files.{min_file}

pub joined_short : {X : Type 0} (f : X → List ℕ) (P : X → Type 0) (k : ℕ) → ((x : X) → P x → length (f x) ≤ k) → (xs : List X) → All P xs → length (joined f xs) ≤ k * length xs
joined_short f P k short [] h = omega arith
joined_short f P k short (x ∷ xs) h =
    let ih = joined_short f P k short xs h.1 in
    let one = short x h.0 in
    let l = length-append (f x) (joined f xs) in
    let more : k * length (x ∷ xs) ≡ k + k * length xs = omega arith in
    omega arith

pub rule_short : (n k : ℕ) → k ≤ 2 → (r : FileRule) → LegalRule n k r → length (rule_bytes r) ≤ 15
rule_short n k few r h =
    let l = length-append (joined four r.numbers) (length r.word ∷ r.word) in
    let f = four_length r.numbers in
    let size = h.size in
    let short = h.short in
    omega arith

pub row_short : (n : ℕ) (r : FileRow) → LegalRow n r → length (row_bytes r) ≤ 66
row_short n r h = let short = h.short in omega arith

-- a section of rows has at most 2,047
pub rows_short : (n : ℕ) (rs : List FileRow) → LegalRows n rs → length (rows_bytes rs) ≤ 2047
rows_short n rs h =
    let all = joined_short row_bytes (LegalRow n) 66 (row_short n) rs h.each in
    let few = h.few in
    omega arith

pub legal_short : (c : Contents) → Legal c → length (encode c) ≤ min_file
legal_short c h =
    let rules = joined_short rule_bytes (LegalRule (length c.names) (length c.kinds)) 15 (rule_short (length c.names) (length c.kinds) h.kinds_few) c.rules h.rules in
    let rows = rows_short (length c.names) c.rows h.rows in
    let a = h.few in
    let b = h.kinds_few in
    let d = h.rules_few in
    let l = parts c.names c.kinds (two (length c.rules)) (joined rule_bytes c.rules) (rows_bytes c.rows) in
    omega arith
  where
    parts : (ns ks a b d : List ℕ) → length (length ns ∷ ns ++ length ks ∷ ks ++ a ++ b ++ d) ≡ 2 + length ns + length ks + length a + length b + length d
    parts ns ks a b d = simp length-append (omega arith)
