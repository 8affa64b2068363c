-- The low bytes of counts and lengths that the encoder writes.
--
-- joined_same      two ways to encode items that agree on each
-- counted_same, rule_same, row_same, low_same   what fits, or is legal, has the bytes of its encoding
-- canonical                                     legal contents are written as they are encoded, and read back
-- two_same, four_same                           a number's bytes as they are cut out of it
-- joined_map       two ways to encode items seen through a function
-- wrote_contents   the sections, one behind the other
-- puts_entries     the same by a writer
-- puts_contents    the same of contents whose rules are lent
--
-- Assumes nothing.
use Rattle.std.proofs.Common.{◌≡◌, ℕ, ◌/◌, ◌%◌, ◌^◌, ◌<◌, List, [], ◌∷◌, ◌++◌, map, length, sym, refl, ap, ◌∙◌, ap₂, append_assoc, arith}
use Rattle.std.proofs.lemmas.List.{length-map}
use Rattle.layout.specs.Contents.{FileRule, FileRow, Contents, All, LegalRule, LegalRow, Legal, two, four, joined, rule_bytes, row_bytes, encode}
use Rattle.layout.specs.Reading.{value_of}
use Rattle.layout.proofs.Law.{reads}
use Rattle.format.specs.Views.{row_of}
use Rattle.format.specs.Lent.{rule_of, contents_of, contents_by, counted, low_rule, low_row, low_encode, Wrote, Puts, Canonical}
use Rattle.format.specs.declared.contents.EntryContents.{EntryContents}
use Rattle.format.specs.declared.contents.FileContents.{FileContents}
use Rattle.format.specs.declared.encode.Writer.{Writer}
use Rattle.format.proofs.Writes.{wrote_as, wrote_then, puts_as, puts_then}

joined_same : {X : Type 0} (P : X → Type 0) (f g : X → List ℕ) → ((x : X) → P x → f x ≡ g x) → (xs : List X) → All P xs → joined f xs ≡ joined g xs
joined_same P f g e [] h = refl
joined_same P f g e (x ∷ xs) h = ap₂ ◌++◌ (e x h.0) (joined_same P f g e xs h.1)

counted_same : (bs : List ℕ) → length bs < 256 → counted bs ≡ length bs ∷ bs
counted_same bs h = ap (λ n. n ∷ bs) (omega arith)

rule_same : (n k : ℕ) (r : FileRule) → LegalRule n k r → low_rule r ≡ rule_bytes r
rule_same n k r h = ap (λ w. (r.symbol ∷ r.letter ∷ joined four r.numbers) ++ w) (counted_same r.word (omega arith))

row_same : (n : ℕ) (r : FileRow) → LegalRow n r → low_row r ≡ row_bytes r
row_same n r h = ap (λ w. r.symbol ∷ w) (counted_same r.word (omega arith))

pub low_same : (c : Contents) → Legal c → low_encode c ≡ encode c
low_same c h =
    let n = length c.names in
    let k = length c.kinds in
    let few : length c.rules % 65536 ≡ length c.rules = omega arith in
    let rows : length c.rows % 256 ≡ length c.rows = omega (arith, h.rows.few) in
    let heads = ap₂ ◌++◌ (counted_same c.names (omega arith)) (counted_same c.kinds (omega arith)) in
    ap₂ ◌++◌ (ap₂ ◌++◌ (ap₂ ◌++◌ heads (ap two few)) (joined_same (LegalRule n k) low_rule rule_bytes (rule_same n k) c.rules h.rules))
    (ap₂ {C = List ℕ} (λ m r. m ∷ r) rows (joined_same (LegalRow n) low_row row_bytes (row_same n) c.rows h.rows.each))

pub canonical : (c : Contents) → Legal c → Canonical c
canonical c h = record { written = low_same c h; reads_back = ap value_of (reads (length (encode c)) c.kinds c h refl) }

pub two_same : (n : ℕ) → n < 2 ^ 16 → n / 256 % 256 ∷ n % 256 ∷ [] ≡ two n
two_same n h = ap (λ m. m ∷ n % 256 ∷ []) (omega arith)

pub four_same : (n : ℕ) → n < 2 ^ 32 → n / 16777216 % 256 ∷ n / 65536 % 256 ∷ n / 256 % 256 ∷ n % 256 ∷ [] ≡ four n
four_same n h = ap (λ m. m ∷ n / 65536 % 256 ∷ n / 256 % 256 ∷ n % 256 ∷ []) (omega arith)

-- items that are seen through g
joined_map : {X Y : Type 0} (f : Y → List ℕ) (g : X → Y) (xs : List X) → joined (λ x. f (g x)) xs ≡ joined f (map g xs)
joined_map f g [] = refl
joined_map f g (x ∷ xs) = ap (λ l. f (g x) ++ l) (joined_map f g xs)

pub wrote_contents : {R : Type 0} (rule : ℕ → R → FileRule) (c : EntryContents R) {o a b d e f q : List ℕ} {i j k l m n : ℕ} → length o < 2 ^ 64 →
    Wrote o 0 (counted c.names.now) i a → Wrote a i (counted c.kinds.now) j b → Wrote b j (two (length c.rules.now % 65536)) k d →
    Wrote d k (joined low_rule (map (rule (length c.kinds.now)) c.rules.now)) l e →
    Wrote e l (length c.rows.now % 256 ∷ []) m f → Wrote f m (joined low_row (map row_of c.rows.now)) n q → Wrote o 0 (low_encode (contents_by rule c)) n q
wrote_contents rule c room names kinds count rules rows each =
    let C = contents_by rule c in
    let here = rule (length C.kinds) in
    let heads = counted C.names ++ counted C.kinds in
    let front = λ (x : ℕ). heads ++ two (x % 65536) ++ joined low_rule C.rules in
    let written = wrote_then room (wrote_then room (wrote_then room (wrote_then room (wrote_then room names kinds) count) rules) rows) each in
    let x = length c.rules.now in
    let y = length c.rows.now in
    let same = ap₂ (λ v w. front v ++ (w % 256 ∷ joined low_row C.rows)) (sym (length-map c.rules.now here)) (sym (length-map c.rows.now row_of)) in
    wrote_as (append_assoc (front x) (y % 256 ∷ []) (joined low_row C.rows) ∙ same) written

pub puts_entries : {R : Type 0} (rule : ℕ → R → FileRule) (c : EntryContents R) {w a b d e f v : Writer} → length w.out.now < 2 ^ 64 →
    Puts w (counted c.names.now) a → Puts a (counted c.kinds.now) b → Puts b (two (length c.rules.now % 65536)) d →
    Puts d (joined (λ r. low_rule (rule (length c.kinds.now) r)) c.rules.now) e →
    Puts e (length c.rows.now % 256 ∷ []) f → Puts f (joined (λ r. low_row (row_of r)) c.rows.now) v → Puts w (low_encode (contents_by rule c)) v
puts_entries rule c room names kinds count rules rows each =
    let C = contents_by rule c in
    let here = rule (length C.kinds) in
    let heads = counted C.names ++ counted C.kinds in
    let front = λ (x : ℕ). heads ++ two (x % 65536) ++ joined low_rule C.rules in
    let rules' = puts_as (joined_map low_rule here c.rules.now) rules in
    let each' = puts_as (joined_map low_row row_of c.rows.now) each in
    let written = puts_then room (puts_then room (puts_then room (puts_then room (puts_then room names kinds) count) rules') rows) each' in
    let x = length c.rules.now in
    let y = length c.rows.now in
    let same = ap₂ (λ v w. front v ++ (w % 256 ∷ joined low_row C.rows)) (sym (length-map c.rules.now here)) (sym (length-map c.rows.now row_of)) in
    puts_as (append_assoc (front x) (y % 256 ∷ []) (joined low_row C.rows) ∙ same) written

pub puts_contents : (c : FileContents) {w a b d e f v : Writer} → length w.out.now < 2 ^ 64 →
    Puts w (counted c.names.now) a → Puts a (counted c.kinds.now) b → Puts b (two (length c.rules.now % 65536)) d →
    Puts d (joined (λ r. low_rule (rule_of r)) c.rules.now) e →
    Puts e (length c.rows.now % 256 ∷ []) f → Puts f (joined (λ r. low_row (row_of r)) c.rows.now) v → Puts w (low_encode (contents_of c)) v
puts_contents c = puts_entries (λ _ r. rule_of r) (record { names = c.names; kinds = c.kinds; rules = c.rules; rows = c.rows })
