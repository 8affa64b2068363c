-- The fields of a file: what each reading of a field accepts, and why it fails.
--
-- Fails total ks F rest f   the reading of the field F fails on rest with f
-- The tests decide what the contents' rules say, for those before a field in their order.
--
-- Assumes nothing.
use Rattle.std.proofs.Common.{◌≡◌, ℕ, ◌+◌, ◌*◌, ◌/◌, ◌%◌, ◌^◌, ◌<◌, ◌≤◌, Bool, true, false, not, ◌&&◌, ◌||◌, eqb, ltb, leb, ◌⊎◌, List, [], ◌∷◌, ◌++◌, reverse, length, Ok, Err, Decides, sym, refl, ap, ◌∙◌, ap₂, inl, inr, arith, length-append, le-leb, leb-false, leb-true}
use mathlib.Core.List.{reverse-reverse}
use Rattle.std.proofs.lemmas.Bool.Decides.{Decides-and, Decides-or, Decides-not, Decides-eqb, Decides-ltb, Decides-like}
use Rattle.grammar.specs.Meaning.{Letter}
use Rattle.layout.specs.Contents.{FileRule, FileRow, Name, Kind, All, Before, two, four}
use Rattle.layout.specs.Reading as reading
use Rattle.layout.specs.Reading.{give, given, place, same_kinds}
use Rattle.layout.specs.Wrong.{Field, count, rule_count, name, kind, fit, rule, row, symbol, letter, number, end, Last}
use Rattle.layout.specs.Laws.{Bytes}
use Rattle.layout.specs.declared.fault.Fault.{Fault}
use Rattle.layout.specs.declared.fault.Fault.TheVariants.{Short, Limit, Order, Trailing, Kinds}
use Rattle.layout.proofs.Steps.{Came, came_ok, came_err, ok_err, err_same, given_ok, given_err, false_when}
use Rattle.layout.proofs.Ordered.{all_reverse, newest}

pub decides_leb : (a b : ℕ) → Decides (leb a b) (a ≤ b)
decides_leb a b = (leb-true a b, le-leb a b)

pub decides_within : (lo hi b : ℕ) → Decides (leb lo b && leb b hi) ((lo ≤ b) × (b ≤ hi))
decides_within lo hi b = Decides-and (leb lo b) (leb b hi) (decides_leb lo b) (decides_leb b hi)

pub decides_same_kinds : (xs ys : List ℕ) → Decides (same_kinds xs ys) (xs ≡ ys)
decides_same_kinds [] [] = (λ _. refl, λ _. refl)
decides_same_kinds [] (y ∷ ys) = (λ e. absurd (let z : ◌≡◌ {A = ℕ} 0 1 = cc in omega arith), λ e. absurd (let z : ◌≡◌ {A = ℕ} 0 1 = cc in omega arith))
decides_same_kinds (x ∷ xs) [] = (λ e. absurd (let z : ◌≡◌ {A = ℕ} 0 1 = cc in omega arith), λ e. absurd (let z : ◌≡◌ {A = ℕ} 0 1 = cc in omega arith))
decides_same_kinds (x ∷ xs) (y ∷ ys) =
    Decides-like (eqb x y && same_kinds xs ys) (λ p. ap₂ {C = List ℕ} (λ a b. a ∷ b) p.0 p.1) (λ e. (cc, cc))
    (Decides-and (eqb x y) (same_kinds xs ys) (Decides-eqb x y) (decides_same_kinds xs ys))

module _ (total : ℕ) where
  pub decides_named : (b : ℕ) → Decides (reading.named b) (Name b)
  decides_named b = Decides-or (leb 97 b && leb b 122) (leb 48 b && leb b 57) (decides_within 97 122 b) (decides_within 48 57 b)

  decides_absent : (b : ℕ) (before : List ℕ) → Decides (reading.absent b before) (All (λ x. ¬ (x ≡ b)) before)
  decides_absent b [] = (λ _. tt, λ _. refl)
  decides_absent b (x ∷ xs) = Decides-and (not (eqb x b)) (reading.absent b xs) (Decides-not (eqb x b) (Decides-eqb x b)) (decides_absent b xs)

  pub absent_newest : (b : ℕ) (xs : List ℕ) → Decides (reading.absent b (reverse xs)) (All (λ x. ¬ (x ≡ b)) xs)
  absent_newest b xs =
      Decides-like (reading.absent b (reverse xs))
      (λ a. rw (reverse-reverse xs) at (all_reverse (λ x. ¬ (x ≡ b)) (reverse xs) a)) (all_reverse (λ x. ¬ (x ≡ b)) xs) (decides_absent b (reverse xs))

  pub above_newest : (b : ℕ) (xs : List ℕ) → Decides (reading.above (reverse xs) b) (Last (λ x. x < b) xs)
  above_newest b xs = newest (λ x. x < b) (λ l. reading.above l b) (λ x. ltb x b) (λ x. Decides-ltb x b) refl (λ _ _. refl) xs

  pub follows_newest : (A a : ℕ) (xs : List FileRule) → Decides (reading.follows (reverse xs) A a) (Last (λ r. Before r A a) xs)
  follows_newest A a xs =
      newest (λ r. Before r A a) (λ l. reading.follows l A a) (λ r. ltb r.symbol A || (eqb r.symbol A && ltb r.letter a))
      (λ r. Decides-or (ltb r.symbol A) (eqb r.symbol A && ltb r.letter a) (Decides-ltb r.symbol A)
      (Decides-and (eqb r.symbol A) (ltb r.letter a) (Decides-eqb r.symbol A) (Decides-ltb r.letter a))) refl (λ _ _. refl) xs

  pub row_follows_newest : (A : ℕ) (xs : List FileRow) → Decides (reading.row_follows (reverse xs) A) (Last (λ r. r.symbol < A) xs)
  row_follows_newest A xs = newest (λ r. r.symbol < A) (λ l. reading.row_follows l A) (λ r. ltb r.symbol A) (λ r. Decides-ltb r.symbol A) refl (λ _ _. refl) xs

  pub decides_name : (xs : List ℕ) (b : ℕ) → Decides (reading.named b && reading.absent b (reverse xs)) (Name b × All (λ x. ¬ (x ≡ b)) xs)
  decides_name xs b = Decides-and (reading.named b) (reading.absent b (reverse xs)) (decides_named b) (absent_newest b xs)

  pub decides_kind : (xs : List ℕ) (b : ℕ) → Decides ((leb 1 b && leb b 3) && reading.above (reverse xs) b) (Kind b × Last (λ x. x < b) xs)
  decides_kind xs b = Decides-and (leb 1 b && leb b 3) (reading.above (reverse xs) b) (decides_within 1 3 b) (above_newest b xs)

-- the count of rules, and a number
pub two_bytes : (h l : ℕ) → l < 256 → two (256 * h + l) ≡ h ∷ l ∷ []
two_bytes h l small = ap₂ {C = List ℕ} (λ x y. x ∷ y ∷ []) (omega arith) (omega arith)

pub of_two : (n : ℕ) → 256 * (n / 256) + n % 256 ≡ n
of_two n = omega arith

abbrev pub of_four : ℕ → ℕ → ℕ → ℕ → ℕ
of_four a b c d = 256 * (256 * (256 * a + b) + c) + d

pub four_bytes : (a b c d : ℕ) → a < 256 → b < 256 → c < 256 → d < 256 → four (of_four a b c d) ≡ a ∷ b ∷ c ∷ d ∷ []
four_bytes a b c d ha hb hc hd =
    let first : of_four a b c d / 16777216 ≡ a = omega arith in
    let second : of_four a b c d / 65536 % 256 ≡ b = omega arith in
    let third : of_four a b c d / 256 % 256 ≡ c = omega arith in
    let fourth : of_four a b c d % 256 ≡ d = omega arith in
    cc

pub four_below : (a b c d : ℕ) → a < 256 → b < 256 → c < 256 → d < 256 → of_four a b c d < 2 ^ 32
four_below a b c d ha hb hc hd = omega arith

pub from_four : (x : ℕ) → of_four (x / 16777216) (x / 65536 % 256) (x / 256 % 256) (x % 256) ≡ x
from_four x = omega arith

module _ (total : ℕ) where
  pub rule_count_came : (bs : List ℕ) (W : Fault → Type 0) → Bytes bs → ((f : Fault) → reading.rule_count total bs ≡ Err f → W f) → Came (reading.rule_count total bs) (λ c r. (bs ≡ two c ++ r) × (c ≤ 832)) W
  rule_count_came [] W h w = came_err (Short total) refl (w (Short total) refl)
  rule_count_came (a ∷ []) W h w = came_err (Short total) refl (w (Short total) refl)
  rule_count_came (a ∷ b ∷ r) W h w = at (leb (256 * a + b) 832) refl
    where
      at : (t : Bool) → leb (256 * a + b) 832 ≡ t → Came (reading.rule_count total (a ∷ b ∷ r)) (λ c s. (a ∷ b ∷ r ≡ two c ++ s) × (c ≤ 832)) W
      at true e =
          came_ok (record { value = 256 * a + b; rest = r }) (given_ok (leb (256 * a + b) 832) (Limit (place total (a ∷ b ∷ r))) (256 * a + b) r e)
          (ap (λ l. l ++ r) (sym (two_bytes a b h.1.0)), leb-true (256 * a + b) 832 e)
      at false e =
          let failed = given_err (leb (256 * a + b) 832) (Limit (place total (a ∷ b ∷ r))) (256 * a + b) r e in
          came_err (Limit (place total (a ∷ b ∷ r))) failed (w (Limit (place total (a ∷ b ∷ r))) failed)

  pub rule_count_accepts : (c : ℕ) (rest : List ℕ) → c ≤ 832 → reading.rule_count total (two c ++ rest) ≡ Ok (record { value = c; rest = rest })
  rule_count_accepts c rest h =
      ap (λ n. given (leb n 832) (Limit (place total (two c ++ rest))) n rest) (of_two c) ∙ given_ok (leb c 832) (Limit (place total (two c ++ rest))) c rest (le-leb c 832 h)

  pub rule_count_refuses : (a b : ℕ) (rest : List ℕ) → 832 < 256 * a + b → reading.rule_count total (a ∷ b ∷ rest) ≡ Err (Limit (place total (a ∷ b ∷ rest)))
  rule_count_refuses a b rest h =
      given_err (leb (256 * a + b) 832) (Limit (place total (a ∷ b ∷ rest))) (256 * a + b) rest (false_when (leb (256 * a + b) 832) (decides_leb (256 * a + b) 832) (λ k. omega arith))

  pub rule_count_faults : (bs : List ℕ) (f : Fault) → reading.rule_count total bs ≡ Err f →
      ((length bs < 2) × (f ≡ Short total)) ⊎ ((a b : ℕ) × (rest : List ℕ) × (bs ≡ a ∷ b ∷ rest) × (832 < 256 * a + b) × (f ≡ Limit (place total bs)))
  rule_count_faults [] f e = inl (omega arith, sym (err_same e))
  rule_count_faults (a ∷ []) f e = inl (omega arith, sym (err_same e))
  rule_count_faults (a ∷ b ∷ r) f e = inr (at (leb (256 * a + b) 832) refl)
    where
      at : (t : Bool) → leb (256 * a + b) 832 ≡ t → (c d : ℕ) × (rest : List ℕ) × (a ∷ b ∷ r ≡ c ∷ d ∷ rest) × (832 < 256 * c + d) × (f ≡ Limit (place total (a ∷ b ∷ r)))
      at true d = absurd (ok_err (sym (given_ok (leb (256 * a + b) 832) (Limit (place total (a ∷ b ∷ r))) (256 * a + b) r d) ∙ e))
      at false d = (a, b, r, refl, leb-false (256 * a + b) 832 d, err_same (sym e ∙ given_err (leb (256 * a + b) 832) (Limit (place total (a ∷ b ∷ r))) (256 * a + b) r d))

  pub number_came : (before bs : List ℕ) (W : Fault → Type 0) → Bytes bs → ((f : Fault) → reading.number total [] bs ≡ Err f → W f) → Came (reading.number total before bs) (λ x r. (bs ≡ four x ++ r) × (x < 2 ^ 32)) W
  number_came before [] W h w = came_err (Short total) refl (w (Short total) refl)
  number_came before (a ∷ []) W h w = came_err (Short total) refl (w (Short total) refl)
  number_came before (a ∷ b ∷ []) W h w = came_err (Short total) refl (w (Short total) refl)
  number_came before (a ∷ b ∷ c ∷ []) W h w = came_err (Short total) refl (w (Short total) refl)
  number_came before (a ∷ b ∷ c ∷ d ∷ r) W h w =
      came_ok (record { value = of_four a b c d; rest = r }) refl
      (ap (λ l. l ++ r) (sym (four_bytes a b c d h.0 h.1.0 h.1.1.0 h.1.1.1.0)), four_below a b c d h.0 h.1.0 h.1.1.0 h.1.1.1.0)

  pub number_accepts : (before : List ℕ) (x : ℕ) (rest : List ℕ) → reading.number total before (four x ++ rest) ≡ Ok (record { value = x; rest = rest })
  number_accepts before x rest = ap (λ y. give y rest) (from_four x)

  pub number_faults : (bs : List ℕ) (f : Fault) → reading.number total [] bs ≡ Err f → (length bs < 4) × (f ≡ Short total)
  number_faults [] f e = (omega arith, sym (err_same e))
  number_faults (a ∷ []) f e = (omega arith, sym (err_same e))
  number_faults (a ∷ b ∷ []) f e = (omega arith, sym (err_same e))
  number_faults (a ∷ b ∷ c ∷ []) f e = (omega arith, sym (err_same e))
  number_faults (a ∷ b ∷ c ∷ d ∷ r) f e = absurd (ok_err e)

-- the reading of a field fails
abbrev pub Fails : ℕ → List ℕ → Field → List ℕ → Fault → Type 0
Fails total ks (count lo hi) rest f = reading.within total lo hi rest ≡ Err f
Fails total ks rule_count rest f = reading.rule_count total rest ≡ Err f
Fails total ks (name xs) rest f = reading.name total (reverse xs) rest ≡ Err f
Fails total ks (kind xs) rest f = reading.kind total (reverse xs) rest ≡ Err f
Fails total ks (fit fs) rest f = (¬ (ks ≡ fs)) × (f ≡ Kinds)
Fails total ks (rule n xs) rest f =
    (reading.below total n rest ≡ Err f) ⊎ ((A a : ℕ) × (r : List ℕ) × (rest ≡ A ∷ a ∷ r) × (A < n) × Letter a × (¬ Last (λ s. Before s A a) xs) × (f ≡ Order (place total rest)))
Fails total ks (row n xs) rest f = (reading.below total n rest ≡ Err f) ⊎ ((A : ℕ) × (r : List ℕ) × (rest ≡ A ∷ r) × (A < n) × (¬ Last (λ s. s.symbol < A) xs) × (f ≡ Order (place total rest)))
Fails total ks (symbol n) rest f = reading.below total n rest ≡ Err f
Fails total ks letter rest f = reading.a_letter total rest ≡ Err f
Fails total ks number rest f = reading.number total [] rest ≡ Err f
Fails total ks end rest f = (b : ℕ) × (r : List ℕ) × (rest ≡ b ∷ r) × (f ≡ Trailing (place total rest))

-- what is left begins behind what was read
pub placed : (all p rest : List ℕ) → all ≡ p ++ rest → place (length all) rest ≡ length p
placed all p rest e = omega (arith, ap length e, length-append p rest)
