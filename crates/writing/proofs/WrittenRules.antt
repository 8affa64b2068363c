-- The rules of a grammar as they are written, by symbol, then letter. Assumes nothing.
use Rattle.std.proofs.Common.{◌≡◌, ℕ, zero, suc, ◌+◌, ◌-◌, ◌*◌, ◌/◌, ◌%◌, ◌^◌, ◌<◌, ◌≤◌, true, false, List, [], ◌∷◌, ◌++◌, length, is_some, Some, None, Option, sym, refl, ap, ◌∙◌, subst, append_assoc, append-nil, arith, length-append}
use Rattle.std.specs.Option.{option_map, option_to_list}
use Rattle.grammar.specs.Meaning.{Word, Weighted, Meaning}
use Rattle.layout.specs.Contents.{FileRule, two, four, joined, rule_bytes}
use Rattle.format.specs.Lent.{Wrote}
use Rattle.format.proofs.Writes.{wrote_then}
use Rattle.writing.specs.Files.{entry, rules_at, rules_in}

-- items of two lists
joined_append : {X : Type 0} (f : X → List ℕ) (xs ys : List X) → joined f (xs ++ ys) ≡ joined f xs ++ joined f ys
joined_append f [] ys = refl
joined_append f (x ∷ xs) ys = ap (λ r. f x ++ r) (joined_append f xs ys) ∙ sym (append_assoc (f x) (joined f xs) (joined f ys))

module _ {T : Type 0} (numbers : T → List ℕ) where
  -- the rule at a symbol and a letter, if there is one
  abbrev pub rule_for : ℕ → ℕ → Option (Weighted T) → List FileRule
  rule_for A a o = option_to_list (option_map (entry numbers A a) o)

  -- it counts one
  told : (A a : ℕ) (o : Option (Weighted T)) → is_some o ≡ true → length (rule_for A a o) ≡ 1
  told A a None e = cc
  told A a (Some m) e = refl

  -- where there is none, it counts none
  untold : (A a : ℕ) (o : Option (Weighted T)) → is_some o ≡ false → rule_for A a o ≡ []
  untold A a None e = refl
  untold A a (Some m) e = cc

  few_told : (A a : ℕ) (o : Option (Weighted T)) → length (rule_for A a o) ≤ 1
  few_told A a None = omega arith
  few_told A a (Some m) = omega arith

  module _ (M : Meaning T) where
    -- the rules of symbols below A, and those of A at letters below a
    abbrev pub rules_to : ℕ → ℕ → List FileRule
    rules_to A a = rules_in numbers M A ++ rules_at numbers M A (a - 65)

    -- with the next letter
    pub next_letter : (A a : ℕ) → 65 ≤ a → rules_to A (a + 1) ≡ rules_to A a ++ rule_for A a (M.rule A a)
    next_letter A a h =
        let k = a - 65 in
        let one : a + 1 - 65 ≡ suc k = omega arith in
        let same : 65 + k ≡ a = omega arith in
        ap (λ n. rules_in numbers M A ++ rules_at numbers M A n) one
        ∙ ap (λ b. rules_in numbers M A ++ (rules_at numbers M A k ++ rule_for A b (M.rule A b))) same
        ∙ sym (append_assoc (rules_in numbers M A) (rules_at numbers M A k) (rule_for A a (M.rule A a)))

    -- and behind the last letter the next symbol
    pub next_symbol : (A a : ℕ) → a ≡ 91 → rules_to A a ≡ rules_to (A + 1) 65
    next_symbol A a e =
        let one : A + 1 ≡ suc A = omega arith in
        let all : a - 65 ≡ 26 = omega arith in
        ap (λ n. rules_in numbers M A ++ rules_at numbers M A n) all
        ∙ sym (append-nil (rules_in numbers M (A + 1)) ∙ ap (rules_in numbers M) one)

    -- one rule more, or none
    pub count_more : (A a : ℕ) → 65 ≤ a → is_some (M.rule A a) ≡ true → length (rules_to A (a + 1)) ≡ length (rules_to A a) + 1
    count_more A a h e = ap length (next_letter A a h) ∙ length-append (rules_to A a) (rule_for A a (M.rule A a)) ∙ ap (λ n. length (rules_to A a) + n) (told A a (M.rule A a) e)

    pub count_same : (A a : ℕ) → 65 ≤ a → is_some (M.rule A a) ≡ false → length (rules_to A (a + 1)) ≡ length (rules_to A a)
    count_same A a h e = ap length (next_letter A a h ∙ ap (λ r. rules_to A a ++ r) (untold A a (M.rule A a) e) ∙ append-nil (rules_to A a))

    -- at most one at each letter
    at_few : (A k : ℕ) → length (rules_at numbers M A k) ≤ k
    at_few A zero = omega arith
    at_few A (suc k) = omega (arith, length-append (rules_at numbers M A k) (rule_for A (65 + k) (M.rule A (65 + k))), at_few A k, few_told A (65 + k) (M.rule A (65 + k)))

    in_few : (n : ℕ) → length (rules_in numbers M n) ≤ 26 * n
    in_few zero = omega arith
    in_few (suc n) = more (rules_in numbers M n) (rules_at numbers M n 26) n (in_few n) (at_few n 26)
      where
        more : (xs ys : List FileRule) (n : ℕ) → length xs ≤ 26 * n → length ys ≤ 26 → length (xs ++ ys) ≤ 26 * suc n
        more xs ys n h l = omega (arith, length-append xs ys)

    pub rules_few : (A a : ℕ) → length (rules_to A a) ≤ 26 * A + (a - 65)
    rules_few A a = omega (arith, length-append (rules_in numbers M A) (rules_at numbers M A (a - 65)), in_few A, at_few A (a - 65))

    -- the count, and the rules so far
    abbrev pub section : ℕ → ℕ → ℕ → List ℕ
    section n A a = two n ++ joined rule_bytes (rules_to A a)

    -- with the rule at the next letter
    pub rule_added : {o p q : List ℕ} {from at next : ℕ} (n A a : ℕ) → 65 ≤ a → length o < 2 ^ 64 →
        Wrote o from (section n A a) at p → Wrote p at (joined rule_bytes (rule_for A a (M.rule A a))) next q → Wrote o from (section n A (a + 1)) next q
    rule_added {o} {p} {q} {from} {at} {next} n A a h room w v =
        let xs = rules_to A a in
        let ys = rule_for A a (M.rule A a) in
        let more = append_assoc (two n) (joined rule_bytes xs) (joined rule_bytes ys) ∙ ap (λ bs. two n ++ bs) (sym (joined_append rule_bytes xs ys) ∙ ap (joined rule_bytes) (sym (next_letter A a h))) in
        subst (λ (bs : List ℕ). Wrote o from bs next q) more (wrote_then room w v)

    -- behind the last letter the next symbol
    pub letters_done : {o p : List ℕ} {from at : ℕ} (n A a : ℕ) → a ≡ 91 → Wrote o from (section n A a) at p → Wrote o from (section n (A + 1) 65) at p
    letters_done {o} {p} {from} {at} n A a e w = subst (λ (rs : List FileRule). Wrote o from (two n ++ joined rule_bytes rs) at p) (next_symbol A a e) w

-- a number's bytes as they are cut out of it
pub four_written : {o p bs : List ℕ} {at next : ℕ} (n : ℕ) → n < 2 ^ 32 → bs ≡ n / 16777216 % 256 ∷ n / 65536 % 256 ∷ n / 256 % 256 ∷ n % 256 ∷ [] → Wrote o at bs next p → Wrote o at (four n) next p
four_written {o} {p} {bs} {at} {next} n h e w = subst (λ (xs : List ℕ). Wrote o at xs next p) (e ∙ ap (λ m. m ∷ n / 65536 % 256 ∷ n / 256 % 256 ∷ n % 256 ∷ []) (omega arith)) w

-- one rule: its symbol and letter, its numbers, and its word behind its length
pub rule_written : {T : Type 0} (numbers : T → List ℕ) {o p q r s : List ℕ} {from head behind place next : ℕ} (A a len : ℕ) (t : T) (w : Word) → len ≡ length w → length o < 2 ^ 64 →
    Wrote o from (A ∷ a ∷ []) head p → Wrote p head (joined four (numbers t)) behind q → Wrote q behind (len ∷ []) place r → Wrote r place w next s →
    Wrote o from (joined rule_bytes (rule_for numbers A a (Some (record { word = w; tally = t })))) next s
rule_written numbers {o} {p} {q} {r} {s} {from} {head} {behind} {place} {next} A a len t w e room first second third fourth =
    let front = A ∷ a ∷ joined four (numbers t) in
    let bytes = append_assoc front (len ∷ []) w ∙ ap (λ n. front ++ n ∷ w) e ∙ sym (append-nil (front ++ length w ∷ w)) in
    subst (λ (bs : List ℕ). Wrote o from bs next s) bytes (wrote_then room (wrote_then room (wrote_then room first second) third) fourth)
