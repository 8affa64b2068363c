-- The bytes of fields that were read.
--
-- single_ITEM          an item of one byte is the first byte
-- few_rules            the limit of the count of rules
-- rules_in             the rules lie in the bytes
-- Bytewise s xs left   s are the items xs, the newest first, one byte each, and what is left
-- bytewise_more        and one more
-- front_of             the front of a list that ends with left
--
-- Assumes nothing.
use Rattle.std.proofs.Common.{◌≡◌, ℕ, ◌+◌, ◌-◌, ◌*◌, ◌≤◌, Bool, true, false, ◌&&◌, ltb, leb, leb-true, List, [], ◌∷◌, ◌++◌, reverse, length, take, Ok, sym, refl, ap, ◌∙◌, append_assoc, arith, length-append}
use mathlib.Core.List.{reverse-cons}
use Rattle.layout.specs.Contents.{FileRule, two, joined, rule_bytes}
use Rattle.layout.specs.Laws.{Bytes}
use Rattle.layout.specs.Reading.{Read, then, given, place, one, within, below, many, rule_count, rule, named, absent, name, above, kind}
use Rattle.layout.specs.declared.fault.Fault.{Fault}
use Rattle.layout.specs.declared.fault.Fault.TheVariants.{Limit, Symbol, Unallowed}
use Rattle.layout.proofs.Numbers.{rule_count_accepts}
use Rattle.layout.proofs.Sections.{rules_sound}
use Rattle.layout.proofs.Steps.{ok_same, then_ok}

single_test : (test : ℕ → Bool) (f : List ℕ → Fault) (total : ℕ) (bs : List ℕ) (r : Read ℕ) → then (one total bs) (λ b. given (test b) (f bs) b) ≡ Ok r → bs ≡ r.value ∷ r.rest
single_test test f total [] r e = cc
single_test test f total (b ∷ bs) r e = at (test b) e
  where
    at : (t : Bool) → given t (f (b ∷ bs)) b bs ≡ Ok r → b ∷ bs ≡ r.value ∷ r.rest
    at true e = ap (λ (q : Read ℕ). q.value ∷ q.rest) (ok_same e)
    at false e = cc

pub single_below : (total n : ℕ) (bs : List ℕ) (r : Read ℕ) → below total n bs ≡ Ok r → bs ≡ r.value ∷ r.rest
single_below total n bs r e = single_test (λ b. ltb b n) (λ cs. Symbol (place total cs)) total bs r e

pub single_name : (total : ℕ) (before bs : List ℕ) (r : Read ℕ) → name total before bs ≡ Ok r → bs ≡ r.value ∷ r.rest
single_name total before bs r e = single_test (λ b. named b && absent b before) (λ cs. Unallowed (place total cs)) total bs r e

pub single_kind : (total : ℕ) (before bs : List ℕ) (r : Read ℕ) → kind total before bs ≡ Ok r → bs ≡ r.value ∷ r.rest
single_kind total before bs r e = single_test (λ b. (leb 1 b && leb b 3) && above before b) (λ cs. Unallowed (place total cs)) total bs r e

pub single_within : (total lo hi : ℕ) (bs : List ℕ) (r : Read ℕ) → within total lo hi bs ≡ Ok r → bs ≡ r.value ∷ r.rest
single_within total lo hi bs r e = single_test (λ b. leb lo b && leb b hi) (λ cs. Limit (place total cs)) total bs r e

-- two bytes and no rule more
pub few_rules : (total : ℕ) (bs : List ℕ) (r : Read ℕ) → rule_count total bs ≡ Ok r → r.value ≤ 832
few_rules total [] r e = cc
few_rules total (h ∷ []) r e = cc
few_rules total (h ∷ l ∷ bs) r e = at (leb (256 * h + l) 832) refl e
  where
    at : (t : Bool) → leb (256 * h + l) 832 ≡ t → given t (Limit (place total (h ∷ l ∷ bs))) (256 * h + l) bs ≡ Ok r → r.value ≤ 832
    at true d e = let same = ap (λ (q : Read ℕ). q.value) (ok_same e) in omega (arith, leb-true (256 * h + l) 832 d, same)
    at false d e = cc

-- the rules that were read lie in the bytes
pub rules_in : (total n k c : ℕ) (s left : List ℕ) (xs : List FileRule) → c ≤ 832 → Bytes s → many total (rule total n k) c [] s ≡ Ok (record { value = xs; rest = left }) → length xs ≡ c →
    s ≡ joined rule_bytes xs ++ left
rules_in total n k c s left xs few bytes reads long =
    let bs = two c ++ s in
    let whole = then_ok _ (λ c. many total (rule total n k) c []) c s (rule_count_accepts total c s few) ∙ reads in
    let all : Bytes bs = (omega arith, (omega arith, bytes)) in
    let used : bs ≡ (two (length xs) ++ joined rule_bytes xs) ++ left = (rules_sound total bs all n k _ whole).1 in
    let same : bs ≡ (two c ++ joined rule_bytes xs) ++ left = rw long at used in
    cc

pub front_of : (s xs left : List ℕ) → s ≡ xs ++ left → take (length s - length left) s ≡ xs
front_of s xs left e =
    let long : length s - length left ≡ length xs = omega (arith, ap length e, length-append xs left) in
    rw (long, e) (take_front xs left)
  where
    take_front : (xs left : List ℕ) → take (length xs) (xs ++ left) ≡ xs
    take_front [] left = refl
    take_front (x ∷ xs) left = ap {B = List ℕ} (λ r. x ∷ r) (take_front xs left)

abbrev pub Bytewise : List ℕ → List ℕ → List ℕ → Type 0
Bytewise s xs left = s ≡ reverse xs ++ left

pub bytewise_more : (s xs left rest : List ℕ) (x : ℕ) → Bytewise s xs left → left ≡ x ∷ rest → Bytewise s (x ∷ xs) rest
bytewise_more s xs left rest x e d =
    e ∙ ap (λ l. reverse xs ++ l) d ∙ sym (append_assoc (reverse xs) (x ∷ []) rest) ∙ ap (λ l. l ++ rest) (sym (reverse-cons x xs))
