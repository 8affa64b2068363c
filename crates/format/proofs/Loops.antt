-- Loops over one-byte items: after k turns, k items are read and what is left begins at the place k. Assumes nothing.
use Rattle.std.proofs.Common.{◌≡◌, ℕ, suc, ◌+◌, ◌-◌, ◌*◌, ◌<◌, ◌≤◌, Bool, true, false, leb, List, [], ◌∷◌, reverse, length, get_or, take, drop, Ok, Err, Result, sym, refl, ap, ◌∙◌, ap₂, add-one, arith, length-drop, drop-cons}
use mathlib.Core.List.{reverse-reverse, reverse-append}
use Rattle.std.proofs.lemmas.List.{take_more}
use Rattle.layout.specs.Reading.{Read, Reading, then, given, place, below, rule_count, many, name, kind}
use Rattle.layout.specs.declared.fault.Fault.{Fault}
use Rattle.layout.specs.declared.fault.Fault.TheVariants.{Limit}
use Rattle.layout.proofs.Steps.{ok_same}
use Rattle.format.proofs.Fields.{single_below as below_single, single_name as name_single, single_kind as kind_single}

module _ (total : ℕ) (item : List ℕ → Reading ℕ) where
  -- an item is the first byte
  abbrev pub Single : Type 0
  Single = (before bs : List ℕ) (r : Read ℕ) → item before bs ≡ Ok r → bs ≡ r.value ∷ r.rest

  module _ (n : ℕ) (s : List ℕ) where
    pub record Went (k : ℕ) (left : List ℕ) : Type 0 where
      pub within : k ≤ length s
      pub rest : left ≡ drop k s
      pub reads : many total item n [] s ≡ many total item (n - k) (reverse (take k s)) left

    pub went_none : Went 0 s
    went_none = record { within = omega arith; rest = refl; reads = ap (λ m. many total item m [] s) (minus_zero n) }
      where
        minus_zero : (n : ℕ) → n ≡ n - 0
        minus_zero n = omega arith

    turn : (k : ℕ) (left : List ℕ) → Went k left → k < n → many total item n [] s ≡ then (item (reverse (take k s)) left) (λ x. many total item (n - (k + 1)) (x ∷ reverse (take k s)))
    turn k left w h =
        let step : n - k ≡ suc (n - (k + 1)) = omega arith in
        w.reads ∙ ap (λ m. many total item m (reverse (take k s)) left) step

    pub went_wrong : (k : ℕ) (left : List ℕ) (f : Fault) → Went k left → k < n → Err f ≡ item (reverse (take k s)) left → Err f ≡ many total item n [] s
    went_wrong k left f w h e = sym (turn k left w h ∙ ap (λ o. then o (λ x. many total item (n - (k + 1)) (x ∷ reverse (take k s)))) (sym e))

    -- the item that is read is the byte at the place k
    module _ (single : Single) (k : ℕ) (left rest : List ℕ) (x : ℕ) (w : Went k left) (e : Ok (record { value = x; rest = rest }) ≡ item (reverse (take k s)) left) where
      opens : drop k s ≡ x ∷ rest
      opens = sym w.rest ∙ single (reverse (take k s)) left (record { value = x; rest = rest }) (sym e)

      inside : k < length s
      inside = omega (arith, ap length opens, length-drop k s)

      parts : (x ≡ get_or s k 0) × (rest ≡ drop (suc k) s)
      parts = let cons : drop k s ≡ get_or s k 0 ∷ drop (suc k) s = drop-cons s k 0 inside in let o = opens in (cc, cc)

      pub went_read : reverse (take (k + 1) s) ≡ x ∷ reverse (take k s)
      went_read = ap reverse (take_more s k 0 inside) ∙ reverse-append (take k s) (get_or s k 0 ∷ []) ∙ ap (λ y. y ∷ reverse (take k s)) (sym parts.0)

      pub went_more : k < n → Went (k + 1) rest
      went_more h = record {
        within = omega (arith, inside);
        rest = rw add-one parts.1;
        reads = turn k left w h ∙ ap (λ o. then o (λ x. many total item (n - (k + 1)) (x ∷ reverse (take k s)))) (sym e) ∙ ap (λ b. many total item (n - (k + 1)) b rest) (sym went_read);
      }

    pub went_all : (k : ℕ) (left : List ℕ) → Went k left → k ≡ n → many total item n [] s ≡ Ok (record { value = take n s; rest = drop n s })
    went_all k left w e =
        let none : n - k ≡ 0 = omega arith in
        w.reads ∙ ap (λ m. many total item m (reverse (take k s)) left) none
        ∙ ap₂ {C = Result (Read (List ℕ)) Fault} (λ v r. Ok (record { value = v; rest = r })) (reverse-reverse (take k s) ∙ ap (λ j. take j s) e) (w.rest ∙ ap (λ j. drop j s) e)

-- what a reading gives, handed on
pub then_ok : {X Y : Type 0} {x : X} {rest : List ℕ} {o : Result (Read X) Fault} (k : X → Reading Y) → Ok (record { value = x; rest = rest }) ≡ o → k x rest ≡ then o k
then_ok k e = ap (λ o. then o k) e

-- the fields of one byte
pub single_below : (total n : ℕ) → Single total (λ _. below total n)
single_below total n before bs r e = below_single total n bs r e

pub single_name : (total : ℕ) → Single total (name total)
single_name = name_single

pub single_kind : (total : ℕ) → Single total (kind total)
single_kind = kind_single

-- the count of rules is two bytes
pub double_count : (total : ℕ) (bs : List ℕ) (r : Read ℕ) → rule_count total bs ≡ Ok r → (a : ℕ) × (b : ℕ) × (bs ≡ a ∷ b ∷ r.rest)
double_count total [] r e = cc
double_count total (h ∷ []) r e = cc
double_count total (h ∷ l ∷ bs) r e = at (leb (256 * h + l) 832) e
  where
    at : (t : Bool) → given t (Limit (place total (h ∷ l ∷ bs))) (256 * h + l) bs ≡ Ok r → (a : ℕ) × (b : ℕ) × (h ∷ l ∷ bs ≡ a ∷ b ∷ r.rest)
    at true e = (h, l, ap (λ (q : Read ℕ). h ∷ l ∷ q.rest) (ok_same e))
    at false e = cc
