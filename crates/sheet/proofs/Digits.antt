-- Marks as digits: what setting one changes, and where the lowest stands.
--
-- The idea: the digit of a symbol is a remainder of a quotient by a power of two, and the laws of shifts carry it from a number to its halves.
--
-- Assumes nothing.
use Rattle.std.proofs.Common.{◌≡◌, ℕ, zero, suc, ◌+◌, ◌-◌, ◌*◌, ◌/◌, ◌%◌, ◌^◌, ◌<◌, ◌≤◌, max, Bool, true, false, cond, ◌&&◌, ◌||◌, eqb, ltb, ◌⊎◌, sym, refl, ap, ◌∙◌, ap₂, inl, inr, ⊎_elim, mod-lt, pow-suc, arith, pow_pos, pow_mono, lt-ltb, eq-eqb, ne_eqb}
use native.Mathlib.Nat.{div-eq_of_lt}
use lib.Bits.{bit_or, or_shr, or_step}
use lib.Count.{ones_in, ones, ones_cat, count_trailing_zeros, under}
use lib.Pow.{mod-pow-add}
use Rattle.std.proofs.lemmas.Nat.{pow-add, shl-shr, shr-shr, pow_below}
use Rattle.std.proofs.lemmas.Bool.{cases_lt, cases_eq, or_right}
use Rattle.sheet.specs.Marked.{has, number, Least}

or_low : (a b : ℕ) → bit_or a b % 2 ≡ max (a % 2) (b % 2)
or_low a b = omega (arith, or_step a b)

or_bit : (a b j : ℕ) → bit_or a b / 2 ^ j % 2 ≡ max (a / 2 ^ j % 2) (b / 2 ^ j % 2)
or_bit a b j = ap (λ x. x % 2) (or_shr a b j) ∙ or_low (a / 2 ^ j) (b / 2 ^ j)

bit_same : (k : ℕ) → 2 ^ k / 2 ^ k % 2 ≡ 1
bit_same k = let e : 1 * 2 ^ k ≡ 2 ^ k = omega arith in ap (λ x. x / 2 ^ k % 2) (sym e) ∙ ap (λ x. x % 2) (shl-shr 1 k)

bit_above : (i j : ℕ) → 2 ^ (suc i + j) / 2 ^ j % 2 ≡ 0
bit_above i j = ap (λ x. x / 2 ^ j % 2) (pow-add 2 (suc i) j) ∙ ap (λ x. x % 2) (shl-shr (2 ^ suc i) j) ∙ omega (arith, pow-suc 2 i)

bit_other : (k j : ℕ) → (j ≡ k → ⊥) → 2 ^ k / 2 ^ j % 2 ≡ 0
bit_other k j ne =
    elim (cases_lt j k) [
      | inl h ↦ (let e : suc (k - j - 1) + j ≡ k = omega arith in ap (λ x. 2 ^ x / 2 ^ j % 2) (sym e) ∙ bit_above (k - j - 1) j)
      | inr h ↦ (let p : k < j = omega (arith, ne) in ap (λ x. x % 2) (div-eq_of_lt (pow_below k j p)))
    ]

-- one mark more
pub mark_other : (m k j : ℕ) → (j ≡ k → ⊥) → has (bit_or m (2 ^ k)) j ≡ has m j
mark_other m k j ne = ap (λ x. eqb x 1) (or_bit m (2 ^ k) j ∙ omega (arith, bit_other k j ne))

pub mark_same : (m k : ℕ) → has (bit_or m (2 ^ k)) k ≡ true
mark_same m k = eq-eqb _ 1 (or_bit m (2 ^ k) k ∙ omega (arith, bit_same k))

pub marked_one : (m k : ℕ) → k < 32 → (A : ℕ) → has (bit_or m (2 ^ k)) A ≡ (has m A || (ltb k 32 && eqb A k))
marked_one m k h A = rw (lt-ltb k 32 h) (⊎_elim here other (cases_eq A k))
  where
    here : A ≡ k → has (bit_or m (2 ^ k)) A ≡ (has m A || eqb A k)
    here e = ap (has (bit_or m (2 ^ k))) e ∙ mark_same m k ∙ sym (or_right (has m A) (eqb A k) (eq-eqb A k e))

    other : (A ≡ k → ⊥) → has (bit_or m (2 ^ k)) A ≡ (has m A || eqb A k)
    other ne = mark_other m k A ne ∙ sym (last (has m A)) ∙ ap (λ b. has m A || b) (sym (ne_eqb A k ne))
      where
        last : (b : Bool) → (b || false) ≡ b
        last true = refl
        last false = refl

-- no mark stands at 32 or above
pub none_above : (m A : ℕ) → m < 2 ^ 32 → 32 ≤ A → has m A ≡ false
none_above m A h l = ap (λ x. eqb (x % 2) 1) (div-eq_of_lt (let p : 2 ^ 32 ≤ 2 ^ A = pow_mono l in omega arith))

-- marks from k on are those of the shifted number
pub shifted : (m k j : ℕ) → has (m / 2 ^ k) j ≡ has m (k + j)
shifted m k j = ap (λ x. eqb (x % 2) 1) (shr-shr m k j)

-- the digit above the lowest is that of the half
half_bit : (n j : ℕ) → n / 2 ^ suc j % 2 ≡ n / 2 / 2 ^ j % 2
half_bit n j = let e : 1 + j ≡ suc j = omega arith in ap (λ x. n / 2 ^ x % 2) (sym e) ∙ ap (λ x. x % 2) (sym (shr-shr n 1 j))

-- the lowest mark
pub record Lowest (m k : ℕ) : Type 0 where
  pub is : has m k ≡ true
  pub before : (j : ℕ) → j < k → has m j ≡ false

none_below : (n t : ℕ) → n % 2 ≡ 0 → ((j : ℕ) → j < t → has (n / 2) j ≡ false) → (j : ℕ) → j < suc t → has n j ≡ false
none_below n t e f zero h = ne_eqb _ 1 (λ q. omega (arith, q, e))
none_below n t e f (suc j) h = ap (λ x. eqb x 1) (half_bit n j) ∙ f j (omega arith)

lowest_step : (k n d : ℕ) → n % 2 ≡ d → (count_trailing_zeros k (n / 2) < k → Lowest (n / 2) (count_trailing_zeros k (n / 2))) → under d (count_trailing_zeros k (n / 2)) < suc k → Lowest n (under d (count_trailing_zeros k (n / 2)))
lowest_step k n zero e ih h =
    let l : Lowest (n / 2) (count_trailing_zeros k (n / 2)) = ih (omega arith) in
    record { is = ap (λ x. eqb x 1) (half_bit n (count_trailing_zeros k (n / 2))) ∙ l.is; before = none_below n (count_trailing_zeros k (n / 2)) e l.before }
lowest_step k n (suc d) e ih h = record { is = eq-eqb _ 1 (omega (arith, e)); before = λ j lt. absurd (omega (arith, lt)) }

trailing_lowest : (k n : ℕ) → count_trailing_zeros k n < k → Lowest n (count_trailing_zeros k n)
unfolding count_trailing_zeros
trailing_lowest zero n h = absurd (omega arith)
trailing_lowest (suc k) n h = lowest_step k n (n % 2) refl (trailing_lowest k (n / 2)) h

lt_step : (k n d : ℕ) → n % 2 ≡ d → (0 < n / 2 → count_trailing_zeros k (n / 2) < k) → 0 < n → under d (count_trailing_zeros k (n / 2)) < suc k
lt_step k n zero e ih h = let p : count_trailing_zeros k (n / 2) < k = ih (omega (arith, e)) in omega arith
lt_step k n (suc d) e ih h = omega arith

pub trailing_lt : (k n : ℕ) → 0 < n → n < 2 ^ k → count_trailing_zeros k n < k
unfolding count_trailing_zeros
trailing_lt zero n h b = absurd (omega arith)
trailing_lt (suc k) n h b = lt_step k n (n % 2) refl (λ p. trailing_lt k (n / 2) p (omega (arith, pow-suc 2 k))) h

-- no number has no mark but zero
pub zero_none : (A : ℕ) → has 0 A ≡ false
zero_none A = ap (λ x. eqb (x % 2) 1) (div-eq_of_lt (pow_pos A))

-- the least mark from k on
pub least_from : (m k : ℕ) → k < 32 → m < 2 ^ 32 → (r : ℕ) → r ≡ m / 2 ^ k → 0 < r → r < 2 ^ 32 → (k + count_trailing_zeros 32 r < 32) × Least m k (k + count_trailing_zeros 32 r)
least_from m k h small r e some fits =
    let low = trailing_lowest 32 r (trailing_lt 32 r some fits) in
    let t = count_trailing_zeros 32 r in
    let at : has m (k + count_trailing_zeros 32 r) ≡ true = sym (shifted m k (count_trailing_zeros 32 r)) ∙ ap (λ x. has x (count_trailing_zeros 32 r)) (sym e) ∙ low.is in (
      below_32 (cases_lt (k + count_trailing_zeros 32 r) 32) at,
      record {
        from = omega arith;
        is = at;
        before = λ B l u.
            let j : k + (B - k) ≡ B = omega arith in
            ap (has m) (sym j) ∙ sym (shifted m k (B - k)) ∙ ap (λ x. has x (B - k)) (sym e) ∙ low.before (B - k) (omega arith);
      },
    )
  where
    below_32 : (k + count_trailing_zeros 32 r < 32) ⊎ (32 ≤ k + count_trailing_zeros 32 r) → has m (k + count_trailing_zeros 32 r) ≡ true → k + count_trailing_zeros 32 r < 32
    below_32 (inl l) d = l
    below_32 (inr l) d = absurd (let z : ◌≡◌ {A = ℕ} 0 1 = cc (none_above m (k + count_trailing_zeros 32 r) small l) in omega arith)

-- and none, where nothing is left
pub none_from : (m k : ℕ) → m / 2 ^ k ≡ 0 → (A : ℕ) → k ≤ A → has m A ≡ false
none_from m k e A l = let j : k + (A - k) ≡ A = omega arith in ap (has m) (sym j) ∙ sym (shifted m k (A - k)) ∙ ap (λ x. has x (A - k)) e ∙ zero_none (A - k)

-- the set digits of a number are its marks
ones_none : ones 0 ≡ 0
unfolding ones ones_in
ones_none = refl

ones_one : ones 1 ≡ 1
unfolding ones ones_in
ones_one = refl

-- one digit
digit : (d : ℕ) → d < 2 → ones d ≡ cond (eqb d 1) 1 0
digit zero h = ones_none
digit (suc zero) h = ones_one
digit (suc (suc d)) h = absurd (omega arith)

pub number_ones : (m k : ℕ) → ones (m % 2 ^ k) ≡ number m k
number_ones m zero = ap ones (let e : m % 1 ≡ 0 = omega arith in e) ∙ ones_none
number_ones m (suc k) =
    let s : 1 + k ≡ suc k = omega arith in
    let d : m / 2 ^ k % 2 < 2 = omega arith in
    ap (λ j. ones (m % 2 ^ j)) (sym s) ∙ ap ones (mod-pow-add m 1 k) ∙ ones_cat k (m / 2 ^ k % 2) (m % 2 ^ k) (mod-lt m (pow_pos k))
    ∙ ap₂ ◌+◌ (digit (m / 2 ^ k % 2) d) (number_ones m k)
