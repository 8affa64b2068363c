-- How a sheet takes over the marked rows of another, symbol by symbol. Assumes nothing.
use Rattle.std.proofs.Common.{◌≡◌, ℕ, zero, suc, ◌+◌, ◌^◌, ◌<◌, ◌≤◌, Bool, true, false, cond, ◌&&◌, ◌||◌, eqb, List, [], ◌∷◌, length, nat_lt, set, Some, None, Option, ◌⊎◌, inl, inr, refl, sym, ap, ap₂, ◌∙◌, arith, lt-ltb, le-ltb, eq-eqb, ne_eqb}
use Rattle.std.proofs.lemmas.Bool.{cases_eq, cases_lt, true≢false}
use Rattle.std.specs.List.{slice_get}
use Rattle.std.specs.Option.{option_map}
use Rattle.norm.specs.Tabled.{held}
use Rattle.norm.specs.declared.short_word.ShortWord.{ShortWord}
use Rattle.sheet.specs.Marked.{has}
use Rattle.sheet.specs.Rowed.{view, over}
use Rattle.sheet.proofs.Rows.{placed}
use Rattle.sheet.proofs.Digits.{none_above}

or_true : (b : Bool) → (b || true) ≡ true
or_true true = refl
or_true false = refl

or_false : (b : Bool) → (b || false) ≡ b
or_false true = refl
or_false false = refl

and_false : (b : Bool) → (b && false) ≡ false
and_false true = refl
and_false false = refl

-- what a written place holds, and what the others do
get_set_same : {X : Type 0} (xs : List X) (A : ℕ) (x : X) → A < length xs → slice_get (set xs A x) A ≡ Some x
get_set_same [] A x h = absurd (omega arith)
get_set_same (y ∷ xs) zero x h = refl
get_set_same (y ∷ xs) (suc A) x h = get_set_same xs A x (omega arith)

get_set_other : {X : Type 0} (xs : List X) (A B : ℕ) (x : X) → (B ≡ A → ⊥) → slice_get (set xs A x) B ≡ slice_get xs B
get_set_other [] A B x ne = refl
get_set_other (y ∷ xs) zero zero x ne = absurd (ne refl)
get_set_other (y ∷ xs) zero (suc B) x ne = refl
get_set_other (y ∷ xs) (suc A) zero x ne = refl
get_set_other (y ∷ xs) (suc A) (suc B) x ne = get_set_other xs A B x (λ e. ne (ap suc e))

-- the tests whether a symbol was passed
passed_now : (A k : ℕ) → A ≡ k → nat_lt A (k + 1) ≡ true
passed_now A k e = lt-ltb A (k + 1) (omega arith)

unpassed : (A k : ℕ) → A ≡ k → nat_lt A k ≡ false
unpassed A k e = le-ltb A k (omega arith)

passed_same : (A k : ℕ) → (A ≡ k → ⊥) → nat_lt A (k + 1) ≡ nat_lt A k
passed_same A k ne =
    elim (cases_lt A k) [
      | inl l ↦ lt-ltb A (k + 1) (omega arith) ∙ sym (lt-ltb A k l)
      | inr l ↦ (let p : k + 1 ≤ A = omega (arith, ne) in le-ltb A (k + 1) p ∙ sym (le-ltb A k l))
    ]

module _ (os rs : List (ShortWord 64)) (om rm : ℕ) where
  -- the symbols below k are taken over
  pub record Adopted (k : ℕ) (ss : List (ShortWord 64)) (sm : ℕ) : Type 0 where
    pub rows : (A : ℕ) → slice_get ss A ≡ cond (nat_lt A k && has om A) (slice_get os A) (slice_get rs A)
    pub marks : (A : ℕ) → has sm A ≡ (has rm A || (nat_lt A k && has om A))

  pub begun : Adopted 0 rs rm
  begun = record { rows = λ A. sym (ap (λ b. cond (b && has om A) (slice_get os A) (slice_get rs A)) (le-ltb A 0 (omega arith))); marks = λ A. sym (or_false (has rm A)) ∙ sym (ap (λ b. has rm A || (b && has om A)) (le-ltb A 0 (omega arith))) }

  pub skipped : (k : ℕ) (ss : List (ShortWord 64)) (sm : ℕ) → has om k ≡ false → Adopted k ss sm → Adopted (k + 1) ss sm
  skipped k ss sm off h = record { rows = λ A. h.rows A ∙ ap (λ b. cond b (slice_get os A) (slice_get rs A)) (same A); marks = λ A. h.marks A ∙ ap (λ b. has rm A || b) (same A) }
    where
      same : (A : ℕ) → (nat_lt A k && has om A) ≡ (nat_lt A (k + 1) && has om A)
      same A =
          elim (cases_eq A k) [
            | inl e ↦ (let o : has om A ≡ false = ap (has om) e ∙ off in
                ap (λ b. nat_lt A k && b) o ∙ and_false (nat_lt A k) ∙ sym (and_false (nat_lt A (k + 1))) ∙ sym (ap (λ b. nat_lt A (k + 1) && b) o))
            | inr ne ↦ ap (λ b. b && has om A) (sym (passed_same A k ne))
          ]

  pub put : (k : ℕ) (ss ts : List (ShortWord 64)) (sm tm : ℕ) (w : ShortWord 64) → k < length ss → k < 32 → has om k ≡ true → slice_get os k ≡ Some w → ts ≡ set ss k w →
      ((A : ℕ) → has tm A ≡ (has sm A || (nat_lt k 32 && eqb A k))) → Adopted k ss sm → Adopted (k + 1) ts tm
  put k ss ts sm tm w room small on found e m h = record { rows = λ A. ap (λ xs. slice_get xs A) e ∙ row A (cases_eq A k); marks = λ A. m A ∙ ap (λ b. has sm A || (b && eqb A k)) (lt-ltb k 32 small) ∙ mark A (cases_eq A k) }
    where
      here : (A : ℕ) → A ≡ k → (nat_lt A (k + 1) && has om A) ≡ true
      here A e = ap₂ ◌&&◌ (passed_now A k e) (ap (has om) e ∙ on)

      there : (A : ℕ) → (A ≡ k → ⊥) → (nat_lt A k && has om A) ≡ (nat_lt A (k + 1) && has om A)
      there A ne = ap (λ b. b && has om A) (sym (passed_same A k ne))

      row : (A : ℕ) → (A ≡ k) ⊎ (A ≡ k → ⊥) → slice_get (set ss k w) A ≡ cond (nat_lt A (k + 1) && has om A) (slice_get os A) (slice_get rs A)
      row A (inl e) = ap (slice_get (set ss k w)) e ∙ get_set_same ss k w room ∙ sym found ∙ ap (slice_get os) (sym e) ∙ sym (ap (λ b. cond b (slice_get os A) (slice_get rs A)) (here A e))
      row A (inr ne) = get_set_other ss k A w ne ∙ h.rows A ∙ ap (λ b. cond b (slice_get os A) (slice_get rs A)) (there A ne)

      mark : (A : ℕ) → (A ≡ k) ⊎ (A ≡ k → ⊥) → (has sm A || eqb A k) ≡ (has rm A || (nat_lt A (k + 1) && has om A))
      mark A (inl e) = ap (λ b. has sm A || b) (eq-eqb A k e) ∙ or_true (has sm A) ∙ sym (or_true (has rm A)) ∙ ap (λ b. has rm A || b) (sym (here A e))
      mark A (inr ne) = ap (λ b. has sm A || b) (ne_eqb A k ne) ∙ or_false (has sm A) ∙ h.marks A ∙ ap (λ b. has rm A || b) (there A ne)

  module _ (k : ℕ) (ss : List (ShortWord 64)) (sm : ℕ) (all : 32 ≤ k) (fits : om < 2 ^ 32) (h : Adopted k ss sm) where
    whole : (A : ℕ) → (nat_lt A k && has om A) ≡ has om A
    whole A =
        elim (cases_lt A 32) [
          | inl l ↦ ap (λ b. b && has om A) (lt-ltb A k (omega arith))
          | inr l ↦ (let o = none_above om A fits l in ap (λ b. nat_lt A k && b) o ∙ and_false (nat_lt A k) ∙ sym o)
        ]

    pub adopted_rows : (A : ℕ) → slice_get ss A ≡ cond (has om A) (slice_get os A) (slice_get rs A)
    adopted_rows A = h.rows A ∙ ap (λ b. cond b (slice_get os A) (slice_get rs A)) (whole A)

    pub adopted_marks : (A : ℕ) → has sm A ≡ (has rm A || has om A)
    adopted_marks A = h.marks A ∙ ap (λ b. has rm A || b) (whole A)

    pub adopted_view : length os ≡ 32 → (A : ℕ) → view ss sm A ≡ over (view os om A) (view rs rm A)
    adopted_view room A = ap₂ (λ b o. cond b (option_map held o) None) (adopted_marks A) (adopted_rows A) ∙ by (has om A) refl
      where
        shown_here : (o p : Option (ShortWord 64)) (w : ShortWord 64) (b : Bool) → o ≡ Some w → cond (b || true) (option_map held o) None ≡ over (option_map held o) (cond b (option_map held p) None)
        shown_here o p w b e = ap (λ c. cond c (option_map held o) None) (or_true b) ∙ ap (option_map held) e ∙ sym (ap (λ q. over (option_map held q) (cond b (option_map held p) None)) e)

        by : (b : Bool) → has om A ≡ b → cond (has rm A || b) (option_map held (cond b (slice_get os A) (slice_get rs A))) None ≡ over (cond b (option_map held (slice_get os A)) None) (view rs rm A)
        by false e = ap (λ c. cond c (option_map held (slice_get rs A)) None) (or_false (has rm A))
        by true e = elim (cases_lt A 32) [
          | inl l ↦ (let p = placed os A (omega arith) in shown_here (slice_get os A) (slice_get rs A) p.0 (has rm A) p.1)
          | inr l ↦ absurd (let q : ◌≡◌ {A = Bool} true false = sym e ∙ none_above om A fits l in true≢false q)
        ]
