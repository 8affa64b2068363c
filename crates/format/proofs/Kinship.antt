-- When a tally's kinds are those of a file. Assumes nothing.
use Rattle.std.proofs.Common.{◌≡◌, ℕ, ◌<◌, ◌≤◌, true, false, ◌&&◌, eqb, List, [], ◌∷◌, length, get_or, Some, None, Option, sym, refl, ap, ◌∙◌, arith, eq-eqb}
use Rattle.std.specs.Borrow.{Bor}
use Rattle.std.specs.List.{slice_get}
use Rattle.std.specs.Option.{option_eq, option_copied, IfSome, MatchOption}
use Rattle.std.proofs.lemmas.Option.{slice_get_past, slice_get_read}
use mathlib.Core.Bool.{and-true}
use Rattle.layout.specs.Reading.{same_kinds}
use Rattle.layout.proofs.Steps.{false_when}
use Rattle.layout.proofs.Numbers.{decides_same_kinds}

-- not where there are more or fewer
pub other_count : (ks bs : List ℕ) → (length ks ≡ length bs → ⊥) → same_kinds ks bs ≡ false
other_count ks bs other = false_when (same_kinds ks bs) (decides_same_kinds ks bs) (λ e. other (ap length e))

-- of as many kinds, at most two, where the first and the second are the same
pub first_two : (ks bs : List ℕ) → length ks ≡ length bs → length bs ≤ 2 → option_eq eqb (slice_get ks 0) (slice_get bs 0) && option_eq eqb (slice_get ks 1) (slice_get bs 1) ≡ same_kinds ks bs
first_two [] [] e few = refl
first_two [] (b ∷ bs) e few = absurd (omega arith)
first_two (k ∷ ks) [] e few = absurd (omega arith)
first_two (k ∷ []) (b ∷ []) e few = refl
first_two (k ∷ []) (b ∷ c ∷ bs) e few = absurd (omega arith)
first_two (k ∷ j ∷ ks) (b ∷ []) e few = absurd (omega arith)
first_two (k ∷ j ∷ []) (b ∷ c ∷ []) e few = ap (λ t. eqb k b && t) (sym (and-true (eqb j c)))
first_two (k ∷ j ∷ []) (b ∷ c ∷ d ∷ bs) e few = absurd (omega arith)
first_two (k ∷ j ∷ i ∷ ks) (b ∷ c ∷ bs) e few = absurd (omega arith)

-- what a look-up gave
pub looked_up : (P : Bor ℕ → Type 0) (o : Option (Bor ℕ)) (xs : List ℕ) (i : ℕ) → MatchOption o (length xs ≤ i) (λ x. (i < length xs) × P x) → IfSome o (λ x. x.now ≡ get_or xs i x.now) → option_copied o ≡ slice_get xs i
looked_up P None xs i inside is = sym (slice_get_past xs i inside)
looked_up P (Some x) xs i inside is = sym (slice_get_read xs (length xs) i x.now refl inside.0 is)

-- not where the first is another
pub other_first : (ks bs : List ℕ) → (get_or ks 0 0 ≡ get_or bs 0 0 → ⊥) → same_kinds ks bs ≡ false
other_first ks bs other = false_when (same_kinds ks bs) (decides_same_kinds ks bs) (λ e. other (ap (λ xs. get_or xs 0 0) e))

-- always where there are none
pub no_kinds : (ks bs : List ℕ) → length ks ≡ 0 → length bs ≡ 0 → same_kinds ks bs ≡ true
no_kinds [] [] e f = refl
no_kinds [] (b ∷ bs) e f = absurd (omega arith)
no_kinds (k ∷ ks) bs e f = absurd (omega arith)

-- of one kind each, where it is the same
pub one_kind : (ks bs : List ℕ) → length ks ≡ 1 → length bs ≡ 1 → same_kinds ks bs ≡ eqb (get_or ks 0 0) (get_or bs 0 0)
one_kind [] bs e f = absurd (omega arith)
one_kind (k ∷ ks) [] e f = absurd (omega arith)
one_kind (k ∷ []) (b ∷ []) e f = and-true (eqb k b)
one_kind (k ∷ []) (b ∷ c ∷ bs) e f = absurd (omega arith)
one_kind (k ∷ j ∷ ks) (b ∷ bs) e f = absurd (omega arith)

-- of two kinds each, the first the same, where the second is
pub two_kinds : (ks bs : List ℕ) → length ks ≡ 2 → length bs ≡ 2 → get_or ks 0 0 ≡ get_or bs 0 0 → same_kinds ks bs ≡ eqb (get_or ks 1 0) (get_or bs 1 0)
two_kinds [] bs e f same = absurd (omega arith)
two_kinds (k ∷ ks) [] e f same = absurd (omega arith)
two_kinds (k ∷ ks) (b ∷ bs) e f same = ap (λ t. t && same_kinds ks bs) (eq-eqb k b same) ∙ one_kind ks bs (omega arith) (omega arith)
