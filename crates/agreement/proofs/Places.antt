-- Places of a list as they are read and written. Assumes nothing.
use Rattle.std.proofs.Common.{◌≡◌, ℕ, zero, suc, ◌<◌, length, set, slice_get, List, [], ◌∷◌, Some, refl, arith}

module _ {X : Type 0} where
  pub get_set_same : (xs : List X) (i : ℕ) (w : X) → i < length xs → slice_get (set xs i w) i ≡ Some w
  get_set_same [] i w l = absurd (omega arith)
  get_set_same (x ∷ xs) zero w l = refl
  get_set_same (x ∷ xs) (suc i) w l = get_set_same xs i w (omega arith)

  pub get_set_other : (xs : List X) (i j : ℕ) (w : X) → ¬ (j ≡ i) → slice_get (set xs i w) j ≡ slice_get xs j
  get_set_other [] i j w h = refl
  get_set_other (x ∷ xs) zero zero w h = absurd (h refl)
  get_set_other (x ∷ xs) zero (suc j) w h = refl
  get_set_other (x ∷ xs) (suc i) zero w h = refl
  get_set_other (x ∷ xs) (suc i) (suc j) w h = get_set_other xs i j w (λ e. h (omega arith))
