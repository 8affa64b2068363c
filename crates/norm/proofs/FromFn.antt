-- What calls at the numbers below the length gave an array, place by place, where they leave the closure as it is. Assumes nothing.
use Rattle.std.proofs.Common.{◌≡◌, ℕ, zero, suc, ◌+◌, ◌<◌, ◌≤◌, List, get_or, sym, subst, ⊎_elim, arith}
use denote.Param.Members.{Mut, Called}
use Rattle.std.proofs.lemmas.Bool.{cases_eq}
use Rattle.std.specs.Array.{IsFromFnResultFrom}

pub from_fn_each : {F B : Type 0} (g : Mut F (ℕ × Unit {0}) B) (f : F) (m : ℕ) (P : ℕ → B → Type 0) → ((i : ℕ) (y : B) (q : F) → i < m → Called g f (i, tt) y q → P i y × (q ≡ f)) →
    (ys : List B) (i n : ℕ) → i + n ≤ m → IsFromFnResultFrom g f ys i n → (k : ℕ) (d : B) → i ≤ k → k < i + n → P k (get_or ys k d)
from_fn_each g f m P h ys i zero s r k d low high = absurd (omega arith)
from_fn_each {F} g f m P h ys i (suc n) s r k d low high =
    let u = h i r.1 r.0 (omega arith) r.3 in
    ⊎_elim
    (λ e. subst (λ j. P j (get_or ys j d)) (sym e) (subst (P i) (sym (r.2.1 d)) u.0))
    (λ e. from_fn_each g f m P h ys (i + 1) n (omega arith) (subst (λ (p : F). IsFromFnResultFrom g p ys (i + 1) n) u.1 r.4) k d (omega arith) (omega arith))
    (cases_eq k i)
