-- What calls at the numbers below the length gave an array, read place by place. Assumes nothing.
use Rattle.std.proofs.Common.{◌≡◌, ℕ, ◌<◌, List, Some, subst, inl, inr, arith}
use Rattle.std.proofs.lemmas.Option.{slice_get_cases}
use Rattle.std.specs.List.{slice_get}
use Rattle.std.specs.Array.{IsFromFnResult}
use Rattle.norm.proofs.FromFn.{from_fn_each}
use denote.Param.Members.{Mut, Called}

pub from_fn_gives : {F B : Type 0} (g : Mut F (ℕ × Unit {0}) B) (f : F) (n : ℕ) (P : ℕ → B → Type 0) → ((i : ℕ) (y : B) (q : F) → i < n → Called g f (i, tt) y q → P i y × (q ≡ f)) →
    (ys : List B) → IsFromFnResult g f ys n → (k : ℕ) → k < n → (y : B) × (slice_get ys k ≡ Some y) × P k y
from_fn_gives g f n P h ys r k l =
    elim (slice_get_cases ys k).1 [
      | inl c ↦ (c.0, c.2, subst (P k) c.3 (from_fn_each g f n P h ys 0 n (omega arith) r.each k c.0 (omega arith) (omega arith)))
      | inr c ↦ absurd (let e = r.long in let m = c.0 in omega arith)
    ]
