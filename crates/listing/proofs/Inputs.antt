-- The listing of what was read of an input is that of the input. Assumes nothing.
use Rattle.std.proofs.Common.{◌≡◌, ℕ, ◌<◌, ◌≤◌, List, ◌++◌, length, take, Some, None, Option, IfSome, sym, ap, subst, ◌∙◌, inl, inr, arith, append-nil, length-take-le}
use Rattle.std.proofs.lemmas.Bool.{cases_lt}
use Rattle.std.specs.Io.KnownBytes.{Consumes, IsAtEnd}
use Rattle.layout.specs.Laws.{Bytes}
use Rattle.listing.specs.Listed.{Listed}
use Rattle.listing.proofs.Longer.{longer_listing}

module _ (Q R : List ℕ → Type 0) (buffer : List ℕ) (n : ℕ) (room : length buffer ≡ 14566) (within : n ≤ length buffer) (t : List ℕ) (listed : Listed (take n buffer) t) (q : Q t) (r : R t) where
  -- all of an input, or 14,566 bytes of it
  pub input_listed : (old new : Option (List ℕ)) → Consumes old new (take n buffer) → (n < length buffer → IsAtEnd new) → IfSome old (λ bs. Bytes bs → (u : List ℕ) × Listed bs u × Q u × R u)
  input_listed None new front end = tt
  input_listed (Some xs) None front end = absurd front
  input_listed (Some xs) (Some ys) front end = λ bytes. elim (cases_lt n (length buffer)) [
    | inl l ↦ (t, subst (λ (bs : List ℕ). Listed bs t) (sym (append-nil (take n buffer)) ∙ ap (λ zs. take n buffer ++ zs) (sym (end l)) ∙ sym front) listed, q, r)
    | inr l ↦ (t, subst (λ (bs : List ℕ). Listed bs t) (sym front) (longer_listing (take n buffer) ys t (subst Bytes front bytes) (omega (arith, length-take-le n buffer within, room)) listed), q, r)
  ]
