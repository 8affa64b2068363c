-- An answer for some kinds as the answer for the kinds that the file states, and answers tried one after the other. Assumes nothing.
use Rattle.std.proofs.Common.{◌≡◌, ℕ, List, Some, None, Err, Option, Result, sym, subst, inl, inr}
use Rattle.std.specs.Option.{MatchOption}
use Rattle.layout.specs.Contents.{Contents}
use Rattle.layout.specs.Reading.{checked, checked_any}
use Rattle.layout.specs.declared.fault.Fault.{Fault}
use Rattle.layout.specs.declared.fault.Fault.TheVariants.{Kinds}
use Rattle.layout.proofs.Any.{any_or_kinds}
use Rattle.format.specs.Views.{Answers}
use Rattle.format.specs.declared.row.Checked.{Checked}

-- where it is not that the file has other kinds
pub as_stated : (ks bs : List ℕ) (r : Result Checked Fault) → Answers (checked ks bs) r → (checked ks bs ≡ Err Kinds → ⊥) → Answers (checked_any bs) r
as_stated ks bs r h n =
    elim (any_or_kinds ks bs) [ inl k ↦ absurd (n k) | inr k ↦ subst (λ (o : Result Contents Fault). Answers o r) k h ]

-- the file has other kinds, or the answer is found
abbrev pub Tried : List ℕ → Type 0 → Option (Result Checked Fault) → Type 0
Tried bs P o = MatchOption o P (λ a. Answers (checked_any bs) a)

-- one try more, by a call E
pub tried_more : (bs : List ℕ) (P Q E : Type 0) (o r : Option (Result Checked Fault)) → Tried bs P o → MatchOption o E (λ x. r ≡ Some x) → (E → Tried bs Q r) → Tried bs (P × Q) r
tried_more bs P Q E None r p e f = at r (f e)
  where
    at : (r : Option (Result Checked Fault)) → Tried bs Q r → Tried bs (P × Q) r
    at None q = (p, q)
    at (Some a) h = h
tried_more bs P Q E (Some a) r h e f = subst (Tried bs (P × Q)) (sym e) h

-- the last try
pub tried_last : (bs : List ℕ) (P E : Type 0) (o : Option (Result Checked Fault)) (r : Result Checked Fault) → Tried bs P o → MatchOption o E (λ x. r ≡ x) → (P → E → Answers (checked_any bs) r) → Answers (checked_any bs) r
tried_last bs P E None r p e f = f p e
tried_last bs P E (Some a) r h e f = subst (Answers (checked_any bs)) (sym e) h
