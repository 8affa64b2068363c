-- The listing of a file that the check accepts, for the kinds that it states.
--
-- The idea: legal kinds are none, one, or two that rise, and each is 1, 2 or 3. So there are seven lists of them.
--
-- Assumes nothing.
use Rattle.std.proofs.Common.{◌≡◌, ℕ, ◌<◌, ◌≤◌, List, [], ◌∷◌, length, slice_index, Ok, Result, sym, ap, ap₂, ◌∙◌, subst, arith}
use Rattle.layout.specs.Contents.{Contents, Kind, All, Rising, Legal, encode}
use Rattle.layout.specs.Laws.{AnyLaw}
use Rattle.layout.specs.Reading.{checked_any}
use Rattle.layout.specs.declared.fault.Fault.{Fault}
use Rattle.format.specs.Views.{Shows}
use Rattle.format.specs.declared.row.Checked.{Checked}
use Rattle.listing.specs.Listed.{Listed, ListsFor, Told}

-- a list, element by element
pub no_kind : (ks : List ℕ) → length ks < 1 → ks ≡ []
no_kind [] h = λ i. []
no_kind (k ∷ ks) h = absurd (omega arith)

pub one_kind : (ks : List ℕ) (k : ℕ) → 1 ≤ length ks → length ks < 2 → slice_index ks 0 ≡ k → ks ≡ k ∷ []
one_kind [] k h l e = absurd (omega arith)
one_kind (j ∷ []) k h l e = ap (λ x. x ∷ []) e
one_kind (j ∷ i ∷ ks) k h l e = absurd (omega arith)

pub two_kinds : (ks : List ℕ) (j k : ℕ) → 2 ≤ length ks → length ks < 3 → slice_index ks 0 ≡ j → slice_index ks 1 ≡ k → ks ≡ j ∷ k ∷ []
two_kinds [] j k h l e d = absurd (omega arith)
two_kinds (i ∷ []) j k h l e d = absurd (omega arith)
two_kinds (a ∷ b ∷ []) j k h l e d = ap₂ (λ x y. x ∷ y ∷ []) e d
two_kinds (a ∷ b ∷ c ∷ ks) j k h l e d = absurd (omega arith)

-- what legal kinds are
pub record KindsAre (ks : List ℕ) : Type 0 where
  pub few : length ks ≤ 2
  pub first_low : 1 ≤ length ks → 1 ≤ slice_index ks 0
  pub first_high : 1 ≤ length ks → slice_index ks 0 ≤ 3
  pub rise : 2 ≤ length ks → slice_index ks 0 < slice_index ks 1
  pub second_high : 2 ≤ length ks → slice_index ks 1 ≤ 3

kinds_are : (ks : List ℕ) → length ks ≤ 2 → All Kind ks → Rising (λ x y. x < y) ks → KindsAre ks
kinds_are [] few each rising = record { few = few; first_low = λ h. absurd (omega arith); first_high = λ h. absurd (omega arith); rise = λ h. absurd (omega arith); second_high = λ h. absurd (omega arith) }
kinds_are (j ∷ []) few each rising = record { few = few; first_low = λ h. each.0.0; first_high = λ h. each.0.1; rise = λ h. absurd (omega arith); second_high = λ h. absurd (omega arith) }
kinds_are (j ∷ k ∷ ks) few each rising = record { few = few; first_low = λ h. each.0.0; first_high = λ h. each.0.1; rise = λ h. rising.0; second_high = λ h. each.1.0.1 }

module _ (bs : List ℕ) (v : Checked) (value : (c : Contents) × (checked_any bs ≡ Ok c) × Shows v c) (law : AnyLaw bs) where
  -- the contents that are shown
  abbrev pub shown : Contents
  shown = value.0

  pub legal : Legal shown
  legal = ((law.accepted shown).0 value.1).0

  pub encoded : bs ≡ encode shown
  encoded = ((law.accepted shown).0 value.1).1

  pub kinds_known : KindsAre v.kinds.now
  kinds_known = subst KindsAre (sym value.2.kinds) (kinds_are shown.kinds legal.kinds_few legal.kinds legal.kinds_rising)

  -- a listing for the kinds that it states
  pub listed_as : (ks t : List ℕ) → v.kinds.now ≡ ks → ListsFor ks shown t → Listed bs t
  listed_as ks t e lists = subst (λ (o : Result Contents Fault). Told o t) (sym value.1) (subst (λ js. ListsFor js shown t) (sym e ∙ value.2.kinds) lists)
