-- Sums of tallies: what can be cancelled, and what stands against a taken input. Assumes nothing.
use Rattle.std.proofs.Common.{◌≡◌, Some, None, Option, sym, refl, ap, ◌∙◌}
use Rattle.tally.specs.Group.{Group}
use Rattle.grammar.specs.Takes.{shift}
use Rattle.grammar.proofs.Options.{none_some, some_none, some_same}
use Rattle.rows.specs.Sheets.{difference}

module _ {T : Type 0} (𝓣 : Group T) where
  pub cancel : (a b c : T) → 𝓣.add a b ≡ 𝓣.add a c → b ≡ c
  cancel a b c e = sym (back b) ∙ ap (𝓣.add (𝓣.neg a)) e ∙ back c
    where
      back : (x : T) → 𝓣.add (𝓣.neg a) (𝓣.add a x) ≡ x
      back x = sym (𝓣.assoc (𝓣.neg a) a x) ∙ ap (λ y. 𝓣.add y x) (𝓣.inverse a) ∙ 𝓣.left x

  pub shift_cancel : (p : T) (m n : Option T) → shift 𝓣 p m ≡ shift 𝓣 p n → m ≡ n
  shift_cancel p None None e = refl
  shift_cancel p None (Some t) e = absurd (none_some e)
  shift_cancel p (Some t) None e = absurd (some_none e)
  shift_cancel p (Some t) (Some u) e = ap {B = Option T} Some (cancel p t u (some_same e))

  pub shift_some : (p t : T) (m : Option T) → m ≡ Some t → shift 𝓣 p m ≡ Some (𝓣.add p t)
  shift_some p t m e = ap (shift 𝓣 p) e

  -- of two options that are equal up to sums, the one that is there has the other beside it
  pub beside : (p q t : T) (m n : Option T) → m ≡ Some t → shift 𝓣 p m ≡ shift 𝓣 q n → (u : T) × (n ≡ Some u) × (𝓣.add p t ≡ 𝓣.add q u)
  beside p q t m None e f = absurd (some_none (sym (shift_some p t m e) ∙ f))
  beside p q t m (Some u) e f = (u, refl, some_same (sym (shift_some p t m e) ∙ f))

  pub shifted : (p : T) (m : Option T) (t : T) → shift 𝓣 p m ≡ Some t → (u : T) × (m ≡ Some u) × (𝓣.add p u ≡ t)
  shifted p None t e = absurd (none_some e)
  shifted p (Some u) t e = (u, refl, some_same e)

  -- a difference makes up for it
  pub difference_shift : (p q : T) (m n : Option T) → m ≡ Some p → n ≡ Some q → m ≡ shift 𝓣 (difference 𝓣 m n) n
  difference_shift p q m n e f = rw (e, f) (ap {B = Option T} Some (sym (𝓣.assoc p (𝓣.neg q) q ∙ ap (𝓣.add p) (𝓣.inverse q) ∙ 𝓣.comm p 𝓣.zero ∙ 𝓣.left p)))
