-- The rows of a view, tested one by one, by symbol. Assumes nothing.
use Rattle.std.proofs.Common.{◌≡◌, ℕ, ◌+◌, ◌<◌, ◌≤◌, Some, None, sym, ◌∙◌, subst, ap, inl, inr, arith}
use Rattle.std.proofs.lemmas.Bool.{cases_lt}
use Rattle.grammar.specs.Meaning.{Word}
use Rattle.grammar.proofs.Options.{none_some, some_same}
use Rattle.rows.specs.Sheets.{View}
use Rattle.sheet.specs.Rowed.{NextRow}
use Rattle.calls.specs.Offers.{AllOf, FirstOf}

module _ (P : ℕ → Word → Type 0) (U : View) where
  -- P holds of the rows of symbols below k
  abbrev pub AllBelow : ℕ → Type 0
  AllBelow k = (B : ℕ) (w : Word) → B < k → U B ≡ Some w → P B w

  -- no row is of a symbol below 0
  pub all_none : AllBelow 0
  all_none B w l = absurd (omega arith)

  module _ (k A : ℕ) (w : Word) (next : NextRow U k A) (is : U A ≡ Some w) (below : AllBelow k) where
    -- with no row between
    all_between : AllBelow A
    all_between B v l e = elim (cases_lt B k) [ inl h ↦ below B v h e | inr h ↦ absurd (none_some (sym (next.before B h l) ∙ e)) ]

    -- one row more
    pub all_more : P A w → AllBelow (A + 1)
    all_more p B v l e = elim (cases_lt B A) [
      | inl h ↦ all_between B v h e
      | inr h ↦
          let same : A ≡ B = omega arith in
          let word : w ≡ v = some_same (sym is ∙ ap U same ∙ e) in
          subst (P B) word (subst (λ C. P C w) same p)
    ]

    -- the first of which P does not hold
    pub first_not : ¬ P A w → FirstOf (λ B v. ¬ P B v) U A
    first_not wrong = record { word = w; is = is; here = wrong; before = λ B v l e n. n (all_between B v l e) }

  -- no row is left
  pub all_of : (k : ℕ) → ((A : ℕ) → k ≤ A → U A ≡ None) → AllBelow k → AllOf P U
  all_of k none below A w e = elim (cases_lt A k) [ inl h ↦ below A w h e | inr h ↦ absurd (none_some (sym (none A h) ∙ e)) ]
