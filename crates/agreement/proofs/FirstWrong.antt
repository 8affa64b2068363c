-- The search for the first disagreement, row by row and letter by letter. Assumes nothing.
use Rattle.std.proofs.Common.{◌≡◌, ℕ, ◌+◌, ◌<◌, ◌≤◌, Some, None, sym, ◌∙◌, subst, inl, inr, arith}
use Rattle.std.proofs.lemmas.Bool.{cases_lt}
use Rattle.tally.specs.Group.{Group}
use Rattle.grammar.specs.Meaning.{Weighted, Meaning, Letter}
use Rattle.grammar.proofs.Options.{none_some}
use Rattle.rows.specs.Sheets.{Sheet, Agrees, SelfProving}
use Rattle.agreement.specs.Agreeing.{FirstWrong}

module _ {T : Type 0} (𝓣 : Group T) (M : Meaning T) (D : Sheet T) where
  -- the rows of symbols below k agree at every letter
  abbrev pub AgreeBelow : ℕ → Type 0
  AgreeBelow k = (B : ℕ) (m : Weighted T) (b : ℕ) → B < k → D B ≡ Some m → Letter b → Agrees 𝓣 M D B m b

  -- the row of A agrees at the letters before a
  abbrev pub AgreesBefore : ℕ → ℕ → Type 0
  AgreesBefore A a = (m : Weighted T) (b : ℕ) → D A ≡ Some m → 65 ≤ b → b < a → Agrees 𝓣 M D A m b

  pub agree_none : AgreeBelow 0
  agree_none B m b l = absurd (omega arith)

  pub agrees_none : (A : ℕ) → AgreesBefore A 65
  agrees_none A m b e l h = absurd (omega arith)

  -- one letter more
  pub agrees_more : (A a : ℕ) → AgreesBefore A a → ((m : Weighted T) → D A ≡ Some m → Agrees 𝓣 M D A m a) → AgreesBefore A (a + 1)
  agrees_more A a before here m b e l h = elim (cases_lt b a) [
    | inl k ↦ before m b e l k
    | inr k ↦ subst (Agrees 𝓣 M D A m) (let same : a ≡ b = omega arith in same) (here m e)
  ]

  module _ (k A : ℕ) (gap : (B : ℕ) → k ≤ B → B < A → D B ≡ None) (below : AgreeBelow k) where
    -- with no row between
    below_gap : AgreeBelow A
    below_gap B m b l e h = elim (cases_lt B k) [ inl i ↦ below B m b i e h | inr i ↦ absurd (none_some (sym (gap B i l) ∙ e)) ]

    -- one row more
    pub agree_more : (a : ℕ) → 90 < a → AgreesBefore A a → AgreeBelow (A + 1)
    agree_more a past all B m b l e h = elim (cases_lt B A) [
      | inl i ↦ below_gap B m b i e h
      | inr i ↦
          let same : A ≡ B = omega arith in
          subst (λ C. D C ≡ Some m → Agrees 𝓣 M D C m b) same (λ d. all m b d h.0 (let z = h.1 in omega arith)) e
    ]

    -- the first that does not agree
    pub wrong_here : (a : ℕ) (m : Weighted T) → D A ≡ Some m → Letter a → AgreesBefore A a → ¬ Agrees 𝓣 M D A m a → FirstWrong 𝓣 M D A a
    wrong_here a m is letter all wrong = record {
      row = m;
      is = is;
      letter = letter;
      here = wrong;
      before = λ B k b e l s. elim s [
        | inl h ↦ below_gap B k b h e l
        | inr h ↦ subst (λ C. D C ≡ Some k → Agrees 𝓣 M D C k b) (sym h.0) (λ d. all k b d l.0 h.1) e
      ];
    }

  -- no row is left
  pub agree_all : (k : ℕ) → ((A : ℕ) → k ≤ A → D A ≡ None) → AgreeBelow k → SelfProving 𝓣 M D
  agree_all k none below A m e a l = elim (cases_lt A k) [ inl h ↦ below A m a h e l | inr h ↦ absurd (none_some (sym (none A h) ∙ e)) ]
