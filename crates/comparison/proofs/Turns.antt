-- A turn of a comparison, row by row. Assumes nothing.
use Rattle.std.proofs.Common.{◌≡◌, ℕ, ◌+◌, ◌<◌, ◌≤◌, ◌⊎◌, cond, ◌==◌, eq-eqb, ne_eqb, Some, None, Option, sym, ap, ◌∙◌, subst, inl, inr, arith}
use Rattle.std.proofs.lemmas.Bool.{cases_lt}
use native.Mathlib.Decide.{ℕ_discrete}
use Rattle.tally.specs.Group.{Group}
use Rattle.grammar.specs.Meaning.{Word, Input, Weighted, Meaning, Letter}
use Rattle.grammar.proofs.Options.{none_some, some_same}
use Rattle.norm.specs.Words.{raised}
use Rattle.grammar.specs.Takes.{step}
use Rattle.rows.specs.Sheets.{Sheet}
use Rattle.comparison.specs.Turning.{row_sides, sides, TreatsSides, TreatsRow, WrongFrom, TreatsAt, AgreesAt, IsLook, Before, Turned, all_agree, first_wrong}
use Rattle.comparison.specs.Agreed.{seen, Kept}
use Rattle.comparison.specs.declared.agreed.Agreed.{Agreed}
use Rattle.comparison.specs.declared.origin.Origin.{Origin}
use Rattle.comparison.specs.declared.origin.Origin.TheVariants.{Given, Row}
use Rattle.comparison.specs.declared.treatment.Treatment.{Treatment}
use Rattle.comparison.specs.declared.treatment.Treatment.TheVariants.{Agree}

module _ {T : Type 0} (𝓣 : Group T) (M : Meaning T) (norm : ℕ → ℕ) (first : ℕ → Input) (D : Sheet T) where
  -- the rows of symbols below k agree at every letter
  abbrev pub AllBelow : ℕ → Type 0
  AllBelow k = (B : ℕ) (m : Weighted T) (b : ℕ) → B < k → D B ≡ Some m → Letter b → TreatsRow 𝓣 M norm first D B m b Agree

  pub below_none : AllBelow 0
  below_none B m b l = absurd (omega arith)

  module _ (k A : ℕ) (m : Weighted T) (row : D A ≡ Some m) (gap : (B : ℕ) → k ≤ B → B < A → D B ≡ None) (below : AllBelow k) (g : Agreed) (kept : Kept 𝓣 M norm first D g) (small : A < 32) where
    between : AllBelow A
    between B n b l e h = elim (cases_lt B k) [ inl i ↦ below B n b i e h | inr i ↦ absurd (none_some (sym (gap B i l) ∙ e)) ]

    -- with what was seen, the row agrees at all its letters
    pub row_agrees : ((b : ℕ) → seen g A ≤ b → b ≤ 90 → TreatsRow 𝓣 M norm first D A m b Agree) → (b : ℕ) → Letter b → TreatsRow 𝓣 M norm first D A m b Agree
    row_agrees all b h = elim (cases_lt b (seen g A)) [ inl j ↦ kept.agree A m b row h j | inr j ↦ all b j h.1 ]

    pub below_more : ((b : ℕ) → seen g A ≤ b → b ≤ 90 → TreatsRow 𝓣 M norm first D A m b Agree) → AllBelow (A + 1)
    below_more all B n b l e h = elim (cases_lt B A) [ inl i ↦ between B n b i e h | inr i ↦ here (let same : A ≡ B = omega arith in same) e ]
      where
        at : (o : Weighted T) → m ≡ o → TreatsRow 𝓣 M norm first D A o b Agree
        at o d = subst (λ x. TreatsRow 𝓣 M norm first D A x b Agree) d (row_agrees all b h)

        here : A ≡ B → D B ≡ Some n → TreatsRow 𝓣 M norm first D B n b Agree
        here same d = subst (λ C. D C ≡ Some n → TreatsRow 𝓣 M norm first D C n b Agree) same (λ q. at n (some_same (sym row ∙ q))) d

    -- or does not at the letter a
    module _ (a : ℕ) (t : Treatment) (wrong : WrongFrom 𝓣 M norm first D A m (seen g A) a t) where
      pub letter : Letter a
      letter = let l = kept.low A small in let h = wrong.later in (omega arith, wrong.letter)

      -- and before it it agrees
      pub sooner : (b : ℕ) → Letter b → b < a → TreatsRow 𝓣 M norm first D A m b Agree
      sooner b h l = elim (cases_lt b (seen g A)) [ inl j ↦ kept.agree A m b row h j | inr j ↦ wrong.before b j l ]

      row_is : (x y : Word) → sides 𝓣 M D x y (Row A a) ≡ (M.rule A a, raised 𝓣 m.tally (step M m.word a))
      row_is x y = ap (row_sides 𝓣 M D A a) row

      pub turned_row : (x y : Word) → AgreesAt 𝓣 M norm first D x y Given → Turned 𝓣 M norm first D x y (Some (Row A a, t))
      turned_row x y given = first_wrong (Row A a) t (m, row, letter) (treated (sides 𝓣 M D x y (Row A a)) (row_is x y) wrong.treated) wrong.wrong before
        where
          treated : (p : Option (Weighted T) × Option (Weighted T)) → p ≡ (M.rule A a, raised 𝓣 m.tally (step M m.word a)) → TreatsRow 𝓣 M norm first D A m a t → TreatsSides 𝓣 M norm first D p.0 p.1 t
          treated p e h = subst (λ (q : Option (Weighted T) × Option (Weighted T)). TreatsSides 𝓣 M norm first D q.0 q.1 t) (sym e) h

          at : (B b : ℕ) (n : Weighted T) → D B ≡ Some n → TreatsRow 𝓣 M norm first D B n b Agree → AgreesAt 𝓣 M norm first D x y (Row B b)
          at B b n e h = subst (λ (q : Option (Weighted T) × Option (Weighted T)). TreatsSides 𝓣 M norm first D q.0 q.1 Agree) (sym (ap (row_sides 𝓣 M D B b) e)) h

          before : (u : Origin) → IsLook D u → Before u (Row A a) → AgreesAt 𝓣 M norm first D x y u
          before Given l s = given
          before (Row B b) l (inl s) = at B b l.0 l.1 (between B l.0 b s l.1 l.2)
          before (Row B b) l (inr s) = subst (λ C. Letter b → AgreesAt 𝓣 M norm first D x y (Row C b)) (sym s.0) (λ h. at A b m row (sooner b h s.1)) l.2

  -- all pairs agree
  pub turned_none : (k : ℕ) (x y : Word) → ((A : ℕ) → k ≤ A → D A ≡ None) → AllBelow k → AgreesAt 𝓣 M norm first D x y Given → Turned 𝓣 M norm first D x y None
  turned_none k x y none below given = all_agree at
    where
      at : (o : Origin) → IsLook D o → AgreesAt 𝓣 M norm first D x y o
      at Given l = given
      at (Row B b) l = elim (cases_lt B k) [
        | inl i ↦ subst (λ (q : Option (Weighted T) × Option (Weighted T)). TreatsSides 𝓣 M norm first D q.0 q.1 Agree) (sym (ap (row_sides 𝓣 M D B b) l.1)) (below B l.0 b i l.1 l.2)
        | inr i ↦ absurd (none_some (sym (none B i) ∙ l.1))
      ]

  -- the given pair does not agree
  pub turned_given : (x y : Word) (t : Treatment) → TreatsAt 𝓣 M norm first D x y Given t → ¬ (t ≡ Agree) → Turned 𝓣 M norm first D x y (Some (Given, t))
  turned_given x y t h wrong = first_wrong Given t tt h wrong before
    where
      before : (u : Origin) → IsLook D u → Before u Given → AgreesAt 𝓣 M norm first D x y u
      before Given l s = absurd s
      before (Row B b) l s = absurd s

  -- what was seen, with a row's letter set
  pub kept_set : (A a : ℕ) (m : Weighted T) (g h : Agreed) → D A ≡ Some m → 65 ≤ a → ((b : ℕ) → Letter b → b < a → TreatsRow 𝓣 M norm first D A m b Agree) →
      ((C : ℕ) → seen h C ≡ cond (C == A) a (seen g C)) → Kept 𝓣 M norm first D g → Kept 𝓣 M norm first D h
  kept_set A a m g h row low agree set kept = record { low = lows; agree = agrees }
    where
      at : (C : ℕ) → Dec (C ≡ A) → (C ≡ A × seen h C ≡ a) ⊎ (seen h C ≡ seen g C)
      at C (yes e) = inl (e, set C ∙ ap (λ b. cond b a (seen g C)) (eq-eqb C A e))
      at C (no ne) = inr (set C ∙ ap (λ b. cond b a (seen g C)) (ne_eqb C A ne))

      lows : (C : ℕ) → C < 32 → 65 ≤ seen h C
      lows C l = elim (at C (ℕ_discrete C A)) [ inl e ↦ (let d = e.1 in omega arith) | inr e ↦ (let k = kept.low C l in omega arith) ]

      agrees : (C : ℕ) (n : Weighted T) (b : ℕ) → D C ≡ Some n → Letter b → b < seen h C → TreatsRow 𝓣 M norm first D C n b Agree
      agrees C n b e l i = elim (at C (ℕ_discrete C A)) [
        | inl d ↦ subst (λ B. D B ≡ Some n → TreatsRow 𝓣 M norm first D B n b Agree) (sym d.0)
            (λ q. subst (λ x. TreatsRow 𝓣 M norm first D A x b Agree) (some_same (sym row ∙ q)) (agree b l (let f = d.1 in omega arith))) e
        | inr d ↦ kept.agree C n b e l (omega arith)
      ]
