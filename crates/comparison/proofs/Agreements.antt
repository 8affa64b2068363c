-- Pairs that agree, as rows agree and pairs are proved. Assumes nothing.
use Rattle.std.proofs.Common.{◌≡◌, ℕ, ◌<◌, ◌≤◌, cond, ◌==◌, eq-eqb, ne_eqb, Some, None, Option, sym, refl, ap, ◌∙◌, subst, arith}
use native.Mathlib.Decide.{ℕ_discrete}
use Rattle.tally.specs.Group.{Group}
use Rattle.grammar.specs.Meaning.{Word, Input, Weighted, Meaning, Letter}
use Rattle.grammar.specs.Takes.{step}
use Rattle.grammar.proofs.Options.{none_some, some_none, some_same}
use Rattle.norm.specs.Words.{raised}
use Rattle.rows.specs.Sheets.{Sheet, unweighed, Normal, Meets, SelfProving, Proves, Ranked, Extends}
use Rattle.rows.specs.Replacing.{Grown}
use Rattle.rows.specs.Laws.{RowLaws}
use Rattle.rows.proofs.Replacing.{norm_kept}
use Rattle.rows.proofs.Normals.{by}
use Rattle.comparison.specs.Treating.{Pair, Treats, agrees, unlike_norms, unlike_sums, later_one, later_two, Mends, cannot_read, other_norm, misses_first, row}
use Rattle.comparison.specs.Turning.{TreatsSides, no_rule, only_one, only_two, both, TreatsRow, AgreesAt, IsLook, row_sides}
use Rattle.comparison.specs.Agreed.{seen, Kept}
use Rattle.comparison.specs.declared.agreed.Agreed.{Agreed}
use Rattle.comparison.specs.declared.origin.Origin.{Origin}
use Rattle.comparison.specs.declared.origin.Origin.TheVariants.{Given, Row}
use Rattle.comparison.specs.declared.treatment.Treatment.{Treatment}
use Rattle.comparison.specs.declared.treatment.Treatment.TheVariants.{Agree, Different, Mend}

-- only the one treatment says that a pair agrees
abbrev tells : Treatment → Type 0
tells Agree = Unit {0}
tells Different = ⊥
tells (Mend A w) = ⊥

not_agree : (t : Treatment) → t ≡ Agree → (tells t → ⊥) → ⊥
not_agree t e h = h (subst tells (sym e) tt)

module _ {T : Type 0} (𝓣 : Group T) (M : Meaning T) (norm : ℕ → ℕ) (first : ℕ → Input) where
  mends_no : (A B : ℕ) (t : Treatment) → Mends 𝓣 M norm first A B t → t ≡ Agree → ⊥
  mends_no A B t (cannot_read e) d = not_agree Different d (λ h. h)
  mends_no A B t (other_norm m e h) d = not_agree Different d (λ h. h)
  mends_no A B t (misses_first m e f h) d = not_agree Different d (λ h. h)
  mends_no A B t (row m w e f h i) d = not_agree (Mend A w) d (λ h. h)

  module _ (D : Sheet T) where
    -- the normal forms are equal, words and sums
    pub record Even (P : Pair T) : Type 0 where
      pub word : Word
      pub one : T
      pub two : T
      pub normal_one : Normal 𝓣 D P.one word one
      pub normal_two : Normal 𝓣 D P.two word two
      pub sums : 𝓣.add P.before_one one ≡ 𝓣.add P.before_two two

    treats_even : (P : Pair T) (t : Treatment) → Treats 𝓣 M norm first D P t → t ≡ Agree → Even P
    treats_even P t (unlike_norms h) e = absurd (not_agree Different e (λ x. x))
    treats_even P t (agrees z s r n f g h) e = record { word = z; one = s; two = r; normal_one = f; normal_two = g; sums = h }
    treats_even P t (unlike_sums z s r n f g h) e = absurd (not_agree Different e (λ x. x))
    treats_even P t (later_one x y s r A B o n f g k i m) e = absurd (mends_no A B t m e)
    treats_even P t (later_two x y s r A B o n f g k i m) e = absurd (mends_no B A t m e)

    -- two sides that agree meet
    pub sides_meet : (o : T) (p k : Option (Weighted T)) (t : Treatment) → TreatsSides 𝓣 M norm first D p (raised 𝓣 o k) t → t ≡ Agree → Meets 𝓣 D o p k
    sides_meet o p None t (no_rule e f d) a = subst (λ x. Meets 𝓣 D o x None) (sym e) tt
    sides_meet o p (Some k) t (no_rule e f d) a = absurd (some_none f)
    sides_meet o p k t (only_one m e f d) a = absurd (not_agree t a (λ x. subst tells d x))
    sides_meet o p k t (only_two m e f d) a = absurd (not_agree t a (λ x. subst tells d x))
    sides_meet o p None t (both m n e f h) a = absurd (none_some f)
    sides_meet o p (Some k) t (both m n e f h) a =
        let same : n ≡ record { word = k.word; tally = 𝓣.add o k.tally } = sym (some_same f) in
        let v = treats_even (record { one = m.word; two = n.word; before_one = m.tally; before_two = n.tally }) t h a in
        subst (λ x. Meets 𝓣 D o x (Some k)) (sym e) (record {
          word = v.word;
          one = v.one;
          two = v.two;
          normal_one = v.normal_one;
          normal_two = subst (λ (x : Weighted T). Normal 𝓣 D x.word v.word v.two) same v.normal_two;
          even = v.sums ∙ ap (λ (x : Weighted T). 𝓣.add x.tally v.two) same;
        })

    -- and sides that meet agree
    module _ (ranked : Ranked M.count norm (unweighed D)) where
      pub meets_agree : (o : T) (p k : Option (Weighted T)) → Meets 𝓣 D o p k → TreatsSides 𝓣 M norm first D p (raised 𝓣 o k) Agree
      meets_agree o None None h = no_rule refl refl refl
      meets_agree o None (Some k) h = absurd h
      meets_agree o (Some p) None h = absurd h
      meets_agree o (Some p) (Some k) h =
          both p (record { word = k.word; tally = 𝓣.add o k.tally }) refl refl
          (agrees h.word h.one h.two (sym (norm_kept 𝓣 M.count norm D ranked h.normal_one) ∙ norm_kept 𝓣 M.count norm D ranked h.normal_two) h.normal_one h.normal_two h.even)

    -- where all pairs agree the rows prove themselves, and the words
    pub all_proving : (x y : Word) → ((o : Origin) → IsLook D o → AgreesAt 𝓣 M norm first D x y o) → SelfProving 𝓣 M D
    all_proving x y all A m e a l =
        sides_meet m.tally (M.rule A a) (step M m.word a) Agree
        (subst (λ (q : Option (Weighted T) × Option (Weighted T)). TreatsSides 𝓣 M norm first D q.0 q.1 Agree) (ap (row_sides 𝓣 M D A a) e) (all (Row A a) (m, e, l))) refl

    pub given_proves : (x y : Word) → AgreesAt 𝓣 M norm first D x y Given → Proves 𝓣 D x y
    given_proves x y (no_rule e f d) = absurd (some_none e)
    given_proves x y (only_one m e f d) = absurd (some_none f)
    given_proves x y (only_two m e f d) = absurd (some_none e)
    given_proves x y (both m n e f h) =
        let one : record { word = x; tally = 𝓣.zero } ≡ m = some_same e in
        let two : record { word = y; tally = 𝓣.zero } ≡ n = some_same f in
        let v = treats_even (record { one = m.word; two = n.word; before_one = m.tally; before_two = n.tally }) Agree h refl in
        let sums : v.one ≡ v.two =
        sym (𝓣.left v.one) ∙ ap (λ (k : Weighted T). 𝓣.add k.tally v.one) one ∙ v.sums ∙ sym (ap (λ (k : Weighted T). 𝓣.add k.tally v.two) two) ∙ 𝓣.left v.two in (
          v.word,
          v.two,
          by 𝓣 D sums (subst (λ (k : Weighted T). Normal 𝓣 D k.word v.word v.one) (sym one) v.normal_one),
          subst (λ (k : Weighted T). Normal 𝓣 D k.word v.word v.two) (sym two) v.normal_two,
        )

  -- what was seen to agree still does with one more row
  pub kept_more : (D E : Sheet T) → RowLaws 𝓣 M norm → Extends D E → Ranked M.count norm (unweighed D) → Ranked M.count norm (unweighed E) →
      (A : ℕ) (n : Weighted T) → Grown D A n E → (g h : Agreed) → ((C : ℕ) → seen h C ≡ cond (C == A) 65 (seen g C)) → Kept 𝓣 M norm first D g → Kept 𝓣 M norm first E h
  kept_more D E laws more ranked_D ranked A n grown g h set kept = record { low = lows; agree = agree }
    where
      lows : (C : ℕ) → C < 32 → 65 ≤ seen h C
      lows C l = go (ℕ_discrete C A)
        where
          go : Dec (C ≡ A) → 65 ≤ seen h C
          go (yes e) = let d = set C ∙ ap (λ b. cond b 65 (seen g C)) (eq-eqb C A e) in omega arith
          go (no ne) = let d = set C ∙ ap (λ b. cond b 65 (seen g C)) (ne_eqb C A ne) in let k = kept.low C l in omega arith

      agree : (C : ℕ) (m : Weighted T) (a : ℕ) → E C ≡ Some m → Letter a → a < seen h C → TreatsRow 𝓣 M norm first E C m a Agree
      agree C m a e l i = go (ℕ_discrete C A)
        where
          go : Dec (C ≡ A) → TreatsRow 𝓣 M norm first E C m a Agree
          go (yes d) = absurd (let k = set C ∙ ap (λ b. cond b 65 (seen g C)) (eq-eqb C A d) in let f = l.0 in omega arith)
          go (no ne) =
              let k = set C ∙ ap (λ b. cond b 65 (seen g C)) (ne_eqb C A ne) in
              let was = kept.agree C m a (sym (grown.others C ne) ∙ e) l (omega arith) in
              meets_agree E ranked m.tally (M.rule C a) (step M m.word a)
              (laws.more_agree D E more ranked C m a (sides_meet D m.tally (M.rule C a) (step M m.word a) Agree was refl))
