-- From what fails on the two sides of a pair back to where the pair comes from.
--
-- extra o        the letters that lead to the pair of the origin o
-- room o         the most that its sides weigh
--
-- Assumes nothing.
use Rattle.std.proofs.Common.{◌≡◌, ℕ, ◌+◌, ◌≤◌, length, take, drop, option_map, [], ◌∷◌, Some, None, Option, sym, ap, ◌∙◌, subst, take_all, length-take, length-drop, arith}
use Rattle.tally.specs.Group.{Group}
use Rattle.grammar.specs.Meaning.{Word, Input, Weighted, Below}
use Rattle.grammar.specs.Takes.{step}
use Rattle.grammar.specs.WordStacks.{held}
use Rattle.grammar.proofs.Options.{none_some, some_none, some_same}
use Rattle.norm.specs.Norms.{norms, firsts}
use Rattle.norm.specs.Skeletons.{norm_at, first_at}
use Rattle.norm.specs.declared.skeleton.Skeleton.{Skeleton}
use Rattle.rows.specs.Sheets.{View, Sheet}
use Rattle.sheet.specs.Rowed.{shown}
use Rattle.survey.specs.Surveyed.{surveyed, norm_in, first_in}
use Rattle.survey.specs.declared.table.Survey.{Survey}
use Rattle.survey.proofs.Holding.{laws_in}
use Rattle.agreement.specs.Forms.{form_of}
use Rattle.agreement.specs.declared.form.Form.{Form}
use Rattle.agreement.specs.Works.{rows_over}
use Rattle.agreement.specs.Agreeing.{Ready}
use Rattle.agreement.specs.declared.workspace.Workspace.{Workspace}
use Rattle.agreement.proofs.Sides.{after_known, after_small, own_known, own_small, other_small, behind_nothing}
use Rattle.witness.specs.Alike.{AlikeOn, TrueOn}
use Rattle.witness.specs.History as history
use Rattle.witness.proofs.Endings as endings
use Rattle.walk.specs.Inputs.{most}
use Rattle.comparison.specs.Treating.{Treats}
use Rattle.comparison.specs.Turning.{row_sides, sides, IsLook, TreatsSides, no_rule, only_one, only_two, both}
use Rattle.comparison.specs.Trying.{Looks, Fails}
use Rattle.comparison.specs.Tracing.{lead_of, lead_input, Leads}
use Rattle.comparison.specs.declared.failing.Failing.{Failing}
use Rattle.comparison.specs.declared.failing.Failing.TheVariants as failings
use Rattle.comparison.specs.declared.lead.Lead.{Lead}
use Rattle.comparison.specs.declared.look.Look.{Look}
use Rattle.comparison.specs.declared.origin.Origin.{Origin}
use Rattle.comparison.specs.declared.origin.Origin.TheVariants.{Given, Row}
use Rattle.comparison.specs.declared.treatment.Treatment.{Treatment}
use Rattle.comparison.proofs.GivenPair.{small}
use Rattle.comparison.proofs.RowSides.{word_known}
use Rattle.comparison.proofs.Linking.{raised_some, raised_none}

abbrev pub extra : Origin → ℕ
extra Given = 0
extra (Row A a) = 1

abbrev pub room : Origin → ℕ
room Given = 512
room (Row A a) = 511

pub extra_one : (o : Origin) → extra o ≤ 1
extra_one Given = omega arith
extra_one (Row A a) = omega arith

pub room_extra : (o : Origin) → room o + extra o ≤ 512
room_extra Given = omega arith
room_extra (Row A a) = omega arith

-- the input to which a failing leads
lead_short : (o : Origin) (f : Failing) (t : Input) → length (lead_input o f t) ≤ length t + extra o
lead_short Given (failings.Row b) t = let h = length-take b.length (drop b.from t) in let e = length-drop b.from t in omega arith
lead_short (Row A a) (failings.Row b) t = let h = length-take b.length (drop b.from t) in let e = length-drop b.from t in omega arith
lead_short Given failings.Pair t = omega arith
lead_short (Row A a) failings.Pair t = omega arith

module _ {T : Type 0} (𝓣 : Group T) where
  -- a side as a form
  pub side_is : (o : Option (Form T 512)) (f : Form T 512) (u : Option (Weighted T)) (a : Word) → option_map form_of o ≡ u → o ≡ Some f → a ≡ held f.word → u ≡ Some (record { word = a; tally = f.sum })
  side_is o f u a e is word = sym e ∙ ap (option_map form_of) is ∙ ap (λ v. Some (record { word = v; tally = f.sum })) (sym word)

  pub none_is : (o : Option (Form T 512)) (u : Option (Weighted T)) → option_map form_of o ≡ u → o ≡ None → u ≡ None
  none_is o u e is = sym e ∙ ap (option_map form_of) is

  module _ (s : Survey T) (V : View) (w : Workspace T) (ready : Ready 𝓣 s V w) (x y : Word) (given_x : history.Given (surveyed s) x) (given_y : history.Given (surveyed s) y) where
    abbrev D : Sheet T
    D = rows_over 𝓣 s V

    abbrev one_side : Origin → Option (Weighted T)
    one_side o = (sides 𝓣 (surveyed s) D x y o).0

    abbrev two_side : Origin → Option (Weighted T)
    two_side o = (sides 𝓣 (surveyed s) D x y o).1

    -- what is kept of a failing
    pub kept : (o : Origin) (f : Failing) (t : Input) (k : ℕ) (lead : Lead) (found : Input) → Leads 𝓣 (surveyed s) D x y (Some (lead_of o f)) (lead_input o f t) → length t + extra o ≤ k → k ≤ most →
        lead ≡ lead_of o f → found ≡ take most (lead_input o f t) → Leads 𝓣 (surveyed s) D x y (Some lead) found × (length found ≤ k)
    kept o f t k lead found h size fits e is =
        let l = lead_short o f t in
        let whole : found ≡ lead_input o f t = is ∙ take_all most (lead_input o f t) (omega arith) in
        let d = ap length whole in
        (subst (λ r. Leads 𝓣 (surveyed s) D x y (Some r) found) (sym e) (subst (Leads 𝓣 (surveyed s) D x y (Some (lead_of o f))) (sym whole) h), omega arith)

    -- both sides of a pair are treated
    pub treated : (u v : Option (Weighted T)) (t : Treatment) → TreatsSides 𝓣 (surveyed s) (norm_in s) (first_in s) D u v t → (p q : Weighted T) → u ≡ Some p → v ≡ Some q →
        Treats 𝓣 (surveyed s) (norm_in s) (first_in s) D (record { one = p.word; two = q.word; before_one = p.tally; before_two = q.tally }) t
    treated u v t (no_rule e f g) p q h k = absurd (none_some (sym e ∙ h))
    treated u v t (only_one m e f g) p q h k = absurd (none_some (sym f ∙ k))
    treated u v t (only_two m e f g) p q h k = absurd (none_some (sym e ∙ h))
    treated u v t (both m n e f i) p q h k =
        subst (λ (z : Weighted T). Treats 𝓣 (surveyed s) (norm_in s) (first_in s) D (record { one = p.word; two = z.word; before_one = p.tally; before_two = z.tally }) t) (some_same (sym f ∙ k))
        (subst (λ (z : Weighted T). Treats 𝓣 (surveyed s) (norm_in s) (first_in s) D (record { one = z.word; two = n.word; before_one = z.tally; before_two = n.tally }) t) (some_same (sym e ∙ h)) i)

    -- a side of known symbols that is not too heavy
    abbrev Light : Origin → Word → Type 0
    Light o z = Below s.skeleton.words.count z × (norms (norm_in s) z ≤ room o)

    given_light : (z : Word) → history.Given (surveyed s) z → (p : Weighted T) → ◌≡◌ {A = Option (Weighted T)} (Some (record { word = z; tally = 𝓣.zero })) (Some p) → Light Given p.word
    given_light z given p e = subst (λ (k : Weighted T). Light Given k.word) (some_same e) (given.0, small 𝓣 s V w ready x y given_x given_y z given)

    -- the two sides of a row's pair
    module _ (A a : ℕ) (m : Weighted T) (row : D A ≡ Some m) where
      own : (p : Option (Weighted T)) → one_side (Row A a) ≡ p → (surveyed s).rule A a ≡ p
      own p e = sym (ap (λ (k : Option (Weighted T) × Option (Weighted T)). k.0) (ap (row_sides 𝓣 (surveyed s) D A a) row)) ∙ e

      other_some : (q : Weighted T) → two_side (Row A a) ≡ Some q → (u : Weighted T) × (step (surveyed s) m.word a ≡ Some u) × (record { word = u.word; tally = 𝓣.add m.tally u.tally } ≡ q)
      other_some q f =
          raised_some 𝓣 m.tally (step (surveyed s) m.word a) q (sym (ap (λ (k : Option (Weighted T) × Option (Weighted T)). k.1) (ap (row_sides 𝓣 (surveyed s) D A a) row)) ∙ f)

      other_none : two_side (Row A a) ≡ None → step (surveyed s) m.word a ≡ None
      other_none f =
          raised_none 𝓣 m.tally (step (surveyed s) m.word a) (sym (ap (λ (k : Option (Weighted T) × Option (Weighted T)). k.1) (ap (row_sides 𝓣 (surveyed s) D A a) row)) ∙ f)

      own_light : (p : Weighted T) → one_side (Row A a) ≡ Some p → Light (Row A a) p.word
      own_light p e =
          let stepped = behind_nothing 𝓣 ((surveyed s).rule A a) ∙ own (Some p) e in
          let h = after_small 𝓣 s V w ready (A ∷ []) a p stepped in
          let l = own_small 𝓣 s V w ready A a m row in
          (after_known 𝓣 s V w ready (A ∷ []) a p (own_known 𝓣 s V w ready A a m row) stepped, omega arith)

      other_light : (q : Weighted T) → two_side (Row A a) ≡ Some q → Light (Row A a) q.word
      other_light q f =
          let r = other_some q f in
          let h = after_small 𝓣 s V w ready m.word a r.0 r.1 in
          let l = other_small 𝓣 s V w ready A a m row in
          subst (λ (k : Weighted T). Light (Row A a) k.word) r.2 (after_known 𝓣 s V w ready m.word a r.0 (word_known 𝓣 s V w ready A a m row) r.1, omega arith)

    pub one_light : (o : Origin) → IsLook D o → (p : Weighted T) → one_side o ≡ Some p → Light o p.word
    one_light Given l p e = given_light x given_x p e
    one_light (Row A a) l p e = own_light A a l.0 l.1 p e

    pub two_light : (o : Origin) → IsLook D o → (q : Weighted T) → two_side o ≡ Some q → Light o q.word
    two_light Given l q f = given_light y given_y q f
    two_light (Row A a) l q f = other_light A a l.0 l.1 q f

    -- a side alone: the first input of its word shows it
    pub kept_alone : (o : Origin) (z : Word) → Light o z → Leads 𝓣 (surveyed s) D x y (Some (lead_of o failings.Pair)) (lead_input o failings.Pair (firsts (first_in s) z)) → (k : Skeleton) → k ≡ s.skeleton →
        (lead : Lead) (found : Input) → lead ≡ lead_of o failings.Pair →
        (Below k.words.count z → norms (norm_at k) z ≤ 512 → found ≡ take most (lead_input o failings.Pair (firsts (first_at k) z))) → Leads 𝓣 (surveyed s) D x y (Some lead) found × (length found ≤ 512)
    kept_alone o z light h k is lead found e puts =
        let r = room_extra o in
        let n = light.1 in
        let size = (laws_in s 𝓣).size z light.0 in
        let put = subst (λ j. Below j.words.count z → norms (norm_at j) z ≤ 512 → found ≡ take most (lead_input o failings.Pair (firsts (first_at j) z))) is puts in
        kept o failings.Pair (firsts (first_in s) z) 512 lead found h (omega arith) (omega arith) e (put light.0 (omega arith))

    pub one_alone : (o : Origin) → IsLook D o → (p : Weighted T) → one_side o ≡ Some p → two_side o ≡ None → Leads 𝓣 (surveyed s) D x y (Some (lead_of o failings.Pair)) (lead_input o failings.Pair (firsts (first_in s) p.word))
    one_alone Given l p e f = absurd (some_none f)
    one_alone (Row A a) l p e f = record {
      row = l.0;
      is = l.1;
      untrue = endings.rule_of_symbol 𝓣 (surveyed s) (norm_in s) (first_in s) (laws_in s 𝓣) A a l.0 p (own_light A a l.0 l.1 p e).0 (own A a l.0 l.1 (Some p) e) (other_none A a l.0 l.1 f);
    }

    pub two_alone : (o : Origin) → IsLook D o → (q : Weighted T) → one_side o ≡ None → two_side o ≡ Some q → Leads 𝓣 (surveyed s) D x y (Some (lead_of o failings.Pair)) (lead_input o failings.Pair (firsts (first_in s) q.word))
    two_alone Given l q e f = absurd (some_none e)
    two_alone (Row A a) l q e f =
        let r = other_some A a l.0 l.1 q f in
        let same : r.0.word ≡ q.word = ap (λ (k : Weighted T). k.word) r.2 in
        record {
          row = l.0;
          is = l.1;
          untrue = subst (λ v. ¬ TrueOn 𝓣 (surveyed s) A l.0 (a ∷ firsts (first_in s) v)) same
              (endings.rule_of_word 𝓣 (surveyed s) (norm_in s) (first_in s) (laws_in s 𝓣) A a l.0 r.0 (subst (Below s.skeleton.words.count) (sym same) (other_light A a l.0 l.1 q f).0) (own A a l.0 l.1 None e) r.1);
        }

-- a pair that is looked at, from its origin
module _ {T : Type 0} (𝓣 : Group T) (s : Survey T) (l : Look T) {w : Workspace T} (ready : Ready 𝓣 s (shown l.rows) w) (x y : Word) (given_x : history.Given (surveyed s) x) (given_y : history.Given (surveyed s) y)
    (o : Origin) (look : IsLook (rows_over 𝓣 s (shown l.rows)) o) (one : (sides 𝓣 (surveyed s) (rows_over 𝓣 s (shown l.rows)) x y o).0 ≡ Some (record { word = l.pair.one.now; tally = l.pair.before_one }))
    (two : (sides 𝓣 (surveyed s) (rows_over 𝓣 s (shown l.rows)) x y o).1 ≡ Some (record { word = l.pair.two.now; tally = l.pair.before_two })) where
  pub small_one : norms (norm_in s) l.pair.one.now ≤ room o
  small_one = (one_light 𝓣 s (shown l.rows) w ready x y given_x given_y o look (record { word = l.pair.one.now; tally = l.pair.before_one }) one).1

  pub small_two : norms (norm_in s) l.pair.two.now ≤ room o
  small_two = (two_light 𝓣 s (shown l.rows) w ready x y given_x given_y o look (record { word = l.pair.two.now; tally = l.pair.before_two }) two).1

  pub looks_at : Looks 𝓣 s l
  looks_at = record {
    known_one = (one_light 𝓣 s (shown l.rows) w ready x y given_x given_y o look (record { word = l.pair.one.now; tally = l.pair.before_one }) one).0;
    known_two = (two_light 𝓣 s (shown l.rows) w ready x y given_x given_y o look (record { word = l.pair.two.now; tally = l.pair.before_two }) two).0;
    small_one = let h = small_one in let r = room_extra o in omega arith;
    small_two = let h = small_two in let r = room_extra o in omega arith;
  }

  -- what fails on it leads back
  pub back : (f : Failing) (t : Input) → Fails 𝓣 s l f t → Leads 𝓣 (surveyed s) (rows_over 𝓣 s (shown l.rows)) x y (Some (lead_of o f)) (lead_input o f t)
  back f t h = go o look one two f h
    where
      go : (o : Origin) → IsLook (rows_over 𝓣 s (shown l.rows)) o → (sides 𝓣 (surveyed s) (rows_over 𝓣 s (shown l.rows)) x y o).0 ≡ Some (record { word = l.pair.one.now; tally = l.pair.before_one }) →
          (sides 𝓣 (surveyed s) (rows_over 𝓣 s (shown l.rows)) x y o).1 ≡ Some (record { word = l.pair.two.now; tally = l.pair.before_two }) → (f : Failing) → Fails 𝓣 s l f t →
          Leads 𝓣 (surveyed s) (rows_over 𝓣 s (shown l.rows)) x y (Some (lead_of o f)) (lead_input o f t)
      go Given k e d (failings.Row b) h = h
      go (Row A a) k e d (failings.Row b) h = h
      go Given k e d failings.Pair h =
          λ i. h (subst (λ (m : Weighted T). AlikeOn 𝓣 (surveyed s) m.tally l.pair.before_two m.word l.pair.two.now t) (some_same e)
          (subst (λ (n : Weighted T). AlikeOn 𝓣 (surveyed s) 𝓣.zero n.tally x n.word t) (some_same d) i))
      go (Row A a) k e d failings.Pair h =
          let m = k.0 in
          let r = other_some 𝓣 s (shown l.rows) w ready x y given_x given_y A a m k.1 (record { word = l.pair.two.now; tally = l.pair.before_two }) d in
          record {
            row = m;
            is = k.1;
            untrue = λ i. h (subst (λ (n : Weighted T). AlikeOn 𝓣 (surveyed s) l.pair.before_one n.tally l.pair.one.now n.word t) r.2
                (endings.row_leads 𝓣 (surveyed s) A a m (record { word = l.pair.one.now; tally = l.pair.before_one }) r.0 t (own 𝓣 s (shown l.rows) w ready x y given_x given_y A a m k.1 _ e) r.1 i));
          }
