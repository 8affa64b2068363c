-- The two sides of a row after a step, as normal forms. Assumes nothing.
use Rattle.std.proofs.Common.{◌≡◌, ℕ, ◌+◌, ◌*◌, ◌≤◌, length, Bool, true, Decides, option_map, slice_get, [], ◌∷◌, ◌++◌, Some, None, Option, sym, refl, ap, ◌∙◌, subst, append-nil, arith}
use lib.Pointwise.{pointwise, bytes_decides}
use lib.Dec.{eqb}
use Rattle.tally.specs.Group.{Group}
use Rattle.tally.proofs.Totals.{right}
use Rattle.grammar.specs.Meaning.{Word, Weighted, Meaning, Below, word_of}
use Rattle.grammar.specs.Takes.{behind, step}
use Rattle.grammar.specs.WordStacks.{held}
use Rattle.grammar.specs.Places.{index}
use Rattle.grammar.proofs.Options.{none_some, some_same}
use Rattle.norm.specs.Words.{ran, onward}
use Rattle.norm.specs.Norms.{norms}
use Rattle.norm.proofs.Stored.{body_short}
use Rattle.norm.proofs.Weights.{norms_append}
use Rattle.rows.specs.Sheets.{View, Sheet, Normal, Meets, Agrees, Shaped}
use Rattle.rows.specs.Replacing.{put, gain}
use Rattle.rows.proofs.Normals.{each_map}
use Rattle.rows.proofs.Replacing.{normal_word, short_kept, joined_decides}
use Rattle.survey.specs.Surveyed.{surveyed, words_in, norm_in, run_of}
use Rattle.survey.specs.WellSurveyed.{surveyed_closed, weighed_word}
use Rattle.survey.specs.declared.run.Run.{Run}
use Rattle.survey.specs.declared.table.Survey.{Survey}
use Rattle.survey.proofs.Holding.{laws_in}
use Rattle.agreement.specs.Forms.{form_of, puts, replaced}
use Rattle.agreement.specs.Works.{rows_over}
use Rattle.agreement.specs.Agreeing.{Ready, Side}
use Rattle.agreement.specs.declared.form.Form.{Form}
use Rattle.agreement.specs.declared.workspace.Workspace.{Workspace}
use Rattle.agreement.proofs.Cutting.{unwrap, view_ranked, survey_within}

-- a test of words and a test of sums
pub even_yes : {T : Type 0} (x y : Word) (s t : T) (b : Bool) → true ≡ pointwise eqb x y → Decides b (s ≡ t) → Decides b ((x ≡ y) × (s ≡ t))
even_yes x y s t b e d = (λ h. ((bytes_decides x y).0 (sym e), d.0 h), λ h. d.1 h.1)

module _ {T : Type 0} (𝓣 : Group T) where
  -- two sides that are there
  pub sides_meet : (D : Sheet T) (o : T) (f h : Form T 512) (p q : Option (Weighted T)) (b : Bool) → Side 𝓣 D (Some f) p → Side 𝓣 D (Some h) q →
      Decides b ((held f.word ≡ held h.word) × (f.sum ≡ 𝓣.add o h.sum)) → Decides b (Meets 𝓣 D o p q)
  sides_meet D o f h None q b l r d = absurd l
  sides_meet D o f h (Some p) None b l r d = absurd r
  sides_meet D o f h (Some p) (Some q) b l r d =
      let j = joined_decides 𝓣 D o p q (held f.word) (held h.word) l.0 r.0 l.1 r.1 in (
        λ e. j.1 ((d.0 e).0, sym l.2 ∙ (d.0 e).1 ∙ ap (𝓣.add o) r.2 ∙ sym (𝓣.assoc o q.tally r.0)),
        λ m. d.1 ((j.0 m).0, l.2 ∙ (j.0 m).1 ∙ 𝓣.assoc o q.tally r.0 ∙ ap (𝓣.add o) (sym r.2)),
      )

  -- one letter of a run is a step
  pub one_ran : (M : Meaning T) (w : Word) (a : ℕ) → ran 𝓣 M w (a ∷ []) ≡ step M w a
  one_ran M w a = go (step M w a)
    where
      go : (o : Option (Weighted T)) → onward 𝓣 (λ x. ran 𝓣 M x []) o ≡ o
      go None = refl
      go (Some m) = ap (λ t. Some (record { word = m.word; tally = t })) (right 𝓣 m.tally)

  -- nothing behind
  pub behind_nothing : (o : Option (Weighted T)) → behind [] o ≡ o
  behind_nothing None = refl
  behind_nothing (Some m) = ap (λ w. Some (record { word = w; tally = m.tally })) (append-nil m.word)

  module _ (s : Survey T) (V : View) (w : Workspace T) (ready : Ready 𝓣 s V w) where
    -- the word after a step has known symbols, and its normal form has room
    pub after_known : (x : Word) (a : ℕ) (m : Weighted T) → Below s.skeleton.words.count x → step (surveyed s) x a ≡ Some m → Below s.skeleton.words.count m.word
    after_known x a m known e = (laws_in s 𝓣).run_below x (a ∷ []) m known (one_ran (surveyed s) x a ∙ e)

    norms_small : (x : Word) → Below s.skeleton.words.count x → norms (norm_in s) x ≤ 64 * length x
    norms_small [] k = omega arith
    norms_small (A ∷ x) k = let h = norms_small x k.1 in let l = s.skeleton.small A k.0 in omega arith

    rule_small : (A a : ℕ) → norms (norm_in s) (word_of ((surveyed s).rule A a)) ≤ 256
    rule_small A a =
        let known = surveyed_closed s A a in
        let h = norms_small (word_of ((surveyed s).rule A a)) known in
        let l = weighed_word (λ (x : Word). length x ≤ 4) (words_in s A a) (slice_get s.tallies (index A a)) (omega arith) (body_short s.skeleton.words.count s.skeleton.words.words A a) in
        omega arith

    pub after_small : (x : Word) (a : ℕ) (m : Weighted T) → step (surveyed s) x a ≡ Some m → norms (norm_in s) m.word ≤ 256 + norms (norm_in s) x
    after_small [] a m e = absurd (none_some e)
    after_small (A ∷ r) a m e = go ((surveyed s).rule A a) refl e
      where
        go : (o : Option (Weighted T)) → (surveyed s).rule A a ≡ o → behind r o ≡ Some m → norms (norm_in s) m.word ≤ 256 + norms (norm_in s) (A ∷ r)
        go None d f = absurd (none_some f)
        go (Some k) d f =
            let is : k.word ++ r ≡ m.word = ap (λ (x : Weighted T). x.word) (some_same f) in
            let size = ap (norms (norm_in s)) is in
            let split = norms_append (norm_in s) k.word r in
            let small : norms (norm_in s) k.word ≤ 256 = subst (λ o. norms (norm_in s) (word_of o) ≤ 256) d (rule_small A a) in
            omega arith

    pub below32 : (x : Word) → Below s.skeleton.words.count x → Below 32 x
    below32 x k = let few = s.skeleton.words.few in each_map (λ B l. omega arith) x k

    -- the normal form of known symbols, as the workspace has it
    pub word_normal : (x : Word) → Below s.skeleton.words.count x → Normal 𝓣 (rows_over 𝓣 s V) x (put (puts 𝓣 w.forms) x) (gain 𝓣 (puts 𝓣 w.forms) x)
    word_normal x k = normal_word 𝓣 (rows_over 𝓣 s V) 32 (puts 𝓣 w.forms) ready.works.forms x (below32 x k)

    pub word_room : (x : Word) → Below s.skeleton.words.count x → length (put (puts 𝓣 w.forms) x) ≤ norms (norm_in s) x
    word_room x k = short_kept 𝓣 s.skeleton.words.count (norm_in s) (survey_within 𝓣 s V).positive (rows_over 𝓣 s V) (view_ranked 𝓣 s V ready.ranked) (word_normal x k) k

    -- a step and its form
    pub side_there : (x : Word) (a : ℕ) → Below s.skeleton.words.count x → norms (norm_in s) x ≤ 64 → (o : Option (Run T)) (r : Run T) →
        (length x + 3 * length (a ∷ []) ≤ 512 → option_map run_of o ≡ ran 𝓣 (surveyed s) x (a ∷ [])) → o ≡ Some r →
        (f g : Form T 512) → (length (put (puts 𝓣 w.forms) (run_of r).word) ≤ 512 → form_of f ≡ replaced 𝓣 (puts 𝓣 w.forms) (run_of r).word) →
        held g.word ≡ held f.word → g.sum ≡ 𝓣.add r.tally f.sum → Side 𝓣 (rows_over 𝓣 s V) (Some g) (step (surveyed s) x a)
    side_there x a known small o r runs is f g fills word sum =
        let long = (laws_in s 𝓣).long_enough x known in
        let e : Some (run_of r) ≡ step (surveyed s) x a = sym (ap (option_map run_of) is) ∙ runs (omega arith) ∙ one_ran (surveyed s) x a in
        let m : Weighted T = run_of r in
        let k = after_known x a m known (sym e) in
        let size = after_small x a m (sym e) in
        let room = word_room m.word k in
        let form = fills (omega arith) in
        let n = word_normal m.word k in
        subst (Side 𝓣 (rows_over 𝓣 s V) (Some g)) e (
          gain 𝓣 (puts 𝓣 w.forms) m.word,
          subst (λ z. Normal 𝓣 (rows_over 𝓣 s V) m.word z (gain 𝓣 (puts 𝓣 w.forms) m.word)) (sym (word ∙ ap (λ (y : Weighted T). y.word) form)) n,
          sum ∙ ap (λ (y : Weighted T). 𝓣.add r.tally y.tally) form,
        )

    pub side_none : (x : Word) (a : ℕ) → Below s.skeleton.words.count x → norms (norm_in s) x ≤ 64 → (o : Option (Run T)) →
        (length x + 3 * length (a ∷ []) ≤ 512 → option_map run_of o ≡ ran 𝓣 (surveyed s) x (a ∷ [])) → o ≡ None →
        (g : Option (Form T 512)) → g ≡ None → Side 𝓣 (rows_over 𝓣 s V) g (step (surveyed s) x a)
    side_none x a known small o runs is g none =
        let long = (laws_in s 𝓣).long_enough x known in
        let e : ◌≡◌ {A = Option (Weighted T)} None (step (surveyed s) x a) = sym (ap (option_map run_of) is) ∙ runs (omega arith) ∙ one_ran (surveyed s) x a in
        subst (Side 𝓣 (rows_over 𝓣 s V) g) e (subst (λ h. Side 𝓣 (rows_over 𝓣 s V) h None) (sym none) tt)

    -- a row with its offset is that of the view
    pub row_word : (A : ℕ) (m : Weighted T) → rows_over 𝓣 s V A ≡ Some m → V A ≡ Some m.word
    row_word A m e = unwrap 𝓣 s A m.word (V A) (ap (option_map (λ (x : Weighted T). x.word)) e)

    module _ (A a : ℕ) (m : Weighted T) (row : rows_over 𝓣 s V A ≡ Some m) where
      abbrev shaped : Shaped s.skeleton.words.count (norm_in s) A m.word
      shaped = ready.ranked A m.word (row_word A m row)

      pub own_known : Below s.skeleton.words.count (A ∷ [])
      own_known = (shaped.symbol, tt)

      pub own_small : norms (norm_in s) (A ∷ []) ≤ 64
      own_small = let l = s.skeleton.small A shaped.symbol in omega arith

      pub other_small : norms (norm_in s) m.word ≤ 64
      other_small = let l = s.skeleton.small A shaped.symbol in let e = shaped.weighs in omega arith

      -- the row agrees as its sides meet
      pub sides_agree : (own other : Option (Form T 512)) (t : T) (b : Bool) →
          ((D : Sheet T) (p q : Option (Weighted T)) → Side 𝓣 D own p → Side 𝓣 D other q → Decides b (Meets 𝓣 D t p q)) →
          Side 𝓣 (rows_over 𝓣 s V) own (step (surveyed s) (A ∷ []) a) → Side 𝓣 (rows_over 𝓣 s V) other (step (surveyed s) m.word a) → t ≡ m.tally →
          Decides b (Agrees 𝓣 (surveyed s) (rows_over 𝓣 s V) A m a)
      sides_agree own other t b meets l r e =
          let D = rows_over 𝓣 s V in
          subst (λ o. Decides b (Meets 𝓣 D o ((surveyed s).rule A a) (step (surveyed s) m.word a))) e
          (meets D ((surveyed s).rule A a) (step (surveyed s) m.word a) (subst (Side 𝓣 D own) (behind_nothing ((surveyed s).rule A a)) l) r)

  -- the form of a word that has room
  pub form_normal : (s : Survey T) (V : View) (w : Workspace T) → Ready 𝓣 s V w → (x : Word) → Below s.skeleton.words.count x → norms (norm_in s) x ≤ 512 →
      (f : Form T 512) → (length (put (puts 𝓣 w.forms) x) ≤ 512 → form_of f ≡ replaced 𝓣 (puts 𝓣 w.forms) x) → Normal 𝓣 (rows_over 𝓣 s V) x (held f.word) f.sum
  form_normal s V w ready x known small f fills =
      let room = word_room s V w ready x known in
      subst (λ (m : Weighted T). Normal 𝓣 (rows_over 𝓣 s V) x m.word m.tally) (sym (fills (omega arith))) (word_normal s V w ready x known)
