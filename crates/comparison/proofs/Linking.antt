-- From what a turn finds to what a comparison writes, and how it ends. Assumes nothing.
use Rattle.std.proofs.Common.{◌≡◌, ℕ, ◌+◌, ◌<◌, ◌≤◌, [], ◌∷◌, ◌++◌, Some, None, Option, sym, refl, ap, ◌∙◌, subst, inl, inr, arith}
use Rattle.std.proofs.lemmas.Bool.{cases_lt}
use Rattle.tally.specs.Group.{Group}
use Rattle.grammar.specs.Meaning.{Word, Weighted, Below}
use Rattle.grammar.specs.Takes.{step}
use Rattle.grammar.proofs.Options.{none_some, some_none, some_same}
use Rattle.norm.specs.Tabled.{held}
use Rattle.norm.specs.declared.short_word.ShortWord.{ShortWord}
use Rattle.norm.specs.Words.{ran, raised}
use Rattle.norm.specs.Norms.{norms}
use Rattle.rows.specs.Sheets.{View, Sheet, offset, Normal}
use Rattle.rows.specs.Replacing.{Grown}
use Rattle.survey.specs.Surveyed.{surveyed, norm_in, first_in}
use Rattle.survey.specs.declared.table.Survey.{Survey}
use Rattle.survey.proofs.Holding.{laws_in}
use Rattle.agreement.specs.Works.{rows_over}
use Rattle.agreement.specs.Agreeing.{Ready}
use Rattle.agreement.specs.declared.workspace.Workspace.{Workspace}
use Rattle.agreement.proofs.Cutting.{view_ranked}
use Rattle.agreement.proofs.Sides.{after_known, own_known, behind_nothing}
use Rattle.witness.specs.History as history
use Rattle.comparison.specs.Treating.{Mends, cannot_read, other_norm, misses_first, row, Treats, unlike_norms, unlike_sums, later_one, later_two}
use Rattle.comparison.specs.Turning.{row_sides, sides, IsLook, TreatsAt, no_rule, only_one, only_two, both}
use Rattle.comparison.specs.declared.origin.Origin.{Origin}
use Rattle.comparison.specs.declared.origin.Origin.TheVariants.{Given, Row}
use Rattle.comparison.specs.declared.treatment.Treatment.{Treatment}
use Rattle.comparison.specs.declared.treatment.Treatment.TheVariants.{Agree, Different, Mend}
use Rattle.comparison.proofs.RowSides.{word_known}
use Rattle.comparison.proofs.Parted.{Parted}
use Rattle.comparison.proofs.Parted as parted

-- what is done differs
different_agree : ¬ (◌≡◌ {A = Treatment} Different Agree)
different_agree e = cc

mend_agree : {C : ℕ} {w : ShortWord 64} → ¬ (◌≡◌ {A = Treatment} (Mend C w) Agree)
mend_agree e = cc

mend_different : {C : ℕ} {w : ShortWord 64} → ¬ (◌≡◌ {A = Treatment} (Mend C w) Different)
mend_different e = cc

module _ {T : Type 0} (𝓣 : Group T) where
  -- a step with a tally added is that step
  pub raised_some : (t : T) (o : Option (Weighted T)) (q : Weighted T) → raised 𝓣 t o ≡ Some q → (u : Weighted T) × (o ≡ Some u) × (record { word = u.word; tally = 𝓣.add t u.tally } ≡ q)
  raised_some t None q e = absurd (none_some e)
  raised_some t (Some u) q e = (u, refl, some_same e)

  pub raised_none : (t : T) (o : Option (Weighted T)) → raised 𝓣 t o ≡ None → o ≡ None
  raised_none t None e = refl
  raised_none t (Some u) e = absurd (some_none e)

  module _ (s : Survey T) (V : View) (w : Workspace T) (ready : Ready 𝓣 s V w) (x y : Word) (given_x : history.Given (surveyed s) x) (given_y : history.Given (surveyed s) y) where
    abbrev D : Sheet T
    D = rows_over 𝓣 s V

    abbrev Pairs : Type 0
    Pairs = history.Pair 𝓣 (surveyed s) x y D

    abbrev pub Ending : Type 0
    Ending = history.Ending 𝓣 (surveyed s) (norm_in s) (first_in s) x y D

    -- two words with sums that come from an origin, and are of known symbols
    record Led (p q : Weighted T) : Type 0 where
      pub letters : ℕ
      pub origin : history.Origin 𝓣 (surveyed s) x y D letters p.tally q.tally p.word q.word
      pub known_one : Below s.skeleton.words.count p.word
      pub known_two : Below s.skeleton.words.count q.word

    row_led : (A a : ℕ) (m p q : Weighted T) → D A ≡ Some m → (surveyed s).rule A a ≡ Some p → raised 𝓣 m.tally (step (surveyed s) m.word a) ≡ Some q → Led p q
    row_led A a m p q is own other =
        let r = raised_some m.tally (step (surveyed s) m.word a) q other in
        let u = r.0 in
        let word : u.word ≡ q.word = ap (λ (k : Weighted T). k.word) r.2 in
        record {
          letters = 1;
          origin = history.from_row A a m p u is own r.1 refl refl (sym (ap (λ (k : Weighted T). k.tally) r.2)) refl (sym word);
          known_one = after_known 𝓣 s V w ready (A ∷ []) a p (own_known 𝓣 s V w ready A a m is) (behind_nothing 𝓣 ((surveyed s).rule A a) ∙ own);
          known_two = subst (Below s.skeleton.words.count) word (after_known 𝓣 s V w ready m.word a u (word_known 𝓣 s V w ready A a m is) r.1);
        }

    -- the two sides of an origin
    led : (o : Origin) → IsLook D o → (p q : Weighted T) → (sides 𝓣 (surveyed s) D x y o).0 ≡ Some p → (sides 𝓣 (surveyed s) D x y o).1 ≡ Some q → Led p q
    led Given l p q e f =
        let one = some_same e in
        let two = some_same f in
        let one_word : x ≡ p.word = ap (λ (k : Weighted T). k.word) one in
        let two_word : y ≡ q.word = ap (λ (k : Weighted T). k.word) two in
        record {
          letters = 0;
          origin = history.given refl (sym (ap (λ (k : Weighted T). k.tally) one)) (sym (ap (λ (k : Weighted T). k.tally) two)) (sym one_word) (sym two_word);
          known_one = subst (Below s.skeleton.words.count) one_word given_x.0;
          known_two = subst (Below s.skeleton.words.count) two_word given_y.0;
        }
    led (Row A a) l p q e f =
        let is = ap (row_sides 𝓣 (surveyed s) D A a) l.1 in
        row_led A a l.0 p q l.1 (sym (ap (λ (k : Option (Weighted T) × Option (Weighted T)). k.0) is) ∙ e) (sym (ap (λ (k : Option (Weighted T) × Option (Weighted T)). k.1) is) ∙ f)

    -- as a pair, either way round
    abbrev one_first : (p q : Weighted T) → Led p q → Pairs
    one_first p q l = record { first = p.word; second = q.word; first_sum = p.tally; second_sum = q.tally; letters = l.letters; origin = inl l.origin }

    abbrev two_first : (p q : Weighted T) → Led p q → Pairs
    two_first p q l = record { first = q.word; second = p.word; first_sum = q.tally; second_sum = p.tally; letters = l.letters; origin = inr l.origin }

    -- C has no row, and a sheet that gets this row for it is written
    abbrev pub Mended : ℕ → ShortWord 64 → Type 0
    Mended C w = (C < s.skeleton.words.count) × (D C ≡ None) × ((E : Sheet T) → Grown D C (record { word = held w; tally = offset 𝓣 (surveyed s) (first_in s) C (held w) }) E →
        history.Written 𝓣 (surveyed s) (norm_in s) (first_in s) x y D E)

    -- a pair whose normal forms part at A and the earlier B
    module _ (P : Pairs) (z v : Word) (t r : T) (A B : ℕ) (h : Parted 𝓣 (surveyed s) (norm_in s) D P.first P.second z v t r A B) where
      later : Normal 𝓣 D P.first (h.fork.common ++ (A ∷ h.fork.left)) t
      later = parted.later_normal 𝓣 (surveyed s) (norm_in s) (first_in s) (laws_in s 𝓣) D (view_ranked 𝓣 s V ready.ranked) P.first P.second z v t r A B h

      earlier : Normal 𝓣 D P.second (h.fork.common ++ (B ∷ h.fork.right)) r
      earlier = parted.earlier_normal 𝓣 (surveyed s) (norm_in s) (first_in s) (laws_in s 𝓣) D (view_ranked 𝓣 s V ready.ranked) P.first P.second z v t r A B h

      module _ (m : Weighted T) (runs : ran 𝓣 (surveyed s) (A ∷ []) (first_in s B) ≡ Some m) where
        no_lighter : norm_in s A ≤ norm_in s B + norms (norm_in s) m.word
        no_lighter = parted.no_lighter 𝓣 (surveyed s) (norm_in s) (first_in s) (laws_in s 𝓣) D (view_ranked 𝓣 s V ready.ranked) P.first P.second z v t r A B h m runs

        abbrev apart : norm_in s B + norms (norm_in s) m.word ≡ norm_in s A → history.Apart 𝓣 (surveyed s) (norm_in s) (first_in s) x y D
        apart weighs = record {
          pair = P;
          fork = parted.fork_at 𝓣 (surveyed s) (norm_in s) (first_in s) (laws_in s 𝓣) D (view_ranked 𝓣 s V ready.ranked) P.first P.second z v t r A B h P.first_sum P.second_sum m runs weighs;
          fork_of = parted.fork_of 𝓣 (surveyed s) (norm_in s) (first_in s) (laws_in s 𝓣) D (view_ranked 𝓣 s V ready.ranked) P.first P.second z v t r A B h P.first_sum P.second_sum m runs weighs;
        }

      -- where nothing can be done the comparison ends
      fork_ends : norms (norm_in s) P.first ≡ norms (norm_in s) P.second → Mends 𝓣 (surveyed s) (norm_in s) (first_in s) A B Different → Ending
      fork_ends even (cannot_read e) = history.no_run P A B h.fork.common h.fork.left h.fork.right t r later earlier h.order e
      fork_ends even (other_norm m e ne) =
          history.too_heavy P A B h.fork.common h.fork.left h.fork.right t r m later earlier even e
          (let l = no_lighter m e in let less : norm_in s A < norm_in s B + norms (norm_in s) m.word = omega (arith, ne) in less)
      fork_ends even (misses_first m e weighs none) = history.no_offset (apart m e weighs) (parted.untaken 𝓣 (surveyed s) (norm_in s) (first_in s) A B m none)

      -- and a row is that of the fork
      fork_writes : (C : ℕ) (w : ShortWord 64) → Mends 𝓣 (surveyed s) (norm_in s) (first_in s) A B (Mend C w) → Mended C w
      fork_writes C w (row m _ runs weighs taken is) = (
        (parted.later_end 𝓣 (surveyed s) (norm_in s) (first_in s) (laws_in s 𝓣) D (view_ranked 𝓣 s V ready.ranked) P.first P.second z v t r A B h).0,
        parted.later_free 𝓣 (surveyed s) (norm_in s) (first_in s) (laws_in s 𝓣) D (view_ranked 𝓣 s V ready.ranked) P.first P.second z v t r A B h,
        λ E g. record {
          apart = apart m runs weighs;
          taken = taken;
          grown = subst (λ v. Grown D A (record { word = v; tally = offset 𝓣 (surveyed s) (first_in s) A v }) E) is g;
        },
      )

    abbrev Treated : Weighted T → Weighted T → Treatment → Type 0
    Treated p q = Treats 𝓣 (surveyed s) (norm_in s) (first_in s) D (record { one = p.word; two = q.word; before_one = p.tally; before_two = q.tally })

    pair_ends : (p q : Weighted T) → Led p q → Treated p q Different → Ending
    pair_ends p q l (unlike_norms ne) = elim (cases_lt (norms (norm_in s) p.word) (norms (norm_in s) q.word)) [
      | inl h ↦ history.unlike_norms (one_first p q l) h
      | inr h ↦ history.unlike_norms (two_first p q l) (let less : norms (norm_in s) q.word < norms (norm_in s) p.word = omega (arith, ne) in less)
    ]
    pair_ends p q l (unlike_sums z t r even f g ne) = history.unlike_sums (one_first p q l) z t r f g ne
    pair_ends p q l (later_one z v t r A B _ even f g fork order m) =
        fork_ends (one_first p q l) z v t r A B (record { one = f; two = g; fork = fork; order = order; known_one = l.known_one; known_two = l.known_two }) even m
    pair_ends p q l (later_two z v t r A B _ even f g fork order m) =
        fork_ends (two_first p q l) v z r t B A (record { one = g; two = f; fork = parted.turned fork; order = order; known_one = l.known_two; known_two = l.known_one }) (sym even) m

    pair_writes : (p q : Weighted T) → Led p q → (C : ℕ) (w : ShortWord 64) → Treated p q (Mend C w) → Mended C w
    pair_writes p q l C w (later_one z v t r A B _ even f g fork order m) =
        fork_writes (one_first p q l) z v t r A B (record { one = f; two = g; fork = fork; order = order; known_one = l.known_one; known_two = l.known_two }) C w m
    pair_writes p q l C w (later_two z v t r A B _ even f g fork order m) =
        fork_writes (two_first p q l) v z r t B A (record { one = g; two = f; fork = parted.turned fork; order = order; known_one = l.known_two; known_two = l.known_one }) C w m

    -- one side only is that of a row
    abbrev Sides : Type 0
    Sides = Option (Weighted T) × Option (Weighted T)

    symbol_ends : (o : Origin) → IsLook D o → (p : Weighted T) → (sides 𝓣 (surveyed s) D x y o).0 ≡ Some p → (sides 𝓣 (surveyed s) D x y o).1 ≡ None → Ending
    symbol_ends Given l p e f = absurd (some_none f)
    symbol_ends (Row A a) l p e f =
        let is = ap (row_sides 𝓣 (surveyed s) D A a) l.1 in
        history.rule_of_symbol A a l.0 p l.1 (sym (ap (λ (k : Sides). k.0) is) ∙ e)
        (raised_none l.0.tally (step (surveyed s) l.0.word a) (sym (ap (λ (k : Sides). k.1) is) ∙ f))

    word_ends : (o : Origin) → IsLook D o → (q : Weighted T) → (sides 𝓣 (surveyed s) D x y o).0 ≡ None → (sides 𝓣 (surveyed s) D x y o).1 ≡ Some q → Ending
    word_ends Given l q e f = absurd (some_none e)
    word_ends (Row A a) l q e f =
        let is = ap (row_sides 𝓣 (surveyed s) D A a) l.1 in
        let r = raised_some l.0.tally (step (surveyed s) l.0.word a) q (sym (ap (λ (k : Sides). k.1) is) ∙ f) in
        history.rule_of_word A a l.0 r.0 l.1 (sym (ap (λ (k : Sides). k.0) is) ∙ e) r.1

    -- where an origin is different the comparison ends
    pub ending_of : (o : Origin) → IsLook D o → TreatsAt 𝓣 (surveyed s) (norm_in s) (first_in s) D x y o Different → Ending
    ending_of o l (no_rule e f g) = absurd (different_agree g)
    ending_of o l (only_one p e f g) = symbol_ends o l p e f
    ending_of o l (only_two q e f g) = word_ends o l q e f
    ending_of o l (both p q e f t) = pair_ends p q (led o l p q e f) t

    -- where a row is to be written there it is written
    pub written_of : (o : Origin) → IsLook D o → (C : ℕ) (w : ShortWord 64) → TreatsAt 𝓣 (surveyed s) (norm_in s) (first_in s) D x y o (Mend C w) → Mended C w
    written_of o l C w (no_rule e f g) = absurd (mend_agree g)
    written_of o l C w (only_one p e f g) = absurd (mend_different g)
    written_of o l C w (only_two q e f g) = absurd (mend_different g)
    written_of o l C w (both p q e f t) = pair_writes p q (led o l p q e f) C w t
