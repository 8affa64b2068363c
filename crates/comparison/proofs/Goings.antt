-- A comparison as it goes on, from turn to turn. Assumes nothing.
use Rattle.std.proofs.Common.{◌≡◌, ℕ, suc, ◌<◌, ◌≤◌, Bool, true, false, cond, ◌||◌, ◌==◌, slice_get, set, option_map, List, Some, None, Option, sym, refl, ap, ◌∙◌, subst, arith}
use native.Mathlib.Decide.{ℕ_discrete}
use Rattle.tally.specs.Group.{Group}
use Rattle.grammar.specs.Meaning.{Word, Input, Weighted}
use Rattle.grammar.proofs.Options.{none_some, some_none}
use Rattle.norm.specs.Tabled.{held}
use Rattle.norm.specs.declared.short_word.ShortWord.{ShortWord}
use Rattle.rows.specs.Sheets.{View, Sheet, offset, unweighed, SelfProving, Ranked}
use Rattle.rows.specs.Replacing.{Grown}
use Rattle.rows.proofs.Replacing.{grown_extends}
use Rattle.sheet.specs.Marked.{has}
use Rattle.sheet.specs.Rowed.{view, shows, with_row}
use Rattle.sheet.specs.declared.sheet.Sheet as sheets
use Rattle.survey.specs.Surveyed.{surveyed, norm_in, first_in}
use Rattle.survey.specs.declared.table.Survey.{Survey}
use Rattle.agreement.specs.Works.{rows_over, Works, Within}
use Rattle.agreement.specs.Agreeing.{Ready}
use Rattle.agreement.specs.declared.workspace.Workspace.{Workspace}
use Rattle.agreement.proofs.Places.{get_set_same, get_set_other}
use Rattle.agreement.proofs.Cutting.{view_ranked, survey_within, survey_rows}
use Rattle.std.proofs.lemmas.Option.{slice_get-get_or}
use Rattle.survey.specs.WellSurveyed.{surveyed_closed, surveyed_wellformed}
use Rattle.survey.proofs.Holding.{normed_in}
use Rattle.witness.specs.Laws.{WitnessLaws}
use Rattle.witness.proofs.Standing.{witnesses_law}
use Rattle.witness.specs.History.{Given, History, none_written, one_written, Written}
use Rattle.comparison.specs.Turning.{TreatsAt, IsLook, Turned, all_agree, first_wrong}
use Rattle.comparison.specs.Agreed.{seen, Kept}
use Rattle.comparison.specs.declared.agreed.Agreed.{Agreed}
use Rattle.comparison.specs.Procedure.{begun, mended}
use Rattle.comparison.specs.Deciding.{is_same, Found, Decided, Shown, IsRight, Left, Ended}
use Rattle.comparison.specs.Trails.{Trail, at_start, Stands, Rests, Went, Traced}
use Rattle.comparison.specs.declared.comparison.Comparison.{Comparison}
use Rattle.comparison.specs.declared.outcome.Outcome.{Outcome}
use Rattle.comparison.specs.declared.source.Source.{Source}
use Rattle.comparison.specs.declared.words.Words.{Words}
use Rattle.comparison.specs.declared.verdict.Verdict.{Verdict}
use Rattle.comparison.specs.declared.verdict.Verdict.TheVariants.{Same, Different}
use Rattle.sheet.specs.declared.marks.Marks.{Marks}
use Rattle.comparison.specs.declared.origin.Origin.{Origin}
use Rattle.comparison.specs.declared.origin.Origin.TheVariants as origins
use Rattle.comparison.specs.declared.treatment.Treatment.{Treatment}
use Rattle.comparison.specs.declared.treatment.Treatment.TheVariants.{Agree, Mend}
use Rattle.comparison.specs.declared.treatment.Treatment.TheVariants as treatments
use Rattle.comparison.proofs.Agreements.{all_proving, given_proves, kept_more}
use Rattle.comparison.proofs.Trails.{row_here, row_elsewhere, trail_grown}
use Rattle.comparison.proofs.GivenPair.{view_row, no_row, row_of}

-- the laws of witnesses in the grammar of a survey
pub survey_witness : {T : Type 0} (𝓣 : Group T) (s : Survey T) → WitnessLaws 𝓣 (surveyed s) (norm_in s) (first_in s)
survey_witness 𝓣 s = witnesses_law 𝓣 (surveyed s) (norm_in s) (first_in s) (surveyed_wellformed s) (surveyed_closed s) (normed_in s 𝓣)

module _ {T : Type 0} (𝓣 : Group T) (s : Survey T) (x y : Word) where
  -- at the start
  pub going_none : (S : sheets.Sheet) (w : Workspace T) (c : Comparison) → Ranked s.skeleton.words.count (norm_in s) (shows S) → Works 𝓣 (rows_over 𝓣 s (shows S)) w →
      ((A : ℕ) → A < 32 → seen c.agreed A ≡ 65) → c.sources.len ≡ 0 → Stands 𝓣 s x y S S w c
  going_none S w c ranked works fresh none = record {
    ready = record { ranked = ranked; works = works };
    kept = record {
      low = λ A l. let e = fresh A l in omega arith;
      agree = λ A m a e l h.
          let row = view_ranked 𝓣 s (shows S) ranked A m.word (ap (option_map (λ (k : Weighted T). k.word)) e) in
          let few = s.skeleton.words.few in
          let n = row.symbol in
          let f = fresh A (omega arith) in
          let i = l.0 in
          absurd (omega arith);
    };
    history = subst (λ k. History 𝓣 (surveyed s) (norm_in s) (first_in s) x y (rows_over 𝓣 s (shows S)) k (rows_over 𝓣 s (shows S))) (sym none) none_written;
    reached = begun;
    extends = λ A m e. e;
    rows = λ A e. refl;
    trail = subst (λ k. Trail 𝓣 s x y (shows S) S.rows c.sources.list k (shows S)) (sym none) at_start;
  }

  -- the answer "same"
  pub going_same : (S U : sheets.Sheet) (w : Workspace T) (c : Comparison) → Stands 𝓣 s x y S U w c →
      Turned 𝓣 (surveyed s) (norm_in s) (first_in s) (rows_over 𝓣 s (shows U)) x y None → Decided 𝓣 s x y (shows S) (shows U)
  going_same S U w c h (all_agree all) = record {
    says = record { reached = h.reached; agree = all_agree all };
    ranked = h.ready.ranked;
    extends = h.extends;
    proving = all_proving 𝓣 (surveyed s) (norm_in s) (first_in s) (rows_over 𝓣 s (shows U)) x y all;
    proves = given_proves 𝓣 (surveyed s) (norm_in s) (first_in s) (rows_over 𝓣 s (shows U)) x y (all origins.Given tt);
  }

  -- what a turn found
  pub turned_some : (D : Sheet T) (o : Origin) (t : Treatment) → Turned 𝓣 (surveyed s) (norm_in s) (first_in s) D x y (Some (o, t)) →
      IsLook D o × TreatsAt 𝓣 (surveyed s) (norm_in s) (first_in s) D x y o t
  turned_some D o t (first_wrong u v look treats wrong before) = (look, treats)

  pub turned_wrong : (D : Sheet T) (o : Origin) (t : Treatment) → Turned 𝓣 (surveyed s) (norm_in s) (first_in s) D x y (Some (o, t)) → ¬ (t ≡ Agree)
  turned_wrong D o t (first_wrong u v look treats wrong before) = wrong

  -- what is wrong and asks for no row is different
  pub turned_different : (D : Sheet T) (o : Origin) (t : Treatment) → ((A : ℕ) (r : ShortWord 64) → t ≡ Mend A r → ⊥) → Turned 𝓣 (surveyed s) (norm_in s) (first_in s) D x y (Some (o, t)) →
      Turned 𝓣 (surveyed s) (norm_in s) (first_in s) D x y (Some (o, treatments.Different))
  turned_different D o Agree none turned = absurd (turned_wrong D o Agree turned refl)
  turned_different D o treatments.Different none turned = turned
  turned_different D o (Mend A r) none turned = absurd (none A r refl)

  -- what a turn finds over one view it finds over a view that shows the same
  pub turned_over : (V W : View) (w : Workspace T) (g : Agreed) (o : Option (Origin × Treatment)) → ((A : ℕ) → V A ≡ W A) →
      (Ready 𝓣 s V w → Given (surveyed s) x → Given (surveyed s) y → Kept 𝓣 (surveyed s) (norm_in s) (first_in s) (rows_over 𝓣 s V) g → Turned 𝓣 (surveyed s) (norm_in s) (first_in s) (rows_over 𝓣 s V) x y o) →
      Ready 𝓣 s W w → Given (surveyed s) x → Given (surveyed s) y → Kept 𝓣 (surveyed s) (norm_in s) (first_in s) (rows_over 𝓣 s W) g → Turned 𝓣 (surveyed s) (norm_in s) (first_in s) (rows_over 𝓣 s W) x y o
  turned_over V W w g o same f =
      subst (λ X. Ready 𝓣 s X w → Given (surveyed s) x → Given (surveyed s) y → Kept 𝓣 (surveyed s) (norm_in s) (first_in s) (rows_over 𝓣 s X) g → Turned 𝓣 (surveyed s) (norm_in s) (first_in s) (rows_over 𝓣 s X) x y o)
      (λ i A. same A i) f

  -- with the old marks the old rows show again
  pub going_back : (old now : sheets.Sheet) → ((A : ℕ) → has old.marks.bits A ≡ true → slice_get now.rows A ≡ slice_get old.rows A) →
      (rs : List (ShortWord 64)) (m : ℕ) → rs ≡ now.rows → m ≡ old.marks.bits → (A : ℕ) → view rs m A ≡ shows old A
  going_back old now same rs m rows marks A = go (has old.marks.bits A) refl
    where
      go : (b : Bool) → has old.marks.bits A ≡ b → view rs m A ≡ shows old A
      go true e =
          ap (λ k. view rs k A) marks
          ∙ ap (λ r. view r old.marks.bits A) rows
          ∙ ap (λ o. cond (has old.marks.bits A) (option_map held o) None) (same A e)
      go false e =
          ap (λ k. view rs k A) marks
          ∙ ap (λ b. cond b (option_map held (slice_get rs A)) None) e
          ∙ sym (ap (λ b. cond b (option_map held (slice_get old.rows A)) None) e)

  -- a view with one more row, as a sheet with offsets
  with_grown : (V : View) (A : ℕ) (z : Word) (t : T) (W : View) → V A ≡ None → ((C : ℕ) → W C ≡ with_row V A z C) → t ≡ offset 𝓣 (surveyed s) (first_in s) A z →
      Grown (rows_over 𝓣 s V) A (record { word = z; tally = t }) (rows_over 𝓣 s W)
  with_grown V A z t W free set sum = record {
    free = no_row 𝓣 s V A free;
    here = view_row 𝓣 s W A z (set A ∙ row_here V A z) ∙ ap (λ o. Some (record { word = z; tally = o })) (sym sum);
    others = λ C ne. ap (option_map (λ w. record { word = w; tally = offset 𝓣 (surveyed s) (first_in s) C w })) (set C ∙ row_elsewhere V A z C ne);
  }

  view_some : (V : View) (A : ℕ) (w : Word) → V A ≡ Some w → unweighed (rows_over 𝓣 s V) A ≡ Some w
  view_some V A w e = ap (option_map (λ (m : Weighted T). m.word)) (view_row 𝓣 s V A w e)

  no_view : (V : View) (A : ℕ) → rows_over 𝓣 s V A ≡ None → V A ≡ None
  no_view V A e = go (V A) e
    where
      go : (o : Option Word) → option_map (row_of 𝓣 s V A) o ≡ None → o ≡ None
      go None d = refl
      go (Some v) d = absurd (some_none d)

  module _ (given_x : Given (surveyed s) x) (given_y : Given (surveyed s) y) where
    ranked_on : (D E : View) (k : ℕ) → Ranked s.skeleton.words.count (norm_in s) D → History 𝓣 (surveyed s) (norm_in s) (first_in s) x y (rows_over 𝓣 s D) k (rows_over 𝓣 s E) →
        Ranked s.skeleton.words.count (norm_in s) E
    ranked_on D E k ranked h A w e = ((survey_witness 𝓣 s).history x y (rows_over 𝓣 s D) (rows_over 𝓣 s E) k (view_ranked 𝓣 s D ranked) h).0 A w (view_some E A w e)

    module _ (S U : sheets.Sheet) (w : Workspace T) (c : Comparison) (ranked : Ranked s.skeleton.words.count (norm_in s) (shows S)) (going : Stands 𝓣 s x y S U w c) where
      -- fewer rows were written than there are symbols
      pub few_written : 1 ≤ s.skeleton.words.count → c.sources.len < s.skeleton.words.count
      few_written some =
          let h = (survey_witness 𝓣 s).history x y (rows_over 𝓣 s (shows S)) (rows_over 𝓣 s (shows U)) c.sources.len (view_ranked 𝓣 s (shows S) ranked) going.history in
          let e = h.1 in
          let f = (survey_rows 𝓣 s).fewer (rows_over 𝓣 s (shows U)) h.0 some in
          omega arith

      -- the answer "different", with what is found on the way back
      pub going_differs : (o : Origin) → Turned 𝓣 (surveyed s) (norm_in s) (first_in s) (rows_over 𝓣 s (shows U)) x y (Some (o, treatments.Different)) → (t : Input) →
          ((V : View) → Traced 𝓣 s x y V U.rows c.sources.list (shows U) c.sources.len o → Shown 𝓣 s x y t) → Left 𝓣 s x y S U t
      going_differs o turned t traced = record {
        found = record { rows = shows U; reached = going.reached; origin = o; finds = turned };
        rows = going.rows;
        differs = λ some self. traced (shows S) (record { trail = going.trail; few = few_written some; proving = self; ranked = ranked; different = turned });
      }

      -- it cannot go on for ever
      some_symbol : (D E : Sheet T) (j : ℕ) → 1 ≤ j → History 𝓣 (surveyed s) (norm_in s) (first_in s) x y D j E → 1 ≤ s.skeleton.words.count
      some_symbol D E j l none_written = absurd (omega arith)
      some_symbol D E j l (one_written h v) = let f = v.apart.fork.later_known in omega arith

      pub going_over : 32 ≤ c.sources.len → ⊥
      going_over l =
          let some = some_symbol (rows_over 𝓣 s (shows S)) (rows_over 𝓣 s (shows U)) c.sources.len (omega arith) going.history in
          let f = few_written some in
          let few = s.skeleton.words.few in
          omega arith

      -- one row more
      module _ (o : Origin) (A : ℕ) (r : ShortWord 64) (turned : Turned 𝓣 (surveyed s) (norm_in s) (first_in s) (rows_over 𝓣 s (shows U)) x y (Some (o, Mend A r))) (small : A < s.skeleton.words.count)
          (free : rows_over 𝓣 s (shows U) A ≡ None) where
        other : (U' : sheets.Sheet) → ((C : ℕ) → shows U' C ≡ with_row (shows U) A (held r) C) → (C : ℕ) (m : Word) → shows U C ≡ Some m → shows U' C ≡ Some m
        other U' set C m e = go (ℕ_discrete C A)
          where
            go : Dec (C ≡ A) → shows U' C ≡ Some m
            go (yes d) = absurd (none_some (sym (no_view (shows U) A free) ∙ ap (shows U) (sym d) ∙ e))
            go (no ne) = set C ∙ row_elsewhere (shows U) A (held r) C ne ∙ e

        marked_other : (C : ℕ) → has S.marks.bits C ≡ true → ¬ (C ≡ A)
        marked_other C e d = free_old (slice_get S.rows C) refl
          where
            free_old : (o : Option (ShortWord 64)) → slice_get S.rows C ≡ o → ⊥
            free_old None f = none_some (sym f ∙ slice_get-get_or S.rows C r (let few = s.skeleton.words.few in let room = S.room in omega arith))
            free_old (Some z) f =
                let shown : shows S C ≡ Some (held z) = ap (λ b. cond b (option_map held (slice_get S.rows C)) None) e ∙ ap (option_map held) f in
                none_some (sym (no_view (shows U) A free) ∙ ap (shows U) (sym d) ∙ going.extends C (held z) shown)

        -- there is room for its source
        more_room : c.sources.len < 32
        more_room = let f = few_written (omega arith) in let few = s.skeleton.words.few in omega arith

        more_trail : (U' : sheets.Sheet) (L : List Source) (m : Marks) → L ≡ set c.sources.list c.sources.len (record { origin = o; marks = m }) → ((C : ℕ) → view U.rows m.bits C ≡ shows U C) →
            ((C : ℕ) → shows U' C ≡ with_row (shows U) A (held r) C) → U'.rows ≡ set U.rows A r → Trail 𝓣 s x y (shows S) U'.rows L (suc c.sources.len) (shows U')
        more_trail U' L m list under set rows =
            let source : Source = record { origin = o; marks = m } in
            let full = c.sources.room in
            let room = U.room in
            let few = s.skeleton.words.few in
            let l = more_room in
            subst (λ rs. Trail 𝓣 s x y (shows S) rs L (suc c.sources.len) (shows U')) (sym rows)
            (trail_grown 𝓣 s x y (shows S) U.rows c.sources.list L (λ i h. ap (λ l. slice_get l i) list ∙ get_set_other c.sources.list c.sources.len i source (λ e. absurd (omega arith))) going.trail
            source A r (ap (λ l. slice_get l c.sources.len) list ∙ get_set_same c.sources.list c.sources.len source (omega arith)) (omega arith) under going.ready.ranked (no_view (shows U) A free) turned (shows U') set)

        pub going_more : (U' : sheets.Sheet) (v : Workspace T) (d : Comparison) (t : T) (m : Marks) →
            ((E : Sheet T) → Grown (rows_over 𝓣 s (shows U)) A (record { word = held r; tally = offset 𝓣 (surveyed s) (first_in s) A (held r) }) E →
            Written 𝓣 (surveyed s) (norm_in s) (first_in s) x y (rows_over 𝓣 s (shows U)) E) →
            t ≡ offset 𝓣 (surveyed s) (first_in s) A (held r) →
            ((C : ℕ) → shows U' C ≡ with_row (shows U) A (held r) C) → U'.rows ≡ set U.rows A r →
            ((n : ℕ) (norm : ℕ → ℕ) (D E : Sheet T) → Within 64 n norm → Ranked n norm (unweighed E) → Grown D A (record { word = held r; tally = t }) E → Works 𝓣 D w → Works 𝓣 E v) →
            ((C : ℕ) → seen d.agreed C ≡ cond (C == A) 65 (seen c.agreed C)) → ((C : ℕ) → view U.rows m.bits C ≡ shows U C) →
            (c.sources.len < 32 → d.sources.len ≡ suc c.sources.len) → (c.sources.len < 32 → d.sources.list ≡ set c.sources.list c.sources.len (record { origin = o; marks = m })) →
            Stands 𝓣 s x y S U' v d × (d.sources.len ≡ suc c.sources.len)
        going_more U' v d t m written sum set rows works seen_d under len list =
            let V = shows U in
            let W = shows U' in
            let D = rows_over 𝓣 s V in
            let E = rows_over 𝓣 s W in
            let empty = no_view V A free in
            let grown = with_grown V A (held r) (offset 𝓣 (surveyed s) (first_in s) A (held r)) W empty set refl in
            let history = one_written going.history (written E grown) in
            let ranked_W = ranked_on (shows S) W _ ranked history in
            let more = len more_room in (
              record {
                ready = record {
                  ranked = ranked_W;
                  works = works s.skeleton.words.count (norm_in s) D E (survey_within 𝓣 s W) (view_ranked 𝓣 s W ranked_W) (with_grown V A (held r) t W empty set sum) going.ready.works;
                };
                kept = kept_more 𝓣 (surveyed s) (norm_in s) (first_in s) D E (survey_rows 𝓣 s) (grown_extends 𝓣 D E A _ grown) (view_ranked 𝓣 s V going.ready.ranked) (view_ranked 𝓣 s W ranked_W) A _ grown c.agreed d.agreed seen_d going.kept;
                history = subst (λ j. History 𝓣 (surveyed s) (norm_in s) (first_in s) x y (rows_over 𝓣 s (shows S)) j E) (sym more) history;
                reached = mended going.reached o A r turned set;
                extends = λ C m e. other U' set C m (going.extends C m e);
                rows = λ C e. ap (λ l. slice_get l C) rows ∙ get_set_other U.rows A C r (marked_other C e) ∙ going.rows C e;
                trail = subst (λ j. Trail 𝓣 s x y (shows S) U'.rows d.sources.list j W) (sym more) (more_trail U' d.sources.list m (list more_room) under set rows);
              },
              more,
            )

-- what a turn and the way back promise of the words v
module _ {T : Type 0} (𝓣 : Group T) (s : Survey T) (S U U' : sheets.Sheet) (w w' : Workspace T) (c c' : Comparison) (r : Outcome) where
  abbrev pub Turns : Words → Type 0
  Turns v = Given (surveyed s) v.one.now → Given (surveyed s) v.two.now → Ranked s.skeleton.words.count (norm_in s) (shows S) → Stands 𝓣 s v.one.now v.two.now S U w c → Went 𝓣 s v.one.now v.two.now S U U' w w' c c' r

module _ {T : Type 0} (𝓣 : Group T) (s : Survey T) (w : Workspace T) (L : List Source) (k : ℕ) (o : Origin) (t : Input) where
  abbrev pub Traces : Words → List (ShortWord 64) → View → Type 0
  Traces v rs W = Given (surveyed s) v.one.now → Given (surveyed s) v.two.now → Ready 𝓣 s W w → (V : View) → Traced 𝓣 s v.one.now v.two.now V rs L W k o → Shown 𝓣 s v.one.now v.two.now t

  -- which is the same for words, rows and views that are the same
  pub traces_over : (v u : Words) (rs rs' : List (ShortWord 64)) (W W' : View) → v ≡ u → rs ≡ rs' → ((A : ℕ) → W A ≡ W' A) → Traces v rs W → Traces u rs' W'
  traces_over v u rs rs' W W' words rows shown f = subst (Traces u rs') (λ i A. shown A i) (subst (λ l. Traces u l W) rows (subst (λ a. Traces a rs W) words f))

-- after a turn that answered it stands as before, but for how far rows agree
pub stands_still : {T : Type 0} (𝓣 : Group T) (s : Survey T) (x y : Word) (S U U' : sheets.Sheet) (w w' : Workspace T) (c c' : Comparison) → Rests 𝓣 s x y U U' w w' c c' → Stands 𝓣 s x y S U w c →
    Stands 𝓣 s x y S U' w' (record { words = c'.words; agreed = c.agreed; sources = c'.sources })
stands_still 𝓣 s x y S U U' w w' c c' rests h =
    subst (λ V. Stands 𝓣 s x y S V w' (record { words = c'.words; agreed = c.agreed; sources = c'.sources })) (sym rests.sheet)
    (subst (λ v. Stands 𝓣 s x y S U v (record { words = c'.words; agreed = c.agreed; sources = c'.sources })) (sym rests.work)
    (subst (λ l. Stands 𝓣 s x y S U w (record { words = c'.words; agreed = c.agreed; sources = l })) (sym rests.sources)
    (record { ready = h.ready; kept = h.kept; history = h.history; reached = h.reached; extends = h.extends; rows = h.rows; trail = h.trail })))

-- how turns ended that began with the sheet S
pub ended_since : {T : Type 0} (𝓣 : Group T) (s : Survey T) (x y : Word) (S U : sheets.Sheet) (t : Input) (r : Verdict) {S' : sheets.Sheet} → S' ≡ S →
    (Ranked s.skeleton.words.count (norm_in s) (shows S') → Given (surveyed s) x → Given (surveyed s) y → Ended 𝓣 s x y S' U r t) →
    Ranked s.skeleton.words.count (norm_in s) (shows S) → Given (surveyed s) x → Given (surveyed s) y → Ended 𝓣 s x y S U r t
ended_since 𝓣 s x y S U t r = subst (λ V. Ranked s.skeleton.words.count (norm_in s) (shows V) → Given (surveyed s) x → Given (surveyed s) y → Ended 𝓣 s x y V U r t)

-- how a sheet is left when the trial of its rows is over: U is the sheet in the trial, rs and m are the rows and the marks behind it
module _ {T : Type 0} (𝓣 : Group T) (s : Survey T) (x y : Word) (S U : sheets.Sheet) (t : Input) (rs : List (ShortWord 64)) (m : ℕ) (r : Verdict) (rows : rs ≡ U.rows) (kept : Bool) (saved : Marks)
    (marks : m ≡ (cond kept U.marks saved).bits) (keeps : kept ≡ (is_same r || false)) (was : saved ≡ S.marks) where
  pub ended_same : Ended 𝓣 s x y S U r t → r ≡ Same → Decided 𝓣 s x y (shows S) (view rs m)
  ended_same ended e =
      let bits : m ≡ U.marks.bits = marks ∙ ap (λ b. (cond b U.marks saved).bits) (keeps ∙ ap (λ v. is_same v || false) e) in
      subst (Decided 𝓣 s x y (shows S)) (λ i. view (sym rows i) (sym bits i)) (subst (λ v. Ended 𝓣 s x y S U v t) e ended)

  pub ended_view : Ended 𝓣 s x y S U r t → r ≡ Different → (A : ℕ) → view rs m A ≡ shows S A
  ended_view ended e =
      let bits : m ≡ S.marks.bits = marks ∙ ap (λ b. (cond b U.marks saved).bits) (keeps ∙ ap (λ v. is_same v || false) e) ∙ ap (λ (k : Marks). k.bits) was in
      going_back 𝓣 s x y S U (subst (λ v. Ended 𝓣 s x y S U v t) e ended).rows rs m rows bits

-- what the turns found
pub ended_found : {T : Type 0} (𝓣 : Group T) (s : Survey T) (x y : Word) (S U : sheets.Sheet) (t : Input) (r : Verdict) → Ended 𝓣 s x y S U r t → r ≡ Different → Found 𝓣 s x y (shows S)
ended_found 𝓣 s x y S U t r ended e = (subst (λ v. Ended 𝓣 s x y S U v t) e ended).found

-- the answer is true
pub ended_right : {T : Type 0} (𝓣 : Group T) (s : Survey T) (x y : Word) (S U : sheets.Sheet) (t : Input) (r : Verdict) → 1 ≤ s.skeleton.words.count →
    SelfProving 𝓣 (surveyed s) (rows_over 𝓣 s (shows S)) → Ended 𝓣 s x y S U r t → IsRight 𝓣 s x y r t
ended_right 𝓣 s x y S U t Same some self ended =
    (survey_rows 𝓣 s).proved_same (rows_over 𝓣 s (shows U)) (view_ranked 𝓣 s (shows U) ended.ranked) ended.proving x y ended.proves
ended_right 𝓣 s x y S U t Different some self ended = ended.differs some self
