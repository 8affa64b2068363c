-- The way back from a pair that is different: what is known of the input found so far, and how it goes on from source to source. Assumes nothing.
use Rattle.std.proofs.Common.{◌≡◌, ℕ, suc, ◌+◌, ◌*◌, ◌≤◌, true, false, cond, slice_get, option_map, length, List, Some, None, Option, refl, sym, ap, ◌∙◌, subst, arith}
use Rattle.std.proofs.lemmas.Option.{slice_get-get_or}
use native.Mathlib.Decide.{ℕ_discrete}
use Rattle.tally.specs.Group.{Group}
use Rattle.grammar.specs.Meaning.{Word, Input, Weighted}
use Rattle.grammar.specs.Takes.{shift}
use Rattle.grammar.proofs.Options.{none_some, some_same}
use Rattle.grammar.proofs.Takes.{differ_law}
use Rattle.norm.specs.Tabled.{held}
use Rattle.norm.specs.declared.short_word.ShortWord.{ShortWord}
use Rattle.rows.specs.Sheets.{View, SelfProving, Ranked, offset}
use Rattle.sheet.specs.Marked.{has}
use Rattle.sheet.specs.Rowed.{view}
use Rattle.survey.specs.Surveyed.{surveyed, norm_in, first_in}
use Rattle.survey.specs.declared.table.Survey.{Survey}
use Rattle.agreement.specs.Works.{rows_over, Works}
use Rattle.agreement.specs.Agreeing.{Ready}
use Rattle.agreement.specs.declared.workspace.Workspace.{Workspace}
use Rattle.agreement.proofs.Cutting.{view_ranked, survey_rows, unwrap}
use Rattle.witness.specs.Alike.{TrueOn}
use Rattle.walk.specs.Inputs.{most}
use Rattle.walk.specs.Blames.{Untrue}
use Rattle.comparison.specs.Turning.{Turned, TreatsAt, IsLook}
use Rattle.comparison.specs.Deciding.{Shown}
use Rattle.comparison.specs.Tracing.{Leads}
use Rattle.comparison.specs.Trails.{Trail, Traced}
use Rattle.comparison.specs.declared.lead.Lead.{Lead}
use Rattle.comparison.specs.declared.lead.Lead.TheVariants as leads
use Rattle.comparison.specs.declared.origin.Origin.{Origin}
use Rattle.comparison.specs.declared.source.Source.{Source}
use Rattle.comparison.specs.declared.treatment.Treatment.TheVariants.{Mend}
use Rattle.comparison.proofs.GivenPair.{row_of, view_row}
use Rattle.comparison.proofs.Goings.{turned_some}
use Rattle.comparison.proofs.Trails.{row_here, row_elsewhere, Last, last_of, none_of}

module _ {T : Type 0} (𝓣 : Group T) (s : Survey T) (x y : Word) (V : View) (rs : List (ShortWord 64)) (L : List Source) where
  -- k sources are left, and t leads on over the rows that these tell of
  pub record Leading (k : ℕ) (lead : Option Lead) (t : Input) : Type 0 where
    pub rows : View
    pub trail : Trail 𝓣 s x y V rs L k rows
    pub ranked : Ranked s.skeleton.words.count (norm_in s) rows
    pub leads : Leads 𝓣 (surveyed s) (rows_over 𝓣 s rows) x y lead t
    pub short : length t + 512 * k ≤ 512 * s.skeleton.words.count

  -- at the start
  pub leading_first : (W : View) (k : ℕ) (o : Origin) (lead : Option Lead) (t : Input) → Ranked s.skeleton.words.count (norm_in s) W → Traced 𝓣 s x y V rs L W k o →
      Leads 𝓣 (surveyed s) (rows_over 𝓣 s W) x y lead t × (length t ≤ 512) → Leading k lead t
  leading_first W k o lead t ranked traced l = record { rows = W; trail = traced.trail; ranked = ranked; leads = l.0; short = let few = traced.few in let h = l.1 in omega arith }

  -- where the given words differ it is over
  pub leading_words : (k : ℕ) (lead : Option Lead) (t : Input) → lead ≡ Some leads.Words → Leading k lead t → Shown 𝓣 s x y t
  leading_words k lead t e h =
      let f = subst (λ o. Leads 𝓣 (surveyed s) (rows_over 𝓣 s h.rows) x y o t) e h.leads in
      record { differ = (differ_law 𝓣 (surveyed s) x y t).1 (λ g. f (ap (shift 𝓣 𝓣.zero) g)); short = let l = h.short in omega arith }

  -- a lead is never lost
  pub leading_lost : (k : ℕ) (lead : Option Lead) (t : Input) → lead ≡ None → Leading k lead t → ⊥
  leading_lost k lead t e h = subst (λ o. Leads 𝓣 (surveyed s) (rows_over 𝓣 s h.rows) x y o t) e h.leads

  -- without a source the row would be one that was there, and these are true
  pub leading_over : (k : ℕ) (lead : Option Lead) (t : Input) → SelfProving 𝓣 (surveyed s) (rows_over 𝓣 s V) → Ranked s.skeleton.words.count (norm_in s) V → k ≡ 0 → Leading k lead t → Shown 𝓣 s x y t
  leading_over k None t self ranked e h = absurd h.leads
  leading_over k (Some leads.Words) t self ranked e h = leading_words k (Some leads.Words) t refl h
  leading_over k (Some (leads.Row A)) t self ranked e h =
      let u = subst (λ W. Untrue 𝓣 (surveyed s) (rows_over 𝓣 s W) A t) (none_of 𝓣 s x y V rs L h.trail e) h.leads in
      absurd (u.untrue ((survey_rows 𝓣 s).true_rows (rows_over 𝓣 s V) (view_ranked 𝓣 s V ranked) self A u.row u.is t))

  module _ (j k A : ℕ) (lead : Option Lead) (t : Input) (h : Leading j lead t) (one : j ≡ suc k) (is_row : lead ≡ Some (leads.Row A)) where
    untrue : Untrue 𝓣 (surveyed s) (rows_over 𝓣 s h.rows) A t
    untrue = subst (λ o. Leads 𝓣 (surveyed s) (rows_over 𝓣 s h.rows) x y o t) is_row h.leads

    last : Last 𝓣 s x y V rs L k h.rows
    last = last_of 𝓣 s x y V rs L h.trail k one

    is_shown : h.rows A ≡ Some untrue.row.word
    is_shown = unwrap 𝓣 s A untrue.row.word (h.rows A) (ap (option_map (λ (m : Weighted T). m.word)) untrue.is)

    -- the row is the last one written, or one before
    elsewhere : ¬ (A ≡ last.symbol) → last.rows A ≡ h.rows A
    elsewhere ne = sym (last.written A ∙ row_elsewhere last.rows last.symbol (held last.row) A ne)

    abbrev marked_source : Source → Type 0
    marked_source source = has source.marks.bits A ≡ true → ¬ (A ≡ last.symbol)

    marked_other : length rs ≡ 32 → marked_source last.source
    marked_other room marked e = filled (slice_get rs A) refl
      where
        filled : (o : Option (ShortWord 64)) → slice_get rs A ≡ o → ⊥
        filled None f = none_some (sym f ∙ slice_get-get_or rs A last.row (let l = (h.ranked A untrue.row.word is_shown).symbol in let few = s.skeleton.words.few in omega arith))
        filled (Some z) f =
            none_some (sym (ap last.rows e ∙ last.free) ∙ sym (last.shown A) ∙ ap (λ b. cond b (option_map held (slice_get rs A)) None) marked ∙ ap (option_map held) f)

    -- a row that was marked at the last source is a row before it
    pub leading_marked : (source : Source) → slice_get L k ≡ Some source → length rs ≡ 32 → has source.marks.bits A ≡ true → Leading k lead t
    leading_marked source at room marked =
        let ne = subst marked_source (some_same (sym last.at ∙ at)) (marked_other room) marked in
        record {
          rows = last.rows;
          trail = last.trail;
          ranked = last.ranked;
          leads =
              subst (λ o. Leads 𝓣 (surveyed s) (rows_over 𝓣 s last.rows) x y o t) (sym is_row)
              (record { row = untrue.row; is = ap (option_map (row_of 𝓣 s last.rows A)) (elsewhere ne) ∙ untrue.is; untrue = untrue.untrue });
          short = let l = h.short in omega arith;
        }

    -- what a stage does over the rows that were marked at a source, with the workspace for these
    abbrev pub Restarted : Workspace T → Source → Type 0
    Restarted w source = Ranked s.skeleton.words.count (norm_in s) (view rs source.marks.bits) → Works 𝓣 (rows_over 𝓣 s (view rs source.marks.bits)) w

    abbrev pub Staged : Workspace T → Option Lead → Input → Source → Type 0
    Staged w lead' found source =
        Ready 𝓣 s (view rs source.marks.bits) w → IsLook (rows_over 𝓣 s (view rs source.marks.bits)) source.origin → (C : ℕ) (r : ShortWord 64) →
        TreatsAt 𝓣 (surveyed s) (norm_in s) (first_in s) (rows_over 𝓣 s (view rs source.marks.bits)) x y source.origin (Mend C r) →
        ¬ TrueOn 𝓣 (surveyed s) C (record { word = held r; tally = offset 𝓣 (surveyed s) (first_in s) C (held r) }) t → length t + 512 ≤ most →
        Leads 𝓣 (surveyed s) (rows_over 𝓣 s (view rs source.marks.bits)) x y lead' found × (length found ≤ length t + 512)

    abbrev leads_back : Workspace T → Option Lead → Input → Source → Type 0
    leads_back w lead' found source = has source.marks.bits A ≡ false → Restarted w source → Staged w lead' found source → Leading k lead' found

    -- the last row is not true on t
    last_untrue : has last.source.marks.bits A ≡ false → ¬ TrueOn 𝓣 (surveyed s) last.symbol (row_of 𝓣 s h.rows last.symbol (held last.row)) t
    last_untrue unmarked true_there = go (ℕ_discrete A last.symbol)
      where
        go : Dec (A ≡ last.symbol) → ⊥
        go (yes e) =
            let here = view_row 𝓣 s h.rows last.symbol (held last.row) (last.written last.symbol ∙ row_here last.rows last.symbol (held last.row)) in
            let same = some_same (sym here ∙ ap (rows_over 𝓣 s h.rows) (sym e) ∙ untrue.is) in
            untrue.untrue (subst (λ m. TrueOn 𝓣 (surveyed s) A m t) same (subst (λ C. TrueOn 𝓣 (surveyed s) C (row_of 𝓣 s h.rows last.symbol (held last.row)) t) (sym e) true_there))
        go (no ne) = none_some (sym (ap (λ b. cond b (option_map held (slice_get rs A)) None) unmarked) ∙ last.shown A ∙ elsewhere ne ∙ is_shown)

    last_back : (w : Workspace T) (lead' : Option Lead) (found : Input) → leads_back w lead' found last.source
    last_back w lead' found unmarked works stage =
        let W = view rs last.source.marks.bits in
        let same : last.rows ≡ W = λ i C. sym (last.shown C) i in
        let ranked = subst (Ranked s.skeleton.words.count (norm_in s)) same last.ranked in
        let look = turned_some 𝓣 s x y (rows_over 𝓣 s W) _ _ (subst (λ X. Turned 𝓣 (surveyed s) (norm_in s) (first_in s) (rows_over 𝓣 s X) x y (Some (last.source.origin, Mend last.symbol last.row))) same last.turned) in
        let few = s.skeleton.words.few in
        let l = h.short in
        let next = stage (record { ranked = ranked; works = works ranked }) look.0 last.symbol last.row look.1 (last_untrue unmarked) (omega arith) in
        let m = next.1 in
        record { rows = W; trail = subst (Trail 𝓣 s x y V rs L k) same last.trail; ranked = ranked; leads = next.0; short = omega arith }

    -- else it is the row of that source, whose pair leads on
    pub leading_back : (w : Workspace T) (lead' : Option Lead) (found : Input) (source : Source) → slice_get L k ≡ Some source → leads_back w lead' found source
    leading_back w lead' found source at = subst (leads_back w lead' found) (some_same (sym last.at ∙ at)) (last_back w lead' found)
