-- How rows came about: what becomes of a trail where rows and sources are added, and its last source. Assumes nothing.
use Rattle.std.proofs.Common.{◌≡◌, ℕ, suc, ◌<◌, Bool, true, false, cond, ◌==◌, eq-eqb, ne_eqb, slice_get, set, option_map, length, List, Some, None, Option, refl, sym, ap, ◌∙◌, subst, arith}
use Rattle.std.proofs.lemmas.Option.{slice_get-get_or}
use native.Mathlib.Decide.{ℕ_discrete}
use Rattle.tally.specs.Group.{Group}
use Rattle.grammar.specs.Meaning.{Word}
use Rattle.grammar.proofs.Options.{some_none}
use Rattle.norm.specs.Tabled.{held}
use Rattle.norm.specs.declared.short_word.ShortWord.{ShortWord}
use Rattle.rows.specs.Sheets.{View, Ranked}
use Rattle.sheet.specs.Marked.{has}
use Rattle.sheet.specs.Rowed.{view, with_row}
use Rattle.survey.specs.Surveyed.{surveyed, norm_in, first_in}
use Rattle.survey.specs.declared.table.Survey.{Survey}
use Rattle.agreement.specs.Works.{rows_over}
use Rattle.agreement.proofs.Places.{get_set_other}
use Rattle.comparison.specs.Turning.{Turned}
use Rattle.comparison.specs.Trails.{Trail, at_start, one_more}
use Rattle.comparison.specs.declared.source.Source.{Source}
use Rattle.comparison.specs.declared.treatment.Treatment.TheVariants as treatments

-- what a view shows with one more row
pub row_here : (W : View) (A : ℕ) (z : Word) → with_row W A z A ≡ Some z
row_here W A z = ap (λ b. cond b (Some z) (W A)) (eq-eqb A A refl)

pub row_elsewhere : (W : View) (A : ℕ) (z : Word) (C : ℕ) → ¬ (C ≡ A) → with_row W A z C ≡ W C
row_elsewhere W A z C ne = ap (λ b. cond b (Some z) (W C)) (ne_eqb C A ne)

-- a symbol without a row then has none before
unwritten : (W : View) (B : ℕ) (z : Word) (A : ℕ) → with_row W B z A ≡ None → W A ≡ None
unwritten W B z A = go (A == B)
  where
    go : (b : Bool) → cond b (Some z) (W A) ≡ None → W A ≡ None
    go true e = absurd (some_none e)
    go false e = e

-- a row in a place that shows none changes nothing that these marks show
same_under : (rs : List (ShortWord 64)) (m A : ℕ) (r : ShortWord 64) → A < length rs → view rs m A ≡ None → (C : ℕ) → view (set rs A r) m C ≡ view rs m C
same_under rs m A r l free C = go (ℕ_discrete C A)
  where
    there : (b : Bool) (o : Option (ShortWord 64)) (z : ShortWord 64) → o ≡ Some z → cond b (option_map held o) None ≡ None → b ≡ false
    there false o z e h = refl
    there true o z e h = absurd (some_none (sym (ap (option_map held) e) ∙ h))

    unmarked : has m A ≡ false
    unmarked = there (has m A) (slice_get rs A) _ (slice_get-get_or rs A r l) free

    hidden : (b : Bool) (o p : Option (ShortWord 64)) → b ≡ false → cond b (option_map held o) None ≡ cond b (option_map held p) None
    hidden b o p e = ap (λ k. cond k (option_map held o) None) e ∙ sym (ap (λ k. cond k (option_map held p) None) e)

    go : Dec (C ≡ A) → view (set rs A r) m C ≡ view rs m C
    go (yes e) = hidden (has m C) (slice_get (set rs A r) C) (slice_get rs C) (ap (has m) e ∙ unmarked)
    go (no ne) = ap (λ o. cond (has m C) (option_map held o) None) (get_set_other rs A C r ne)

module _ {T : Type 0} (𝓣 : Group T) (s : Survey T) (x y : Word) (V : View) where
  -- a trail stays one where a symbol that has no row now gets one
  pub trail_kept : (rs : List (ShortWord 64)) (L : List Source) (A : ℕ) (r : ShortWord 64) → A < length rs → {k : ℕ} {U : View} → U A ≡ None → Trail 𝓣 s x y V rs L k U → Trail 𝓣 s x y V (set rs A r) L k U
  trail_kept rs L A r l free at_start = at_start
  trail_kept rs L A r l free (one_more {W = W} t source B w at shown ranked none turned written) =
      let before = unwritten W B (held w) A (sym (written A) ∙ free) in
      one_more (trail_kept rs L A r l before t) source B w at (λ C. same_under rs source.marks.bits A r l (shown A ∙ before) C ∙ shown C) ranked none turned written

  -- and where the list of sources changes behind its own
  pub trail_listed : (rs : List (ShortWord 64)) (L L' : List Source) {k : ℕ} {U : View} → ((i : ℕ) → i < k → slice_get L' i ≡ slice_get L i) → Trail 𝓣 s x y V rs L k U → Trail 𝓣 s x y V rs L' k U
  trail_listed rs L L' same at_start = at_start
  trail_listed rs L L' same (one_more {k = k} t source B w at shown ranked none turned written) =
      one_more (trail_listed rs L L' (λ i l. same i (omega arith)) t) source B w (same k (omega arith) ∙ at) shown ranked none turned written

  -- a source more
  pub trail_grown : (rs : List (ShortWord 64)) (L L' : List Source) {k : ℕ} {W : View} → ((i : ℕ) → i < k → slice_get L' i ≡ slice_get L i) → Trail 𝓣 s x y V rs L k W →
      (source : Source) (A : ℕ) (w : ShortWord 64) → slice_get L' k ≡ Some source → A < length rs → ((C : ℕ) → view rs source.marks.bits C ≡ W C) → Ranked s.skeleton.words.count (norm_in s) W → W A ≡ None →
      Turned 𝓣 (surveyed s) (norm_in s) (first_in s) (rows_over 𝓣 s W) x y (Some (source.origin, treatments.Mend A w)) →
      (U : View) → ((C : ℕ) → U C ≡ with_row W A (held w) C) → Trail 𝓣 s x y V (set rs A w) L' (suc k) U
  trail_grown rs L L' same t source A w at l shown ranked none turned U written =
      one_more (trail_kept rs L' A w l none (trail_listed rs L L' same t)) source A w at
      (λ C. same_under rs source.marks.bits A w l (shown A ∙ none) C ∙ shown C) ranked none turned written

  -- the last source of a trail, and the rows before it
  pub record Last (rs : List (ShortWord 64)) (L : List Source) (k : ℕ) (U : View) : Type 0 where
    pub rows : View
    pub trail : Trail 𝓣 s x y V rs L k rows
    pub source : Source
    pub symbol : ℕ
    pub row : ShortWord 64
    pub at : slice_get L k ≡ Some source
    pub shown : (C : ℕ) → view rs source.marks.bits C ≡ rows C
    pub ranked : Ranked s.skeleton.words.count (norm_in s) rows
    pub free : rows symbol ≡ None
    pub turned : Turned 𝓣 (surveyed s) (norm_in s) (first_in s) (rows_over 𝓣 s rows) x y (Some (source.origin, treatments.Mend symbol row))
    pub written : (C : ℕ) → U C ≡ with_row rows symbol (held row) C

  pub last_of : (rs : List (ShortWord 64)) (L : List Source) {j : ℕ} {U : View} → Trail 𝓣 s x y V rs L j U → (k : ℕ) → j ≡ suc k → Last rs L k U
  last_of rs L at_start k e = absurd (omega arith)
  last_of rs L {U = U} (one_more {k = i} {W = W} t source A w at shown ranked none turned written) k e =
      subst (λ n. Last rs L n U) (let same : i ≡ k = omega arith in same) (record {
        rows = W;
        trail = t;
        source = source;
        symbol = A;
        row = w;
        at = at;
        shown = shown;
        ranked = ranked;
        free = none;
        turned = turned;
        written = written;
      })

  -- without a source it is where it began
  pub none_of : (rs : List (ShortWord 64)) (L : List Source) {k : ℕ} {U : View} → Trail 𝓣 s x y V rs L k U → k ≡ 0 → U ≡ V
  none_of rs L at_start e = refl
  none_of rs L (one_more t source A w at shown ranked none turned written) e = absurd (omega arith)
