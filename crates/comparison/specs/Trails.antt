-- How the rows of a comparison came about, and where it stands.
--
-- Trail … V rs L k W    the first k sources of L tell how the rows of W came about, beginning with those of V: each has the pair that the row was made from, and the marks that the table rs of rows had at that time
-- Stands … S U w c      the comparison c stands at the sheet U, with the workspace w, having begun at the sheet S
-- Went … S U w c r …     what a turn there comes to: it writes the row that it finds, or answers, and then leaves sheet, workspace and sources as they are
-- Traced … V rs W k o   that pair is different, over the rows of W, to which k rows were written since those of V
--
-- Assumes nothing.
use Rattle.std.specs.Prelude.{◌≡◌, ℕ, suc, ◌<◌, true, List, Some, None, Option}
use Rattle.std.specs.List.{slice_get}
use Rattle.tally.specs.Group.{Group}
use Rattle.grammar.specs.Meaning.{Word}
use Rattle.rows.specs.Sheets.{View, SelfProving, Ranked, Extends}
use Rattle.norm.specs.Tabled.{held}
use Rattle.norm.specs.declared.short_word.ShortWord.{ShortWord}
use Rattle.sheet.specs.Marked.{has}
use Rattle.sheet.specs.Rowed.{view, shows, with_row}
use Rattle.sheet.specs.declared.sheet.Sheet.{Sheet}
use Rattle.survey.specs.Surveyed.{surveyed, norm_in, first_in}
use Rattle.survey.specs.declared.table.Survey.{Survey}
use Rattle.agreement.specs.Works.{rows_over}
use Rattle.agreement.specs.Agreeing.{Ready}
use Rattle.agreement.specs.declared.workspace.Workspace.{Workspace}
use Rattle.witness.specs.History.{History}
use Rattle.comparison.specs.Turning.{Turned}
use Rattle.comparison.specs.Agreed.{Kept}
use Rattle.comparison.specs.Procedure.{Reached}
use Rattle.comparison.specs.Procedure as procedure
use Rattle.comparison.specs.declared.comparison.Comparison.{Comparison}
use Rattle.comparison.specs.declared.origin.Origin.{Origin}
use Rattle.comparison.specs.declared.source.Source.{Source}
use Rattle.comparison.specs.declared.outcome.Outcome.{Outcome}
use Rattle.comparison.specs.declared.outcome.Outcome.TheVariants as outcomes
use Rattle.comparison.specs.declared.treatment.Treatment.{Treatment}
use Rattle.comparison.specs.declared.treatment.Treatment.TheVariants as treatments

module _ {T : Type 0} (𝓣 : Group T) (s : Survey T) (x y : Word) where
  pub data Trail (V : View) (rs : List (ShortWord 64)) (L : List Source) : ℕ → View → Type 0 where
    at_start : Trail V rs L 0 V
    one_more : {k : ℕ} {W U : View} → Trail V rs L k W → (source : Source) (A : ℕ) (w : ShortWord 64) → slice_get L k ≡ Some source →
        ((C : ℕ) → view rs source.marks.bits C ≡ W C) → Ranked s.skeleton.words.count (norm_in s) W → W A ≡ None →
        Turned 𝓣 (surveyed s) (norm_in s) (first_in s) (rows_over 𝓣 s W) x y (Some (source.origin, treatments.Mend A w)) →
        ((C : ℕ) → U C ≡ with_row W A (held w) C) → Trail V rs L (suc k) U

  pub record Stands (S U : Sheet) (w : Workspace T) (c : Comparison) : Type 0 where
    pub ready : Ready 𝓣 s (shows U) w
    pub kept : Kept 𝓣 (surveyed s) (norm_in s) (first_in s) (rows_over 𝓣 s (shows U)) c.agreed
    pub history : History 𝓣 (surveyed s) (norm_in s) (first_in s) x y (rows_over 𝓣 s (shows S)) c.sources.len (rows_over 𝓣 s (shows U))
    pub reached : Reached 𝓣 (surveyed s) (norm_in s) (first_in s) x y (shows S) (shows U)
    pub extends : Extends (shows S) (shows U)
    pub rows : (A : ℕ) → has S.marks.bits A ≡ true → slice_get U.rows A ≡ slice_get S.rows A
    pub trail : Trail (shows S) U.rows c.sources.list c.sources.len (shows U)

  abbrev pub Finds : Sheet → Option (Origin × Treatment) → Type 0
  Finds U = procedure.Finds 𝓣 (surveyed s) (norm_in s) (first_in s) x y (shows U)

  -- a turn that wrote a row
  pub record Writes (U U' : Sheet) : Type 0 where
    pub origin : Origin
    pub symbol : ℕ
    pub row : ShortWord 64
    pub finds : Finds U (Some (origin, treatments.Mend symbol row))
    pub written : (C : ℕ) → shows U' C ≡ with_row (shows U) symbol (held row) C

  -- a turn that answered
  pub record Rests (U U' : Sheet) (w w' : Workspace T) (c c' : Comparison) : Type 0 where
    pub sheet : U' ≡ U
    pub work : w' ≡ w
    pub sources : c'.sources ≡ c.sources

  abbrev pub Went : (S U U' : Sheet) (w w' : Workspace T) (c c' : Comparison) → Outcome → Type 0
  Went S U U' w w' c c' outcomes.Mended = Writes U U' × Stands S U' w' c' × (c'.sources.len ≡ suc c.sources.len)
  Went S U U' w w' c c' outcomes.Same = Finds U None × Rests U U' w w' c c'
  Went S U U' w w' c c' (outcomes.Different o) = Finds U (Some (o, treatments.Different)) × Rests U U' w w' c c'

  pub record Traced (V : View) (rs : List (ShortWord 64)) (L : List Source) (W : View) (k : ℕ) (o : Origin) : Type 0 where
    pub trail : Trail V rs L k W
    pub few : k < s.skeleton.words.count
    pub proving : SelfProving 𝓣 (surveyed s) (rows_over 𝓣 s V)
    pub ranked : Ranked s.skeleton.words.count (norm_in s) V
    pub different : Turned 𝓣 (surveyed s) (norm_in s) (first_in s) (rows_over 𝓣 s W) x y (Some (o, treatments.Different))
