-- When a sheet over a survey agrees, and where it first does not.
--
-- Ready 𝓣 s V w           the rows of V are ranked over the survey s, and the workspace w is theirs
-- Side 𝓣 D f m            f is the normal form of what a step gives, its sum with the step's tally; none without a step
-- FirstWrong 𝓣 M D A a    the row of A is the first that does not agree, at the letter a: by symbol, then letter
-- MayStand n norm A w     w has A's norm, and is not one symbol of no smaller number
--
-- Assumes nothing.
use Rattle.std.specs.Prelude.{◌≡◌, ℕ, ◌<◌, [], ◌∷◌, Some, None, Option}
use Rattle.tally.specs.Group.{Group}
use Rattle.grammar.specs.Meaning.{Word, Weighted, Meaning, Letter}
use Rattle.grammar.specs.WordStacks.{held}
use Rattle.norm.specs.Norms.{norms}
use Rattle.rows.specs.Sheets.{View, Sheet, Normal, Agrees, Ranked}
use Rattle.survey.specs.Refusals.{Sooner}
use Rattle.survey.specs.Surveyed.{norm_in}
use Rattle.survey.specs.declared.table.Survey.{Survey}
use Rattle.agreement.specs.Works.{rows_over, Works}
use Rattle.agreement.specs.declared.form.Form.{Form}
use Rattle.agreement.specs.declared.workspace.Workspace.{Workspace}

pub record Ready {T : Type 0} (𝓣 : Group T) (s : Survey T) (V : View) (w : Workspace T) : Type 0 where
  pub ranked : Ranked s.skeleton.words.count (norm_in s) V
  pub works : Works 𝓣 (rows_over 𝓣 s V) w

abbrev pub Side : {T : Type 0} → Group T → Sheet T → Option (Form T 512) → Option (Weighted T) → Type 0
Side 𝓣 D None None = Unit {0}
Side 𝓣 D None (Some m) = ⊥
Side 𝓣 D (Some f) None = ⊥
Side {T} 𝓣 D (Some f) (Some m) = (s : T) × Normal 𝓣 D m.word (held f.word) s × (f.sum ≡ 𝓣.add m.tally s)

pub record FirstWrong {T : Type 0} (𝓣 : Group T) (M : Meaning T) (D : Sheet T) (A a : ℕ) : Type 0 where
  pub row : Weighted T
  pub is : D A ≡ Some row
  pub letter : Letter a
  pub here : ¬ Agrees 𝓣 M D A row a
  pub before : (B : ℕ) (m : Weighted T) (b : ℕ) → D B ≡ Some m → Letter b → Sooner B b A a → Agrees 𝓣 M D B m b

pub record MayStand (norm : ℕ → ℕ) (A : ℕ) (w : Word) : Type 0 where
  pub weighs : norms norm w ≡ norm A
  pub lower : (C : ℕ) → w ≡ C ∷ [] → C < A
