-- What a workspace has of a sheet.
--
-- rows_over 𝓣 s V        the rows of V over the grammar of the survey s, each with its offset
-- Works 𝓣 D w            the workspace w has the normal form of each symbol over the sheet D, and the offset of each row
-- Within v n norm        there are at most 32 symbols, of norms from 1 to v
--
-- Assumes nothing.
use Rattle.std.specs.Prelude.{◌≡◌, ℕ, ◌<◌, ◌≤◌, Some}
use Rattle.std.specs.List.{slice_get}
use Rattle.tally.specs.Group.{Group}
use Rattle.grammar.specs.Meaning.{Weighted}
use Rattle.rows.specs.Sheets.{View, Sheet, weighed}
use Rattle.survey.specs.Surveyed.{surveyed, first_in}
use Rattle.survey.specs.declared.table.Survey.{Survey}
use Rattle.rows.specs.Replacing.{Normals}
use Rattle.agreement.specs.Forms.{puts}
use Rattle.agreement.specs.declared.workspace.Workspace.{Workspace}

abbrev pub rows_over : {T : Type 0} → Group T → Survey T → View → Sheet T
rows_over 𝓣 s V = weighed 𝓣 (surveyed s) (first_in s) V

pub record Works {T : Type 0} (𝓣 : Group T) (D : Sheet T) (w : Workspace T) : Type 0 where
  pub forms : Normals 𝓣 D 32 (puts 𝓣 w.forms)
  pub offsets : (A : ℕ) (m : Weighted T) → D A ≡ Some m → slice_get w.offsets A ≡ Some m.tally

pub record Within (v n : ℕ) (norm : ℕ → ℕ) : Type 0 where
  pub few : n ≤ 32
  pub positive : (A : ℕ) → A < n → 1 ≤ norm A
  pub small : (A : ℕ) → A < n → norm A ≤ v
