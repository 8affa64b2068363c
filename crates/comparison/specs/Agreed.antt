-- How far rows are known to agree.
--
-- seen g A          the first letter at which the row of A was not yet seen to agree
-- Kept … D g        what was seen agrees over the sheet D
--
-- Assumes nothing.
use Rattle.std.specs.Prelude.{◌≡◌, ℕ, ◌<◌, ◌≤◌, Some, slice_index}
use Rattle.tally.specs.Group.{Group}
use Rattle.grammar.specs.Meaning.{Input, Weighted, Meaning, Letter}
use Rattle.rows.specs.Sheets.{Sheet}
use Rattle.comparison.specs.Turning.{TreatsRow}
use Rattle.comparison.specs.declared.agreed.Agreed.{Agreed}
use Rattle.comparison.specs.declared.treatment.Treatment.TheVariants.{Agree}

abbrev pub seen : Agreed → ℕ → ℕ
seen g A = slice_index g.letters A

pub record Kept {T : Type 0} (𝓣 : Group T) (M : Meaning T) (norm : ℕ → ℕ) (first : ℕ → Input) (D : Sheet T) (g : Agreed) : Type 0 where
  pub low : (A : ℕ) → A < 32 → 65 ≤ seen g A
  pub agree : (A : ℕ) (m : Weighted T) (a : ℕ) → D A ≡ Some m → Letter a → a < seen g A → TreatsRow 𝓣 M norm first D A m a Agree
