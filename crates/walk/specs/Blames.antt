-- The row to blame where a word and its normal form differ.
--
-- Untrue 𝓣 M D A s    A has a row in the sheet D, and the row is not true on s
-- piece b s           the piece of s that b names
--
-- Assumes nothing.
use Rattle.std.specs.Prelude.{◌≡◌, ℕ, take, drop, Some}
use Rattle.tally.specs.Group.{Group}
use Rattle.grammar.specs.Meaning.{Input, Weighted, Meaning}
use Rattle.rows.specs.Sheets.{Sheet}
use Rattle.witness.specs.Alike.{TrueOn}
use Rattle.walk.specs.declared.blame.Blame.{Blame}

pub record Untrue {T : Type 0} (𝓣 : Group T) (M : Meaning T) (D : Sheet T) (A : ℕ) (s : Input) : Type 0 where
  pub row : Weighted T
  pub is : D A ≡ Some row
  pub untrue : ¬ TrueOn 𝓣 M A row s

abbrev pub piece : Blame → Input → Input
piece b s = take b.length (drop b.from s)
