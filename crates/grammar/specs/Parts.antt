-- Where a twin has a symbol.
--
-- IsPart n m A o   o is the part that has the symbol A and its number there, where the parts have n and m symbols,
--                  or none
--
-- Assumes nothing.
use Rattle.std.specs.Prelude.{◌≡◌, ℕ, ◌+◌, ◌<◌, ◌≤◌, min, Some, None, Option}
use Rattle.grammar.specs.declared.twin.Part.{Part}
use Rattle.grammar.specs.declared.twin.Part.TheVariants.{First, Second}

abbrev pub IsPart : (n m A : ℕ) → Option Part → Type 0
IsPart n m A (Some (First B)) = (B ≡ A) × (A < n)
IsPart n m A (Some (Second B)) = (A ≡ n + B) × (A < min 255 (n + m))
IsPart n m A None = (n ≤ A) × (min 255 (n + m) ≤ A)
