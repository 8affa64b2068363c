-- Tables with a place for each symbol and letter.
--
-- index A a   where such a table has what belongs to the symbol A and the letter a
--
-- Assumes nothing.
use Rattle.std.specs.Prelude.{ℕ, ◌+◌, ◌-◌, ◌*◌}

abbrev pub index : ℕ → ℕ → ℕ
index A a = 26 * A + (a - 65)
