-- What is printed of an input that is too long to be run.
--
-- too_long_text e   the number of its letters, and the most that are run
--
-- Assumes nothing.
use Rattle.std.specs.Prelude.{ℕ, List, ◌++◌, codes}
use Rattle.std.specs.Fmt.{decimal}
use Rattle.grammar.specs.Laws.{max_input}
use Rattle.grammar.specs.declared.too_long.InputTooLong.{InputTooLong}

abbrev pub too_long_text : InputTooLong → List ℕ
too_long_text e = codes "an input of " ++ (decimal e.letters ++ (codes " letters where " ++ (decimal max_input ++ codes " are the most")))
