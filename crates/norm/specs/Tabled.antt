-- The words of rules as a table holds them.
--
-- held w           the word that is held
-- stored n ws A a  the word at A and a, in a table ws for n symbols
--
-- Assumes nothing.
use Rattle.std.specs.Prelude.{ℕ, cond, ◌&&◌, List, take, None, Option, nat_lt, slice_index_or}
use Rattle.std.specs.Option.{option_map}
use Rattle.grammar.specs.Meaning.{Word}
use Rattle.grammar.specs.Listed.{letter}
use Rattle.grammar.specs.Places.{index}
use Rattle.norm.specs.Words.{Words}
use Rattle.norm.specs.declared.short_word.ShortWord.{ShortWord}

abbrev pub held : {N : ℕ} → ShortWord N → Word
held w = take w.len w.symbols

abbrev pub stored : ℕ → List (Option (ShortWord 4)) → Words
stored n ws A a = cond (nat_lt A n && letter a) (option_map held (slice_index_or ws (index A a) None)) None
