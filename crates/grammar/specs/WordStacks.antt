-- The word that a stack with room for N symbols holds.
--
-- held s            its symbols, the first one at the low end
-- put_before N w h  w in front of h; of w as many of its last symbols as N leaves room for
--
-- Assumes nothing.
use Rattle.std.specs.Prelude.{ℕ, ◌+◌, ◌-◌, ◌++◌, length, drop}
use Rattle.grammar.specs.Meaning.{Word}
use Rattle.grammar.specs.declared.word_stack.WordStack.{WordStack}

abbrev pub held : {N : ℕ} → WordStack N → Word
held s = drop s.top s.cells

abbrev pub put_before : ℕ → Word → Word → Word
put_before N w h = drop (length w + length h - N) w ++ h
