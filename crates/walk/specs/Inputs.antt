-- The letters in a buffer.
--
-- most            the most letters of an input
-- letters l       the letters that the buffer l holds
--
-- Assumes nothing.
use Rattle.std.specs.Prelude.{ℕ, take}
use Rattle.grammar.specs.Meaning.{Input}
use Rattle.walk.specs.declared.letters.Letters.{Letters}

abbrev pub most : ℕ
most = 16384

abbrev pub letters : Letters → Input
letters l = take l.len l.bytes
