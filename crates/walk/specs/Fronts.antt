-- The front of an input that a word takes.
--
-- IsFront 𝓣 M w s n t    w takes the first n letters of s, with the tally t; they are the front of the cut
--
-- Assumes nothing.
use Rattle.std.specs.Prelude.{◌≡◌, ℕ, ◌≤◌, length, take, drop, Some}
use Rattle.tally.specs.Group.{Group}
use Rattle.grammar.specs.Meaning.{Word, Input, Meaning}
use Rattle.grammar.specs.Takes.{takes}
use Rattle.witness.specs.Alike.{cut}

pub record IsFront {T : Type 0} (𝓣 : Group T) (M : Meaning T) (w : Word) (s : Input) (n : ℕ) (t : T) : Type 0 where
  pub within : n ≤ length s
  pub cuts : cut M w s ≡ Some (record { front = take n s; rest = drop n s })
  pub taken : takes 𝓣 M w (take n s) ≡ Some t
