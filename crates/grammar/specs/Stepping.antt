-- One step of a run.
--
-- Stepped 𝓣 M w a left w' o    with left letters to come after a, w steps to w' with the tally in o, and w' is short enough
--                              for them; or o is none, and w takes no input of a and so many letters
--
-- Assumes nothing.
use Rattle.std.specs.Prelude.{◌≡◌, ℕ, ◌≤◌, ◌∷◌, length, Some, None, Option}
use Rattle.tally.specs.Group.{Group}
use Rattle.grammar.specs.Meaning.{Word, Input, Meaning}
use Rattle.grammar.specs.Takes.{step, takes}

abbrev pub Stepped : {T : Type 0} → Group T → Meaning T → Word → ℕ → ℕ → Word → Option T → Type 0
Stepped 𝓣 M w a left w' (Some t) = (step M w a ≡ Some (record { word = w'; tally = t })) × (length w' ≤ left)
Stepped 𝓣 M w a left w' None = (s : Input) → length s ≡ left → takes 𝓣 M w (a ∷ s) ≡ None
