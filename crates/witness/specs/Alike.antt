-- What holds on one input: of two words with sums, of a row, of a word and its normal form.
--
-- AlikeOn 𝓣 M p q x y s    x with the sum p and y with the sum q do not differ on s
-- TrueOn 𝓣 M A m s         the row m of A is true on s: A, and the row's word with the offset, do not differ on it
-- NormalOn 𝓣 M D x s       x, and its normal form with the sum, do not differ on s
-- Cut                      an input in two: a front of it, and the rest
-- cut M w s                s cut behind the front that w takes; none where w takes no front of s
-- TrueOnFront 𝓣 M A m o    the row m of A is true on the front of the cut, if there is one
-- NormalOnRest 𝓣 M D x o   x and its normal form with the sum do not differ on the rest of the cut, if there is one
--
-- Assumes nothing.
use Rattle.std.specs.Prelude.{◌≡◌, ℕ, [], ◌∷◌, Some, None, Option}
use Rattle.std.specs.Option.{option_map, option_and_then}
use Rattle.tally.specs.Group.{Group}
use Rattle.grammar.specs.Meaning.{Word, Input, Weighted, Meaning}
use Rattle.grammar.specs.Takes.{step, shift, takes}
use Rattle.rows.specs.Sheets.{Sheet, Normal}

pub record Cut : Type 0 where
  pub front : Input
  pub rest : Input

-- a letter more in front
abbrev pub longer : ℕ → Option Cut → Option Cut
longer a o = option_map (λ c. record { front = a ∷ c.front; rest = c.rest }) o

abbrev pub cut : {T : Type 0} → Meaning T → Word → Input → Option Cut
cut M [] s = Some (record { front = []; rest = s })
cut M (A ∷ r) [] = None
cut M (A ∷ r) (a ∷ s) = longer a (option_and_then (λ m. cut M m.word s) (step M (A ∷ r) a))

module _ {T : Type 0} (𝓣 : Group T) (M : Meaning T) where
  abbrev pub AlikeOn : T → T → Word → Word → Input → Type 0
  AlikeOn p q x y s = shift 𝓣 p (takes 𝓣 M x s) ≡ shift 𝓣 q (takes 𝓣 M y s)

  abbrev pub TrueOn : ℕ → Weighted T → Input → Type 0
  TrueOn A m s = takes 𝓣 M (A ∷ []) s ≡ shift 𝓣 m.tally (takes 𝓣 M m.word s)

  abbrev pub NormalOn : Sheet T → Word → Input → Type 0
  NormalOn D x s = (z : Word) (t : T) → Normal 𝓣 D x z t → takes 𝓣 M x s ≡ shift 𝓣 t (takes 𝓣 M z s)

  abbrev pub TrueOnFront : ℕ → Weighted T → Option Cut → Type 0
  TrueOnFront A m None = Unit {0}
  TrueOnFront A m (Some c) = TrueOn A m c.front

  abbrev pub NormalOnRest : Sheet T → Word → Option Cut → Type 0
  NormalOnRest D x None = Unit {0}
  NormalOnRest D x (Some c) = NormalOn D x c.rest
