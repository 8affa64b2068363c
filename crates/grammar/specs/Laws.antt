-- What is proved of words and inputs, for every meaning and every tally with the laws.
--
-- DerivationLaw 𝓣     takes is leftmost derivation to tallies only, with their sum
-- Split 𝓣 M x y s t   x takes a front of s and y the rest, with tallies that add up to t
-- WordLaws 𝓣          concatenations, prefixes, sameness
-- max_input           the most letters that a run is asked for
-- derived 𝓣 M w s     what derive answers: a refusal with the number of letters if there are too many, else what is taken
--
-- Assumes nothing.
use Rattle.std.specs.Prelude.{◌≡◌, ℕ, ◌≤◌, cond, ◌↔◌, List, [], ◌++◌, length, Some, Ok, Err, Option, Result, nat_lt}
use Rattle.tally.specs.Group.{Group, total}
use Rattle.grammar.specs.Meaning.{Word, Input, Meaning, Letter, Each, WellFormed}
use Rattle.grammar.specs.Takes.{shift, takes, Differ, Same}
use Rattle.grammar.specs.Derivation.{tallies, symbols, Derives}
use Rattle.grammar.specs.declared.too_long.InputTooLong.{InputTooLong}

abbrev pub DerivationLaw : {T : Type 0} → Group T → Type 0
DerivationLaw {T} 𝓣 = (M : Meaning T) (w : Word) (s : Input) (t : T) →
    (takes 𝓣 M w s ≡ Some t) ↔ ((ts : List T) × Derives M (symbols T w) s (tallies ts) × (total 𝓣 ts ≡ t))

pub record Split {T : Type 0} (𝓣 : Group T) (M : Meaning T) (x y : Word) (s : Input) (t : T) : Type 0 where
  pub front : Input
  pub back : Input
  pub first : T
  pub second : T
  pub joined : s ≡ front ++ back
  pub takes_front : takes 𝓣 M x front ≡ Some first
  pub takes_back : takes 𝓣 M y back ≡ Some second
  pub adds_up : t ≡ 𝓣.add first second

pub record WordLaws {T : Type 0} (𝓣 : Group T) : Type 0 where
  -- where x takes a front, x and then y take what y takes of the rest
  pub append : (M : Meaning T) (x y : Word) (s r : Input) (p : T) → takes 𝓣 M x s ≡ Some p → takes 𝓣 M (x ++ y) (s ++ r) ≡ shift 𝓣 p (takes 𝓣 M y r)
  -- what x and then y take is a front that x takes and a rest that y takes
  pub split : (M : Meaning T) (x y : Word) (s : Input) (t : T) → takes 𝓣 M (x ++ y) s ≡ Some t → Split 𝓣 M x y s t
  -- no word takes an input and a proper prefix of it
  pub prefix_free : (M : Meaning T) (w : Word) (s r : Input) (p q : T) → takes 𝓣 M w s ≡ Some p → takes 𝓣 M w (s ++ r) ≡ Some q → r ≡ []
  -- a word has at most as many symbols as an input that it takes has letters
  pub long_enough : (M : Meaning T) (w : Word) (s : Input) (t : T) → takes 𝓣 M w s ≡ Some t → length w ≤ length s
  -- an input that is taken in a well-formed grammar is of letters only
  pub lettered : (M : Meaning T) → WellFormed M → (w : Word) (s : Input) (t : T) → takes 𝓣 M w s ≡ Some t → Each Letter s
  -- sameness is a congruence for concatenation
  pub congruence : (M : Meaning T) (x x' y y' : Word) → Same 𝓣 M x x' → Same 𝓣 M y y' → Same 𝓣 M (x ++ y) (x' ++ y')
  -- to differ is not to take with the same tally, and to be the same is to differ on no input
  pub differ : (M : Meaning T) (x y : Word) (s : Input) → Differ 𝓣 M x y s ↔ (¬ (takes 𝓣 M x s ≡ takes 𝓣 M y s))
  pub same : (M : Meaning T) (x y : Word) → Same 𝓣 M x y ↔ ((s : Input) → ¬ Differ 𝓣 M x y s)

abbrev pub max_input : ℕ
max_input = 16384

abbrev pub derived : {T : Type 0} → Group T → Meaning T → Word → Input → Result (Option T) InputTooLong
derived 𝓣 M w s = cond (nat_lt max_input (length s)) (Err (record { letters = length s })) (Ok (takes 𝓣 M w s))
