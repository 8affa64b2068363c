-- Which inputs a word takes, with which tally.
--
-- behind r o        what a rule gives, with r behind its word
-- step M w a        the first symbol gives way to the word of its rule at a; none at the empty word or without the rule
-- shift 𝓣 p o       p added to a tally, if there is one
-- follow 𝓣 k o      a step's tally added to what k says of the word after it
-- takes 𝓣 M w s     the tally of s if the letters of s, used in turn, lead from w to the empty word
-- Differ 𝓣 M x y s  only one of x and y takes s, or both do with different tallies
-- Same 𝓣 M x y      x and y take the same inputs with the same tallies
--
-- Assumes nothing.
use Rattle.std.specs.Prelude.{◌≡◌, ℕ, [], ◌∷◌, ◌++◌, Some, None, Option}
use Rattle.tally.specs.Group.{Group}
use Rattle.grammar.specs.Meaning.{Word, Input, Weighted, Meaning}

abbrev pub behind : {T : Type 0} → Word → Option (Weighted T) → Option (Weighted T)
behind r None = None
behind r (Some m) = Some (record { word = m.word ++ r; tally = m.tally })

abbrev pub step : {T : Type 0} → Meaning T → Word → ℕ → Option (Weighted T)
step M [] a = None
step M (A ∷ r) a = behind r (M.rule A a)

abbrev pub shift : {T : Type 0} → Group T → T → Option T → Option T
shift 𝓣 p None = None
shift 𝓣 p (Some t) = Some (𝓣.add p t)

abbrev pub follow : {T : Type 0} → Group T → (Word → Option T) → Option (Weighted T) → Option T
follow 𝓣 k None = None
follow 𝓣 k (Some m) = shift 𝓣 m.tally (k m.word)

abbrev pub takes : {T : Type 0} → Group T → Meaning T → Word → Input → Option T
takes 𝓣 M [] [] = Some 𝓣.zero
takes 𝓣 M (A ∷ r) [] = None
takes 𝓣 M w (a ∷ s) = follow 𝓣 (λ x. takes 𝓣 M x s) (step M w a)

module _ {T : Type 0} (𝓣 : Group T) (M : Meaning T) where
  pub data Differ (x y : Word) (s : Input) : Type 0 where
    only_first : (t : T) → takes 𝓣 M x s ≡ Some t → takes 𝓣 M y s ≡ None → Differ x y s
    only_second : (t : T) → takes 𝓣 M x s ≡ None → takes 𝓣 M y s ≡ Some t → Differ x y s
    by_tally : (t u : T) → takes 𝓣 M x s ≡ Some t → takes 𝓣 M y s ≡ Some u → ¬ (t ≡ u) → Differ x y s

  abbrev pub Same : Word → Word → Type 0
  Same x y = (s : Input) → takes 𝓣 M x s ≡ takes 𝓣 M y s
