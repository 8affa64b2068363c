-- Two grammars side by side.
--
-- kept n w        a symbol of the first grammar that is not below its count n becomes 255
-- raised n w      symbols of the second grammar come after the n of the first; what would pass 255 is 255
-- renamed f o     a rule with the symbols of its word renamed
-- twinned M N     M's symbols and then N's
-- Closed M        the words of M's rules name only symbols below its count
-- TwinLaw 𝓣       a twin takes what its parts take
--
-- Assumes nothing.
use Rattle.std.specs.Prelude.{◌≡◌, ℕ, ◌+◌, ◌-◌, ◌≤◌, min, cond, map, None, Option, nat_lt}
use Rattle.std.specs.Option.{option_map}
use Rattle.tally.specs.Group.{Group}
use Rattle.grammar.specs.Meaning.{Word, Input, Weighted, Meaning, word_of, Below}
use Rattle.grammar.specs.Takes.{takes}

abbrev pub kept : ℕ → Word → Word
kept n w = map (λ B. cond (nat_lt B n) B 255) w

abbrev pub raised : ℕ → Word → Word
raised n w = map (λ B. min 255 (B + n)) w

module _ {T : Type 0} where
  abbrev pub renamed : (Word → Word) → Option (Weighted T) → Option (Weighted T)
  renamed f = option_map (λ m. record { word = f m.word; tally = m.tally })

  abbrev pub twinned : Meaning T → Meaning T → Meaning T
  twinned M N = record {
    count = min 255 (M.count + N.count);
    rule = λ A a. cond (nat_lt A M.count)
        (renamed (kept M.count) (M.rule A a))
        (cond (nat_lt A (min 255 (M.count + N.count))) (renamed (raised M.count) (N.rule (A - M.count) a)) None);
  }

  abbrev pub Closed : Meaning T → Type 0
  Closed M = (A a : ℕ) → Below M.count (word_of (M.rule A a))

  pub record TwinLaw (𝓣 : Group T) (M N : Meaning T) : Type 0 where
    -- a word of the first's symbols takes what it takes in the first
    pub first : Closed M → (w : Word) → Below M.count w → (s : Input) → takes 𝓣 (twinned M N) w s ≡ takes 𝓣 M w s
    -- a raised word takes what it takes in the second
    pub second : M.count + N.count ≤ 255 → (w : Word) (s : Input) → takes 𝓣 (twinned M N) (raised M.count w) s ≡ takes 𝓣 N w s
