-- What a measuring says.
--
-- rules m         the words of its rules
-- measured m A    the measure of A
-- IsBest m A b    b is the best rule of A
-- IsReached m     what is measured is had
-- IsSettled m     no rule makes less of it
--
-- Assumes nothing.
use Rattle.std.specs.Prelude.{ℕ}
use Rattle.norm.specs.Words.{Words}
use Rattle.norm.specs.Ruled.{rules_of}
use Rattle.norm.specs.Measured.{measure, Best, Reached, Settled}
use Rattle.norm.specs.declared.best_rule.BestRule.{BestRule}
use Rattle.norm.specs.declared.measure.Measuring.{Measuring}

module _ (m : Measuring) where
  abbrev pub rules : Words
  rules = rules_of m.words.now

  abbrev pub measured : ℕ → ℕ
  measured = measure m.measures

  abbrev pub IsBest : ℕ → BestRule → Type 0
  IsBest A b = Best 64 rules measured A b.measure b.letter

  abbrev pub IsReached : Type 0
  IsReached = Reached 64 m.words.now.count rules measured

  abbrev pub IsSettled : Type 0
  IsSettled = Settled 64 m.words.now.count rules measured
