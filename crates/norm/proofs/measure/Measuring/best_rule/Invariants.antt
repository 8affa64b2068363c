use Rattle.norm.specs.Measurings.{rules, measured}
use Rattle.norm.proofs.Bests.{BestBelow}
use Rattle.norm.proofs.measure.Measuring.best_rule.Given as goal

abbrev pub invariant-loop-letter : goal.invariant-loop-letter
invariant-loop-letter l = BestBelow 64 (rules l.self) (measured l.self) l.symbol l.letter l.best.measure l.best.letter
