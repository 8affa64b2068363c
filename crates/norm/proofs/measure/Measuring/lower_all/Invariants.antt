use Rattle.std.proofs.Common.{◌≡◌}
use Rattle.norm.specs.Measurings.{rules}
use Rattle.norm.proofs.Lowering.{Passing}
use Rattle.norm.proofs.measure.Measuring.lower_all.Given as goal

abbrev pub invariant-loop-symbol : goal.invariant-loop-symbol
invariant-loop-symbol l = (l.self.words.now ≡ l.initial.self.words.now) × Passing 64 l.initial.self.words.now.count (rules l.initial.self) l.initial.self.measures l.symbol l.self.measures l.fell
