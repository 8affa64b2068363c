use Rattle.std.proofs.Common.{◌≡◌, ◌≤◌, drop}
use Rattle.norm.specs.Measured.{along, through}
use Rattle.norm.specs.Measurings.{measured}
use Rattle.norm.proofs.measure.Measuring.through.Given as goal

abbrev pub invariant-loop-symbol : goal.invariant-loop-symbol
invariant-loop-symbol l = (along 64 (measured l.self) l.sum (drop l.symbol-index l.word) ≡ through 64 (measured l.self) l.word) × (l.sum ≤ 65)
