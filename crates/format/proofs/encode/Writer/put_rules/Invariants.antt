use Rattle.std.proofs.Common.{take}
use Rattle.layout.specs.Contents.{joined}
use Rattle.format.specs.Lent.{Puts, low_rule}
use Rattle.format.proofs.encode.Writer.put_rules.Given as goal

abbrev pub invariant-loop-entry : goal.invariant-loop-entry
invariant-loop-entry g l = Puts l.initial.self (joined (λ r. low_rule (g.R.Entry.rule l.kinds r)) (take l.entry-index l.rules)) l.self
