use Rattle.std.proofs.Common.{take}
use Rattle.layout.specs.Contents.{joined}
use Rattle.format.specs.Lent.{Puts}
use Rattle.format.proofs.encode.Writer.put_all.Given as goal

abbrev pub invariant-loop-item : goal.invariant-loop-item
invariant-loop-item g l = Puts l.initial.self (joined g.T.Encode.bytes (take l.item-index l.items)) l.self
