use Rattle.std.proofs.Common.{[]}
use Rattle.layout.specs.Contents.{four}
use Rattle.format.specs.Lent.{Wrote}
use Rattle.writing.proofs.WrittenItems.{items}
use Rattle.writing.proofs.rules.numbers_into.Given as goal

abbrev pub invariant-loop-place : goal.invariant-loop-place
invariant-loop-place g l = Wrote l.fn.out l.fn.start (items four [] (g.T.FileTally.numbers l.tally) l.place) l.at l.out
