use Rattle.std.proofs.Common.{◌≤◌, [], ◌∷◌, length}
use Rattle.layout.proofs.Ordered.{byte}
use Rattle.format.specs.Lent.{Wrote}
use Rattle.writing.proofs.WrittenItems.{items}
use Rattle.writing.proofs.writing.kinds_into.Given as goal

abbrev pub invariant-loop-place : goal.invariant-loop-place
invariant-loop-place g l = length g.T.FileTally.kinds ≤ 2 → Wrote l.fn.out l.fn.start (items byte (length g.T.FileTally.kinds ∷ []) g.T.FileTally.kinds l.place) l.at l.out
