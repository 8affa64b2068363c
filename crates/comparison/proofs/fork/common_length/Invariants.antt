use Rattle.std.proofs.Common.{length}
use Rattle.comparison.proofs.Forks.{Alike}
use Rattle.comparison.proofs.fork.common_length.Given as goal

abbrev pub invariant-loop-a : goal.invariant-loop-a
invariant-loop-a l = Alike l.fn.one l.fn.two l.left l.right

abbrev pub decreases-loop-a : goal.decreases-loop-a
decreases-loop-a l = length l.left
