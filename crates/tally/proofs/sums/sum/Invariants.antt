use Rattle.std.proofs.Common.{◌≡◌, ◌≤◌, length, take}
use Rattle.tally.specs.Group.{total}
use Rattle.tally.proofs.sums.sum.Given as goal

abbrev pub invariant-loop-x : goal.invariant-loop-x
invariant-loop-x g l = (l.x-index ≤ length l.xs) × (l.all ≡ total g.T.Tally.group (take l.x-index l.xs))
