use Rattle.std.proofs.Common.{◌≡◌, take, vec_items}
use Rattle.asking.proofs.numbers.numbers_of.Given as goal

abbrev pub invariant-loop-at : goal.invariant-loop-at
invariant-loop-at g l = vec_items l.numbers ≡ take l.at (g.T.FileTally.numbers l.tally)
