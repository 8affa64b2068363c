use Rattle.std.proofs.Common.{◌≤◌, length}
use Rattle.grammar.specs.WordStacks.{held}
use Rattle.walk.specs.Inputs.{most}
use Rattle.walk.proofs.Runs.{Run}
use Rattle.walk.proofs.fronts.front_of.Given as goal

abbrev pub invariant-loop-length : goal.invariant-loop-length
invariant-loop-length g l = length l.input ≤ most → Run g.G.T.Tally.group (g.G.Grammar.meaning l.g) l.word l.input l.length l.tally (held l.left)
