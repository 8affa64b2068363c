use Rattle.grammar.specs.WordStacks.{held}
use Rattle.grammar.proofs.Runs.{Ran}
use Rattle.grammar.proofs.derivation.derive.Given as goal

abbrev pub invariant-loop-i : goal.invariant-loop-i
invariant-loop-i g l = Ran g.G.T.Tally.group (g.G.Grammar.meaning l.g) l.word l.input l.i l.sum (held l.stack)
