use Rattle.grammar.specs.WordStacks.{held}
use Rattle.agreement.specs.Forms.{puts}
use Rattle.agreement.proofs.Partly.{Partly}
use Rattle.agreement.proofs.forms.Forms.replace.Given as goal

abbrev pub invariant-loop-symbol : goal.invariant-loop-symbol
invariant-loop-symbol g l = Partly g.T.Tally.group 512 (puts g.T.Tally.group l.self) l.word l.symbol-iterator.iter.rest.now (held l.left) l.sum
