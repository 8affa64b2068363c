use Rattle.grammar.specs.Meaning.{word_of}
use Rattle.grammar.specs.WordStacks.{held}
use Rattle.grammar.proofs.Held.{Put}
use Rattle.grammar.proofs.word_stack.WordStack.push_rule.Given as goal

abbrev pub invariant-loop-at : goal.invariant-loop-at
invariant-loop-at g l = Put g.row.N (word_of ((g.G.Grammar.meaning l.g).rule l.symbol l.letter)) (held l.initial.self) l.at (held l.self)
