use Rattle.std.proofs.Common.{◌-◌, length}
use Rattle.grammar.specs.WordStacks.{held}
use Rattle.grammar.proofs.Held.{Put}
use Rattle.grammar.proofs.word_stack.WordStack.push_word.Given as goal

abbrev pub invariant-loop-symbol : goal.invariant-loop-symbol
invariant-loop-symbol g l = Put g.row.N l.word (held l.initial.self) (length l.word - length l.yielded) (held l.self)
