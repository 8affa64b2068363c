use Rattle.survey.proofs.Filling.{Filled}
use Rattle.survey.proofs.take.rule_words.Given as goal

abbrev pub invariant-loop-symbol : goal.invariant-loop-symbol
invariant-loop-symbol g l = Filled (g.G.Grammar.meaning l.g) l.words l.symbol 65

abbrev pub invariant-loop-letter : goal.invariant-loop-letter
invariant-loop-letter g l = Filled (g.G.Grammar.meaning l.g) l.words l.symbol l.letter
