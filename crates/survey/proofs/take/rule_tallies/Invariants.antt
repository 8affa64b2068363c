use Rattle.std.proofs.Common.{◌≡◌}
use Rattle.grammar.specs.Meaning.{tally_of}
use Rattle.survey.proofs.Filling.{Placed}
use Rattle.survey.proofs.take.rule_tallies.Given as goal

abbrev pub invariant-loop-symbol : goal.invariant-loop-symbol
invariant-loop-symbol g l = Placed {X = g.row.G-T.Denot} (λ A a t. t ≡ tally_of g.G.T.Tally.group.zero ((g.G.Grammar.meaning l.g).rule A a)) l.tallies l.symbol 65

abbrev pub invariant-loop-letter : goal.invariant-loop-letter
invariant-loop-letter g l = Placed {X = g.row.G-T.Denot} (λ A a t. t ≡ tally_of g.G.T.Tally.group.zero ((g.G.Grammar.meaning l.g).rule A a)) l.tallies l.symbol l.letter
