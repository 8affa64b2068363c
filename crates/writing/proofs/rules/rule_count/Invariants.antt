use Rattle.std.proofs.Common.{◌≡◌, length}
use Rattle.survey.specs.Surveyed.{surveyed}
use Rattle.writing.proofs.WrittenRules.{rules_to}
use Rattle.writing.proofs.rules.rule_count.Given as goal

abbrev pub invariant-loop-symbol : goal.invariant-loop-symbol
invariant-loop-symbol g l = l.count ≡ length (rules_to g.T.FileTally.numbers (surveyed l.survey) l.symbol 65)

abbrev pub invariant-loop-letter : goal.invariant-loop-letter
invariant-loop-letter g l = l.count ≡ length (rules_to g.T.FileTally.numbers (surveyed l.survey) l.symbol l.letter)
