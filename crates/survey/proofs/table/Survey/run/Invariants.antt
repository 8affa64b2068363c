use Rattle.grammar.specs.WordStacks.{held}
use Rattle.survey.specs.Surveyed.{surveyed}
use Rattle.survey.proofs.Runs.{Along}
use Rattle.survey.proofs.table.Survey.run.Given as goal

abbrev pub invariant-loop-letter : goal.invariant-loop-letter
invariant-loop-letter g l = Along g.T.Tally.group (surveyed l.self) l.word l.input l.letter-index (held l.left) l.tally
