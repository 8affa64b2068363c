use Rattle.std.proofs.Common.{◌≤◌, length}
use Rattle.format.specs.Lent.{Wrote}
use Rattle.survey.specs.Surveyed.{surveyed}
use Rattle.writing.specs.Files.{rules_in}
use Rattle.writing.proofs.WrittenRules.{section}
use Rattle.writing.proofs.rules.rules_into.Given as goal

abbrev pub invariant-loop-symbol : goal.invariant-loop-symbol
invariant-loop-symbol g l =
    let M = surveyed l.survey in
    length g.T.FileTally.kinds ≤ 2 → Wrote l.fn.out l.fn.start (section g.T.FileTally.numbers M (length (rules_in g.T.FileTally.numbers M M.count)) l.symbol 65) l.at l.out

abbrev pub invariant-loop-letter : goal.invariant-loop-letter
invariant-loop-letter g l =
    let M = surveyed l.survey in
    length g.T.FileTally.kinds ≤ 2 → Wrote l.fn.out l.fn.start (section g.T.FileTally.numbers M (length (rules_in g.T.FileTally.numbers M M.count)) l.symbol l.letter) l.at l.out
