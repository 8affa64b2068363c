use Rattle.std.proofs.Common.{length, arith}
use Rattle.survey.specs.Surveyed.{surveyed}
use Rattle.writing.specs.Files.{rules_in}
use Rattle.writing.proofs.WrittenRules.{rule_added, letters_done}
use Rattle.writing.proofs.rules.rules_into.Goals as goal

pub loop-letter-preserved : goal.loop-letter-preserved
loop-letter-preserved g c = λ few.
    let M = surveyed c.args.survey.now in
    let f = g.T.FileTally.numbers in
    rule_added f M (length (rules_in f M M.count)) c.loop-symbol.symbol c.loop-letter.letter (omega arith) (omega arith) (c.loop-letter.invariant few) (c.rule_into-at.ensures few)

pub loop-symbol-preserved : goal.loop-symbol-preserved
loop-symbol-preserved g c = λ few.
    let M = surveyed c.args.survey.now in
    let f = g.T.FileTally.numbers in
    letters_done f M (length (rules_in f M M.count)) c.loop-symbol.symbol c.loop-letter.letter (omega arith) (c.loop-letter.invariant few)
