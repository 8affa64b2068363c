use Rattle.std.proofs.Common.{◌+◌, length, sym, ap, ◌∙◌, arith}
use Rattle.survey.specs.Surveyed.{surveyed}
use Rattle.writing.proofs.WrittenRules.{rules_few, count_more, count_same, next_symbol}
use Rattle.writing.proofs.rules.rule_count.Goals as goal
use Rattle.writing.proofs.rules.rule_count.Goals.{then-has_rule, else-has_rule}

pub overflow_add-count : goal.overflow_add-count
overflow_add-count g c =
    let s = c.args.survey.now in
    let few = s.skeleton.words.few in
    let most = rules_few g.T.FileTally.numbers (surveyed s) c.loop-symbol.symbol c.loop-letter.letter in
    let is = c.loop-letter.invariant in
    let count = c.count-symbol-end.ensures in
    omega arith

pub loop-letter-preserved : goal.loop-letter-preserved
loop-letter-preserved g c =
    let M = surveyed c.args.survey.now in
    let A = c.loop-symbol.symbol in
    let a = c.loop-letter.letter in
    elim c.if-has_rule.branch [
      | then-has_rule w ↦ w.count-is ∙ ap (λ n. n + 1) c.loop-letter.invariant ∙ sym (count_more g.T.FileTally.numbers M A a (omega arith) (sym c.has_rule.ensures ∙ w.if-has_rule.true))
      | else-has_rule w ↦ w.count-is ∙ c.loop-letter.invariant ∙ sym (count_same g.T.FileTally.numbers M A a (omega arith) (sym c.has_rule.ensures ∙ w.if-has_rule.false))
    ]

pub loop-symbol-preserved : goal.loop-symbol-preserved
loop-symbol-preserved g c = c.loop-letter.invariant ∙ ap length (next_symbol g.T.FileTally.numbers (surveyed c.args.survey.now) c.loop-symbol.symbol c.loop-letter.letter (omega arith))
