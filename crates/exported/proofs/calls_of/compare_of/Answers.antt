use Rattle.std.proofs.Common.{length}
use Rattle.std.proofs.lemmas.Result.{err_from_is_err_and}
use Rattle.tally.specs.Makes.{foot_group}
use Rattle.exported.specs.Exports.{foot_meaning}
use Rattle.exported.proofs.NewComparer.{took_too, compare_refused, copy_refused, answered_rows}
use Rattle.exported.proofs.calls_of.compare_of.Goals as goal

pub returns-in_err-answer : goal.returns-in_err-answer
returns-in_err-answer c =
    let M = foot_meaning c.args.bytes.now in
    let value = took_too foot_group _ M c.new.ensures c.new-comparer.result.desk c.new-comparer.ensures.value in
    let p = err_from_is_err_and c.from_residual.result c.from_residual.ensures.1 in
    rw (p.1, p.2) (compare_refused foot_group M c.new-comparer.result value c.args.one.now c.args.two.now (length c.args.input.now) c.compare.new.out c.args.rows.now c.compare.result c.compare.ensures.without
    c.compare.ensures.fault c.args.rows.now c.in_err-answer.field-0.0 c.in_err-answer.was)

pub returns-in_err-length : goal.returns-in_err-length
returns-in_err-length c =
    let M = foot_meaning c.args.bytes.now in
    let value = took_too foot_group _ M c.new.ensures c.new-comparer.result.desk c.new-comparer.ensures.value in
    let p = err_from_is_err_and c.from_residual-in_err-length.result c.from_residual-in_err-length.ensures.1 in
    rw (p.1, p.2) (copy_refused foot_group M c.new-comparer.result value c.args.one.now c.args.two.now (length c.args.input.now) c.compare.new.out c.args.rows.now c.compare.result c.compare.ensures.without
    c.compare.new.self c.in_ok-answer.answer c.in_ok-answer.was c.compare.ensures.lawful c.new-comparer.ensures.begins c.copy_rows.result c.copy_rows.ensures.over c.copy_rows.new.out c.in_err-length.field-0.0 c.in_err-length.was)

pub returns : goal.returns
returns c =
    let M = foot_meaning c.args.bytes.now in
    let value = took_too foot_group _ M c.new.ensures c.new-comparer.result.desk c.new-comparer.ensures.value in
    answered_rows foot_group M c.new-comparer.result value c.args.one.now c.args.two.now (length c.args.input.now) c.compare.new.out c.args.rows.now c.compare.result c.compare.ensures.without
    c.compare.new.self c.in_ok-answer.answer c.in_ok-answer.was c.compare.ensures.lawful c.new-comparer.ensures.begins c.copy_rows.result c.copy_rows.ensures.over c.in_ok-length.length c.copy_rows.new.out c.in_ok-length.was c.copy_rows.ensures.out
