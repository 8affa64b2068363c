use Rattle.std.proofs.Common.{Ok}
use Rattle.std.proofs.lemmas.Result.{err_from_is_err_and}
use Rattle.comparer.proofs.RunValues.{ran_refused, ran_answered, ran_lawful}
use Rattle.comparer.proofs.comparer.Comparer.run.Goals as goal

pub returns-in_err-check_run-clause-over : goal.returns-in_err-check_run-clause-over
returns-in_err-check_run-clause-over g c =
    let p = err_from_is_err_and c.from_residual-in_err-check_run.result c.from_residual-in_err-check_run.ensures.1 in
    ran_refused g.T.Tally.group c.args.word.now c.args.input.now c.args.self.now c.in_ok-desk.desk.now c.count.result c.in_ok-desk.ensures c.count.ensures
    c.from_residual-in_err-check_run.result p.0 c.in_err-check_run.field-0.0 p.1 p.2 c.in_err-check_run.ensures

pub returns-in_err-check_run-clause-lawful : goal.returns-in_err-check_run-clause-lawful
returns-in_err-check_run-clause-lawful g c =
    ran_lawful g.T.Tally.group c.args.word.now c.args.input.now c.args.self.now c.from_residual-in_err-check_run.result (returns-in_err-check_run-clause-over g c)

pub returns-clause-over : goal.returns-clause-over
returns-clause-over g c =
    ran_answered g.T.Tally.group c.args.word.now c.args.input.now c.args.self.now c.in_ok-desk.desk.now c.count.result c.in_ok-desk.ensures c.count.ensures
    c.derive.result c.unwrap_or.result c.in_ok-check_run.ensures c.derive.ensures.value c.unwrap_or.ensures

pub returns-clause-lawful : goal.returns-clause-lawful
returns-clause-lawful g c = ran_lawful g.T.Tally.group c.args.word.now c.args.input.now c.args.self.now (Ok c.unwrap_or.result) (returns-clause-over g c)
