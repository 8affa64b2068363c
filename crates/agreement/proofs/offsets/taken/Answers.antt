use Rattle.agreement.proofs.ShortRuns.{run_ends, run_stuck}
use Rattle.survey.specs.Surveyed.{surveyed}
use Rattle.agreement.proofs.offsets.taken.Goals as goal

pub returns-in_err-run : goal.returns-in_err-run
returns-in_err-run g c = λ l. run_stuck g.T.Tally.group (surveyed c.args.survey.now) c.args.word.now c.args.input.now c.run.result (c.run.ensures l) c.in_err-run.was _ c.from_residual.ensures

pub returns : goal.returns
returns g c = λ l. run_ends g.T.Tally.group (surveyed c.args.survey.now) c.args.word.now c.args.input.now c.run.result c.in_ok-run.run' (c.run.ensures l) c.in_ok-run.was _ c.len.result c.len.ensures.value c.then_some.ensures
