use Rattle.sheet.specs.Rowed.{shown}
use Rattle.comparer.proofs.Trials.{trial_over}
use Rattle.comparer.proofs.comparer.Comparer.trial.Goals as goal

pub returns-clause-over : goal.returns-clause-over
returns-clause-over g c = λ s bs rs over is same ranked.
    trial_over g.T.Tally.group c.args.self.now c.in_ok-desk.desk.now c.in_ok-desk.ensures (shown c.view.result) (shown c.args.offered) c.view.ensures.view bs rs c.with_offered.result (c.with_offered.ensures bs rs) s over is same ranked
