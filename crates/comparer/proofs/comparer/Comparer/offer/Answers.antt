use Rattle.std.proofs.Common.{Ok, Err, refl}
use Rattle.std.proofs.lemmas.Result.{err_from_is_err_and}
use Rattle.sheet.specs.Rowed.{shown, shows}
use Rattle.comparer.specs.Comparers.{rows_of, after_offer}
use Rattle.comparer.proofs.Trials.{offer_read, malformed_offer, offer_lawful}
use Rattle.comparer.proofs.comparer.Comparer.offer.Goals as goal

pub returns-in_err-offered-clause-over : goal.returns-in_err-offered-clause-over
returns-in_err-offered-clause-over g c = λ s over ranked.
    let p = err_from_is_err_and c.from_residual.result c.from_residual.ensures.1 in
    rw (p.1, p.2) (malformed_offer g.T.Tally.group s (rows_of c.args.self.now) c.args.bytes.now c.count.result c.in_err-offered.field-0.0 (c.count.ensures.over s over) c.in_err-offered.ensures.value)

pub returns-in_err-offered-clause-lawful : goal.returns-in_err-offered-clause-lawful
returns-in_err-offered-clause-lawful g c =
    offer_lawful g.T.Tally.group c.args.self.now c.args.self.now c.args.bytes.now c.from_residual.result refl (returns-in_err-offered-clause-over g c)

pub returns-in_err-trial-clause-over : goal.returns-in_err-trial-clause-over
returns-in_err-trial-clause-over g c = λ s over ranked.
    let V = rows_of c.args.self.now in
    let bs = c.args.bytes.now in
    let p = err_from_is_err_and c.from_residual-in_err-trial.result c.from_residual-in_err-trial.ensures.1 in
    rw (p.1, p.2) (offer_read s bs c.count.result (c.count.ensures.over s over) c.in_ok-offered.offered c.in_ok-offered.ensures.value (shown c.view.result) c.view.ensures.view
    (after_offer g.T.Tally.group s V bs (Err c.in_err-trial.field-0.0) V) (λ rs read same. c.in_err-trial.ensures.over s bs rs over read same ranked))

pub returns-in_err-trial-clause-lawful : goal.returns-in_err-trial-clause-lawful
returns-in_err-trial-clause-lawful g c =
    offer_lawful g.T.Tally.group c.args.self.now c.args.self.now c.args.bytes.now c.from_residual-in_err-trial.result refl (returns-in_err-trial-clause-over g c)

pub returns-clause-over : goal.returns-clause-over
returns-clause-over g c = λ s over ranked.
    let bs = c.args.bytes.now in
    offer_read s bs c.count.result (c.count.ensures.over s over) c.in_ok-offered.offered c.in_ok-offered.ensures.value (shown c.view.result) c.view.ensures.view
    (after_offer g.T.Tally.group s (rows_of c.args.self.now) bs (Ok tt) (shows c.in_ok-trial.trial)) (λ rs read same. c.in_ok-trial.ensures.over s bs rs over read same ranked)

pub returns-clause-lawful : goal.returns-clause-lawful
returns-clause-lawful g c =
    offer_lawful g.T.Tally.group c.args.self.now (record { desk = c.args.self.now.desk; sheet = c.in_ok-trial.trial }) c.args.bytes.now (Ok tt) refl (returns-clause-over g c)
