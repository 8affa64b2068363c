use Rattle.std.proofs.lemmas.Result.{err_from_is_err_and}
use Rattle.rows.specs.Sheets.{SelfProving}
use Rattle.sheet.specs.Rowed.{shown, shows}
use Rattle.survey.specs.Surveyed.{surveyed}
use Rattle.agreement.specs.Works.{rows_over}
use Rattle.agreement.specs.Agreeing.{FirstWrong}
use Rattle.comparer.proofs.Trials.{known, not_free, not_like, not_taking, trial_told, not_agreeing, all_agreeing}
use Rattle.comparer.proofs.desk.Desk.with_offered.Goals as goal

pub returns-in_err-check_rows : goal.returns-in_err-check_rows
returns-in_err-check_rows g c = λ bs rs is same ranked.
    let 𝓣 = g.T.Tally.group in
    let s = c.args.self.now.survey in
    let V = shown c.args.rows in
    let U = shown c.args.offered in
    let p = err_from_is_err_and c.from_residual.result c.from_residual.ensures.1 in
    rw (p.1, p.2) (not_free 𝓣 s V U bs rs is same _ (c.in_err-check_rows.ensures (known 𝓣 s V U bs rs is same)))

pub returns-in_err-check_rows-2 : goal.returns-in_err-check_rows-2
returns-in_err-check_rows-2 g c = λ bs rs is same ranked.
    let 𝓣 = g.T.Tally.group in
    let s = c.args.self.now.survey in
    let V = shown c.args.rows in
    let U = shown c.args.offered in
    let below = known 𝓣 s V U bs rs is same in
    let p = err_from_is_err_and c.from_residual-in_err-check_rows-2.result c.from_residual-in_err-check_rows-2.ensures.1 in
    rw (p.1, p.2) (not_like 𝓣 s V U bs rs is same (c.in_ok-check_rows.ensures below) _ (c.in_err-check_rows-2.ensures below))

pub returns-in_err-check_rows-3 : goal.returns-in_err-check_rows-3
returns-in_err-check_rows-3 g c = λ bs rs is same ranked.
    let 𝓣 = g.T.Tally.group in
    let s = c.args.self.now.survey in
    let V = shown c.args.rows in
    let U = shown c.args.offered in
    let below = known 𝓣 s V U bs rs is same in
    let p = err_from_is_err_and c.from_residual-in_err-check_rows-3.result c.from_residual-in_err-check_rows-3.ensures.1 in
    rw (p.1, p.2) (not_taking 𝓣 s V U bs rs is same (c.in_ok-check_rows.ensures below) (c.in_ok-check_rows-2.ensures below) _ (c.in_err-check_rows-3.ensures below))

pub returns-in-Some : goal.returns-in-Some
returns-in-Some g c = λ bs rs is same ranked.
    let 𝓣 = g.T.Tally.group in
    let s = c.args.self.now.survey in
    let V = shown c.args.rows in
    let U = shown c.args.offered in
    let below = known 𝓣 s V U bs rs is same in
    let free = c.in_ok-check_rows.ensures below in
    let like = c.in_ok-check_rows-2.ensures below in
    let takes = c.in_ok-check_rows-3.ensures below in
    not_agreeing 𝓣 s V U bs rs is same free like takes ranked (shows c.adopt.new.self) c.adopt.ensures.view c.in-Some.at
    (trial_told 𝓣 s V U bs rs is same free like takes ranked (shows c.adopt.new.self) c.adopt.ensures.view c.new-work.result (shown c.view.result) (shown c.view-2.result) c.view.ensures.view c.view-2.ensures.view c.new-work.ensures
    (λ Z. FirstWrong 𝓣 (surveyed s) (rows_over 𝓣 s Z) c.in-Some.at.symbol c.in-Some.at.letter) c.in-Some.ensures.value)

pub returns-in-None : goal.returns-in-None
returns-in-None g c = λ bs rs is same ranked.
    let 𝓣 = g.T.Tally.group in
    let s = c.args.self.now.survey in
    let V = shown c.args.rows in
    let U = shown c.args.offered in
    let below = known 𝓣 s V U bs rs is same in
    let free = c.in_ok-check_rows.ensures below in
    let like = c.in_ok-check_rows-2.ensures below in
    let takes = c.in_ok-check_rows-3.ensures below in
    all_agreeing 𝓣 s V U bs rs is same free like takes ranked (shows c.adopt.new.self) c.adopt.ensures.view
    (trial_told 𝓣 s V U bs rs is same free like takes ranked (shows c.adopt.new.self) c.adopt.ensures.view c.new-work.result (shown c.view.result) (shown c.view-2.result) c.view.ensures.view c.view-2.ensures.view c.new-work.ensures
    (λ Z. SelfProving 𝓣 (surveyed s) (rows_over 𝓣 s Z)) c.in-None.ensures.value)
