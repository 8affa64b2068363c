use Rattle.std.proofs.Common.{refl, sym, ◌∙◌}
use Rattle.std.proofs.lemmas.Result.{err_from_is_err_and}
use Rattle.sheet.specs.Rowed.{shown}
use Rattle.calls.specs.Histories.{copy_refused}
use Rattle.comparer.proofs.Lawfulness.{same_desk, lawful}
use Rattle.comparer.proofs.CopySizes.{written, written_answer, written_step}
use Rattle.comparer.proofs.Unless.{no_fault, a_fault}
use Rattle.comparer.proofs.comparer.Comparer.copy_rows.Goals as goal

pub returns-in_err-check_copy-clause-lawful : goal.returns-in_err-check_copy-clause-lawful
returns-in_err-check_copy-clause-lawful g c =
    let me = c.args.self.now in
    let p = err_from_is_err_and c.from_residual-in_err-check_copy.result c.from_residual-in_err-check_copy.ensures.1 in
    rw (p.1, p.2) (lawful g.T.Tally.group me me _ (same_desk me me refl)
    (λ s over stands. copy_refused _ _ _ (a_fault _ (sym c.check_copy.ensures ∙ c.in_err-check_copy.was)) (λ A. refl)))

pub returns-clause-over : goal.returns-clause-over
returns-clause-over g c = λ s over ranked.
    let fits = no_fault _ (sym c.check_copy.ensures ∙ c.in_ok-check_copy.was) in
    written_answer g.T.Tally.group c.args.self.now (shown c.view.result) c.args.out.now c.copy_into.new.out c.copy_into.result s
    (written g.T.Tally.group c.args.self.now (shown c.view.result) c.args.out.now c.copy_into.new.out c.copy_into.result s c.view.ensures.view fits c.copy_into.ensures.value c.copy_into.ensures.out over ranked)

pub returns-clause-out : goal.returns-clause-out
returns-clause-out g c = λ s over ranked told.
    let fits = no_fault _ (sym c.check_copy.ensures ∙ c.in_ok-check_copy.was) in
    (written g.T.Tally.group c.args.self.now (shown c.view.result) c.args.out.now c.copy_into.new.out c.copy_into.result s c.view.ensures.view fits c.copy_into.ensures.value c.copy_into.ensures.out over ranked).rest

pub returns-clause-lawful : goal.returns-clause-lawful
returns-clause-lawful g c =
    let me = c.args.self.now in
    let fits = no_fault _ (sym c.check_copy.ensures ∙ c.in_ok-check_copy.was) in
    lawful g.T.Tally.group me me _ (same_desk me me refl)
    (λ s over stands.
    written_step g.T.Tally.group me (shown c.view.result) c.args.out.now c.copy_into.new.out c.copy_into.result s
    (written g.T.Tally.group me (shown c.view.result) c.args.out.now c.copy_into.new.out c.copy_into.result s c.view.ensures.view fits c.copy_into.ensures.value c.copy_into.ensures.out over stands.ranked))
