-- What the procedure decides is what the call answers, since words and a buffer that are not refused are as the procedure wants them.
use Rattle.std.proofs.Common.{refl, sym, ap, ◌∙◌, length, drop}
use Rattle.std.proofs.lemmas.List.{length-take-le, take_at}
use Rattle.std.proofs.lemmas.Result.{err_from_is_err_and}
use Rattle.sheet.specs.Rowed.{shows}
use Rattle.walk.specs.Inputs.{letters}
use Rattle.comparer.proofs.Comparisons.{not_refused, found_fits, refused_exactly, refused_lawful, says_same, says_different, same_lawful, different_lawful}
use Rattle.comparer.proofs.comparer.Comparer.compare.Goals as goal

pub returns-in_err-check_compare-clause-fault : goal.returns-in_err-check_compare-clause-fault
returns-in_err-check_compare-clause-fault g c =
    let p = err_from_is_err_and c.from_residual.result c.from_residual.ensures.1 in
    rw (p.1, p.2) (refused_exactly g.T.Tally.group c.args.self.now _ c.in-Ok.is c.args.one.now c.args.two.now (length c.args.out.now) _ c.count.ensures _ c.check_compare.ensures _ c.in_err-check_compare.was)

pub returns-in_err-check_compare-clause-lawful : goal.returns-in_err-check_compare-clause-lawful
returns-in_err-check_compare-clause-lawful g c =
    let p = err_from_is_err_and c.from_residual.result c.from_residual.ensures.1 in
    rw (p.1, p.2) (refused_lawful g.T.Tally.group c.args.self.now _ c.in-Ok.is c.args.one.now c.args.two.now (length c.args.out.now) _ c.count.ensures _ c.check_compare.ensures _ c.in_err-check_compare.was)

-- the input that is found fits the buffer
pub slice_bounds-copy_from_slice-end : goal.slice_bounds-copy_from_slice-end
slice_bounds-copy_from_slice-end g c = found_fits g.T.Tally.group c.args.self.now _ c.in-Ok.is c.args.one.now c.args.two.now (length c.args.out.now) _ c.count.ensures _ c.check_compare.ensures c.in_ok-check_compare.was c.decide.new.found _ c.as_slice-input.ensures

pub slice_bounds-copy_from_slice-end-in-Different : goal.slice_bounds-copy_from_slice-end-in-Different
slice_bounds-copy_from_slice-end-in-Different g c =
    let fits = found_fits g.T.Tally.group c.args.self.now _ c.in-Ok.is c.args.one.now c.args.two.now (length c.args.out.now) _ c.count.ensures _ c.check_compare.ensures c.in_ok-check_compare.was c.decide.new.found _ c.as_slice-input.ensures in
    sym (length-take-le (length c.as_slice-input.result.now) c.args.out.now fits)

pub copy_from_slice-requires : goal.copy_from_slice-requires
copy_from_slice-requires g c =
    let fits = found_fits g.T.Tally.group c.args.self.now _ c.in-Ok.is c.args.one.now c.args.two.now (length c.args.out.now) _ c.count.ensures _ c.check_compare.ensures c.in_ok-check_compare.was c.decide.new.found _ c.as_slice-input.ensures in
    length-take-le (length c.as_slice-input.result.now) c.args.out.now fits

pub returns-in-Same-clause-same : goal.returns-in-Same-clause-same
returns-in-Same-clause-same g c = λ s over ranked e.
    let a = not_refused g.T.Tally.group c.args.self.now _ c.in-Ok.is c.args.one.now c.args.two.now (length c.args.out.now) _ c.count.ensures _ c.check_compare.ensures c.in_ok-check_compare.was in
    says_same g.T.Tally.group c.args.self.now _ c.in-Ok.is c.args.one.now c.args.two.now (length c.args.out.now) (shows c.decide.new.sheet) (λ ranked. (c.in-Same.ensures.same ranked a.one a.two refl).says) s over ranked

pub returns-in-Same-clause-lawful : goal.returns-in-Same-clause-lawful
returns-in-Same-clause-lawful g c =
    let a = not_refused g.T.Tally.group c.args.self.now _ c.in-Ok.is c.args.one.now c.args.two.now (length c.args.out.now) _ c.count.ensures _ c.check_compare.ensures c.in_ok-check_compare.was in
    same_lawful g.T.Tally.group c.args.self.now _ c.in-Ok.is c.args.one.now c.args.two.now (length c.args.out.now) _ _ refl refl a (λ ranked. (c.in-Same.ensures.same ranked a.one a.two refl).says)

pub returns-in-Different-clause-different : goal.returns-in-Different-clause-different
returns-in-Different-clause-different g c = λ s over ranked n e.
    let a = not_refused g.T.Tally.group c.args.self.now _ c.in-Ok.is c.args.one.now c.args.two.now (length c.args.out.now) _ c.count.ensures _ c.check_compare.ensures c.in_ok-check_compare.was in
    says_different g.T.Tally.group c.args.self.now _ c.in-Ok.is c.args.one.now c.args.two.now (length c.args.out.now) (shows c.decide.new.sheet) (λ ranked. (c.in-Different.ensures.found ranked a.one a.two refl, c.in-Different.ensures.view ranked a.one a.two refl)) s over ranked

pub returns-in-Different-clause-marks : goal.returns-in-Different-clause-marks
returns-in-Different-clause-marks g c = λ n e. c.in-Different.ensures.different refl

pub returns-in-Different-clause-lawful : goal.returns-in-Different-clause-lawful
returns-in-Different-clause-lawful g c =
    let a = not_refused g.T.Tally.group c.args.self.now _ c.in-Ok.is c.args.one.now c.args.two.now (length c.args.out.now) _ c.count.ensures _ c.check_compare.ensures c.in_ok-check_compare.was in
    let i = c.as_slice-input.result.now in
    let copied = c.copy_from_slice.ensures.after in
    let written = take_at c.copy_from_slice.new.self (drop (length i) c.args.out.now) (length i) (ap length copied) ∙ copied ∙ c.as_slice-input.ensures in
    different_lawful g.T.Tally.group c.args.self.now _ c.in-Ok.is c.args.one.now c.args.two.now (length c.args.out.now) _ _ refl refl a (letters c.decide.new.found) _ written
    (λ ranked. (c.in-Different.ensures.found ranked a.one a.two refl, c.in-Different.ensures.view ranked a.one a.two refl))
    (λ ranked proving. c.in-Different.ensures.right c.in-Ok.desk.some ranked proving a.one a.two)
