use Rattle.std.proofs.Common.{Ok, Err, sym, ◌∙◌, rules}
use Rattle.layout.proofs.Steps.{ok_err, err_same}
use Rattle.stated.proofs.Answered.{as_stated}
use Rattle.stated.proofs.any.check_as.Goals as goal

pub returns-in-Ok : goal.returns-in-Ok
returns-in-Ok g c =
    let h = c.in-Ok.ensures.value in
    record { own = h; any = as_stated g.T.FileTally.kinds c.args.bytes.now (Ok c.in-Ok.file) h (λ e. ok_err (sym h.1 ∙ e)) }

pub returns-in-Err : goal.returns-in-Err
returns-in-Err g c =
    let h = c.in-Err.ensures.value in
    record { own = h; any = as_stated g.T.FileTally.kinds c.args.bytes.now (Err c.in-Err.fault) h (λ e. let d = err_same (sym h ∙ e) in search (rules, d)) }
