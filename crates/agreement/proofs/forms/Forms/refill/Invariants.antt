use Rattle.agreement.specs.Forms.{puts}
use Rattle.agreement.proofs.Untouched.{PassedTo}
use Rattle.agreement.proofs.forms.Forms.refill.Given as goal

abbrev pub invariant-loop-form : goal.invariant-loop-form
invariant-loop-form g l = PassedTo g.T.Tally.group l.symbol (puts g.T.Tally.group l.by) l.initial.form-items l.form-items l.form-index
