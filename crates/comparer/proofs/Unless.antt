-- What a check says of its fault. Assumes nothing.
use Rattle.std.proofs.Common.{◌≡◌, Some, None, Option, Ok, Err, refl, sym, ap}
use Rattle.layout.proofs.Steps.{ok_err, err_same}
use Rattle.calls.specs.Refusals.{unless}
use Rattle.calls.specs.declared.fault.CallFault.{CallFault}

-- what is not refused has no fault, and what is refused has that one
pub no_fault : (o : Option CallFault) {u : Unit {0}} → unless o ≡ Ok u → o ≡ None
no_fault None e = refl
no_fault (Some f) e = absurd (ok_err (sym e))

pub a_fault : (o : Option CallFault) {f : CallFault} → unless o ≡ Err f → o ≡ Some f
a_fault None e = absurd (ok_err e)
a_fault (Some f) e = ap {B = Option CallFault} Some (err_same e)
