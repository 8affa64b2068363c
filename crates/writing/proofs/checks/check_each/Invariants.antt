use Rattle.std.proofs.Common.{◌≡◌, []}
use Rattle.writing.specs.Files.{bad_name}
use Rattle.writing.proofs.CheckedNames.{bad_from}
use Rattle.writing.proofs.checks.check_each.Given as goal

abbrev pub invariant-loop-at : goal.invariant-loop-at
invariant-loop-at l = bad_name 1 [] l.names ≡ bad_from l.names l.at
