use Rattle.std.proofs.Common.{arith}
use Rattle.sheet.specs.Rowed.{shown}
use Rattle.calls.proofs.Sections.{copy_written}
use Rattle.calls.proofs.copying.copy_into.Goals as goal

pub returns-clause-value : goal.returns-clause-value
returns-clause-value c = λ fits. (copy_written (shown c.args.rows) (omega arith) c.rows_into.ensures fits).0

pub returns-clause-out : goal.returns-clause-out
returns-clause-out c = λ fits. (copy_written (shown c.args.rows) (omega arith) c.rows_into.ensures fits).1
