use Rattle.std.proofs.Common.{◌-◌, ◌≤◌}
use Rattle.format.specs.Lent.{Wrote}
use Rattle.sheet.specs.Rowed.{shown}
use Rattle.calls.proofs.Sections.{section}
use Rattle.calls.proofs.copying.rows_into.Given as goal

abbrev pub invariant-loop-symbol : goal.invariant-loop-symbol
invariant-loop-symbol l = (l.from ≤ 32) × Wrote l.fn.out l.fn.start (section (shown l.fn.rows) l.from) l.at l.out

abbrev pub decreases-loop-symbol : goal.decreases-loop-symbol
decreases-loop-symbol l = 32 - l.from
