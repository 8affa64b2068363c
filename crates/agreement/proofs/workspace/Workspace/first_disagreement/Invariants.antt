use Rattle.std.proofs.Common.{◌≡◌, ◌-◌, None}
use Rattle.sheet.specs.Rowed.{shown}
use Rattle.survey.specs.Surveyed.{surveyed}
use Rattle.agreement.specs.Works.{rows_over}
use Rattle.agreement.specs.Agreeing.{Ready}
use Rattle.agreement.proofs.FirstWrong.{AgreeBelow, AgreesBefore}
use Rattle.agreement.proofs.workspace.Workspace.first_disagreement.Given as goal

abbrev pub invariant-rows : goal.invariant-rows
invariant-rows g l = (l.found ≡ None) × (Ready g.T.Tally.group l.survey (shown l.rows) l.self → AgreeBelow g.T.Tally.group (surveyed l.survey) (rows_over g.T.Tally.group l.survey (shown l.rows)) l.from)

abbrev pub invariant-loop-letter : goal.invariant-loop-letter
invariant-loop-letter g l = (l.found ≡ None) × (Ready g.T.Tally.group l.survey (shown l.rows) l.self → AgreesBefore g.T.Tally.group (surveyed l.survey) (rows_over g.T.Tally.group l.survey (shown l.rows)) l.symbol l.letter)

abbrev pub decreases-rows : goal.decreases-rows
decreases-rows g l = 32 - l.from
