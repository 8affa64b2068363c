use Rattle.std.proofs.Common.{◌-◌}
use Rattle.rows.specs.Sheets.{Ranked}
use Rattle.sheet.specs.Rowed.{shown}
use Rattle.survey.specs.Surveyed.{norm_in}
use Rattle.agreement.specs.Works.{Works}
use Rattle.agreement.proofs.Cutting.{over_cut}
use Rattle.agreement.proofs.workspace.Workspace.new.Given as goal

abbrev pub invariant-loop-symbol : goal.invariant-loop-symbol
invariant-loop-symbol g l = Ranked l.survey.skeleton.words.count (norm_in l.survey) (shown l.fn.rows) → Works g.T.Tally.group (over_cut g.T.Tally.group l.survey (shown l.fn.rows) l.from) l.work

abbrev pub decreases-loop-symbol : goal.decreases-loop-symbol
decreases-loop-symbol g l = 32 - l.from
