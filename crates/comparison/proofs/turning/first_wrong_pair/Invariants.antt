use Rattle.std.proofs.Common.{◌-◌}
use Rattle.sheet.specs.Rowed.{shown}
use Rattle.survey.specs.Surveyed.{surveyed, norm_in, first_in}
use Rattle.agreement.specs.Works.{rows_over}
use Rattle.agreement.specs.Agreeing.{Ready}
use Rattle.comparison.specs.Agreed.{Kept}
use Rattle.comparison.proofs.Turns.{AllBelow}
use Rattle.comparison.proofs.turning.first_wrong_pair.Given as goal

abbrev pub invariant-loop-symbol : goal.invariant-loop-symbol
invariant-loop-symbol g l =
    Ready g.T.Tally.group l.survey (shown l.fn.rows) l.work →
    Kept g.T.Tally.group (surveyed l.survey) (norm_in l.survey) (first_in l.survey) (rows_over g.T.Tally.group l.survey (shown l.fn.rows)) l.fn.agreed →
    Kept g.T.Tally.group (surveyed l.survey) (norm_in l.survey) (first_in l.survey) (rows_over g.T.Tally.group l.survey (shown l.fn.rows)) l.agreed
    × AllBelow g.T.Tally.group (surveyed l.survey) (norm_in l.survey) (first_in l.survey) (rows_over g.T.Tally.group l.survey (shown l.fn.rows)) l.from

abbrev pub decreases-loop-symbol : goal.decreases-loop-symbol
decreases-loop-symbol g l = 32 - l.from
