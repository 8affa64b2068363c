use Rattle.std.proofs.Common.{◌<◌, ◌-◌}
use Rattle.sheet.specs.Rowed.{shown}
use Rattle.survey.specs.Surveyed.{surveyed, norm_in, first_in}
use Rattle.calls.specs.Offers.{AllOf, Passes}
use Rattle.calls.proofs.BySymbol.{AllBelow}
use Rattle.calls.proofs.offering.check_rows.Given as goal

abbrev pub invariant-loop-symbol : goal.invariant-loop-symbol
invariant-loop-symbol g l = AllOf (λ A w. A < l.fn.survey.skeleton.words.count) (shown l.fn.offered) →
    AllBelow (Passes g.T.Tally.group (surveyed l.fn.survey) (norm_in l.fn.survey) (first_in l.fn.survey) (shown l.fn.rows) l.fn.test) (shown l.fn.offered) l.from

abbrev pub decreases-loop-symbol : goal.decreases-loop-symbol
decreases-loop-symbol g l = 32 - l.from
