use Rattle.rows.specs.Sheets.{View}
use Rattle.sheet.specs.Rowed.{shown}
use Rattle.survey.specs.Surveyed.{surveyed}
use Rattle.agreement.specs.Agreeing.{Ready}
use Rattle.witness.specs.History.{Given}
use Rattle.walk.specs.Inputs.{letters}
use Rattle.comparison.specs.Trails.{Traced}
use Rattle.comparison.proofs.Leading.{Leading}
use Rattle.comparison.proofs.deciding.trace.Given as goal

abbrev pub invariant-loop-source : goal.invariant-loop-source
invariant-loop-source g l =
    Given (surveyed l.survey) l.fn.comparison.words.one.now → Given (surveyed l.survey) l.fn.comparison.words.two.now → Ready g.T.Tally.group l.survey (shown l.rows) l.fn.work → (V : View) →
    Traced g.T.Tally.group l.survey l.fn.comparison.words.one.now l.fn.comparison.words.two.now V l.rows.rows.now l.fn.comparison.sources.list (shown l.rows) l.fn.comparison.sources.len l.fn.origin →
    Leading g.T.Tally.group l.survey l.fn.comparison.words.one.now l.fn.comparison.words.two.now V l.rows.rows.now l.comparison.sources.list l.comparison.sources.len l.lead (letters l.found)

abbrev pub decreases-loop-source : goal.decreases-loop-source
decreases-loop-source g l = l.comparison.sources.len
