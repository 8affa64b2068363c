use Rattle.std.proofs.Common.{◌≡◌, ◌<◌, ◌≤◌, ℕ, Some}
use Rattle.grammar.specs.Meaning.{Weighted}
use Rattle.sheet.specs.Rowed.{shown}
use Rattle.survey.specs.Surveyed.{surveyed, norm_in, first_in}
use Rattle.agreement.specs.Works.{rows_over}
use Rattle.agreement.specs.Agreeing.{Ready}
use Rattle.comparison.specs.Turning.{TreatsRow}
use Rattle.comparison.specs.declared.treatment.Treatment.TheVariants.{Agree}
use Rattle.comparison.proofs.looking.first_wrong.Given as goal

abbrev pub invariant-loop-letter : goal.invariant-loop-letter
invariant-loop-letter g l =
    Ready g.T.Tally.group l.survey (shown l.rows) l.work → (m : Weighted g.row.T.Denot) → rows_over g.T.Tally.group l.survey (shown l.rows) l.symbol ≡ Some m →
    (b : ℕ) → l.fn.from ≤ b → b < l.letter → TreatsRow g.T.Tally.group (surveyed l.survey) (norm_in l.survey) (first_in l.survey) (rows_over g.T.Tally.group l.survey (shown l.rows)) l.symbol m b Agree
