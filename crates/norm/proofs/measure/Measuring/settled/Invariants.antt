use Rattle.std.proofs.Common.{◌≡◌, sum}
use Rattle.norm.specs.Measurings.{IsReached}
use Rattle.norm.proofs.measure.Measuring.settled.Given as goal

abbrev pub invariant-loop : goal.invariant-loop
invariant-loop l = (l.measuring.words.now ≡ l.fn.words) × IsReached l.measuring

abbrev pub decreases-loop : goal.decreases-loop
decreases-loop l = sum l.measuring.measures
