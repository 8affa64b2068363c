use Rattle.std.proofs.Common.{◌≤◌, length}
use Rattle.grammar.specs.WordStacks.{held}
use Rattle.sheet.specs.Rowed.{shown}
use Rattle.walk.proofs.Walking.{Able, Walking}
use Rattle.walk.proofs.blaming.blamed.Given as goal

abbrev pub invariant-loop : goal.invariant-loop
invariant-loop g l =
    (length l.rest ≤ length l.input)
    × (Able g.T.Tally.group l.survey (shown l.rows) l.work l.word l.input → Walking g.T.Tally.group l.survey (shown l.rows) l.word l.input (held l.left) l.rest l.counter)
