use Rattle.std.proofs.Common.{◌≡◌, ◌≤◌, List, length}
use Rattle.layout.specs.Contents.{FileRule}
use Rattle.file_grammar.specs.Placed.{RulesOf}
use Rattle.file_grammar.proofs.Placing.{Passed}
use Rattle.file_grammar.proofs.fill.placed.Given as goal

abbrev pub invariant-loop-left : goal.invariant-loop-left
invariant-loop-left l = (length l.places ≡ 832) × ((rs : List FileRule) → l.kinds ≤ 2 → RulesOf l.kinds l.bytes rs → Passed l.kinds l.bytes rs l.left l.place l.places)

abbrev pub decreases-loop-left : goal.decreases-loop-left
decreases-loop-left l = length l.left
