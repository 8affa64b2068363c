use Rattle.std.proofs.Common.{◌≡◌, ◌≤◌, length, drop, vec_items}
use Rattle.asking.specs.Spelling.{spelled_from}
use Rattle.asking.proofs.Written.{before}
use Rattle.asking.proofs.spelling.spell.Given as goal

abbrev pub invariant-loop-place : goal.invariant-loop-place
invariant-loop-place l = length l.names ≤ 32 → spelled_from 0 l.names l.name-items ≡ before (vec_items l.word) (spelled_from l.place l.names (drop l.place l.name-items))
