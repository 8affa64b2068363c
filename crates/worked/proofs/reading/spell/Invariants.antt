use Rattle.std.proofs.Common.{◌≡◌, [], drop, vec_items}
use Rattle.worked.specs.Reading.{spelled}
use Rattle.worked.proofs.reading.spell.Given as goal

abbrev pub invariant-loop-name : goal.invariant-loop-name
invariant-loop-name l = spelled [] l.names ≡ spelled (vec_items l.word) (drop l.name-index l.names)
