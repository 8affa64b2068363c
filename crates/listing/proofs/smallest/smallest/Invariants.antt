use Rattle.std.proofs.Common.{◌<◌}
use Rattle.survey.specs.Surveyed.{surveyed}
use Rattle.survey.specs.declared.table.Survey.{Survey}
use Rattle.listing.specs.Found.{Led, Found}
use Rattle.listing.proofs.Alike.{NoneBelow}
use Rattle.listing.proofs.smallest.smallest.Given as goal

abbrev pub invariant-loop-other : goal.invariant-loop-other
invariant-loop-other g l =
    (s : Survey _) → Led g.T.Tally.group s l.fn.comparer → l.symbol < s.skeleton.words.count → Found g.T.Tally.group (surveyed s) l.symbol l.found →
    Led g.T.Tally.group s l.comparer × NoneBelow g.T.Tally.group (surveyed s) l.symbol l.other
