use Rattle.std.proofs.Common.{◌≡◌, length, slice_index}
use Rattle.format.specs.Lent.{Wrote}
use Rattle.survey.specs.Surveyed.{surveyed, norm_in}
use Rattle.survey.specs.declared.table.Survey.{Survey}
use Rattle.listing.specs.Found.{Led, Found}
use Rattle.listing.specs.Texts.{symbol_line, lines}
use Rattle.listing.proofs.listing.lines_into.Given as goal

abbrev pub invariant-loop-symbol : goal.invariant-loop-symbol
invariant-loop-symbol g l = record {
  room : length l.found ≡ 32;
  told : (s : Survey _) → Led g.T.Tally.group s l.fn.comparer → length l.names ≡ s.skeleton.words.count →
      Led g.T.Tally.group s l.comparer × Found g.T.Tally.group (surveyed s) l.symbol l.found
      × Wrote l.fn.out 0 (lines (λ A. symbol_line l.names (norm_in s A) A (slice_index l.found A)) l.symbol) l.at l.out;
}
