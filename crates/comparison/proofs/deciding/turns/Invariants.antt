use Rattle.std.proofs.Common.{◌≡◌}
use Rattle.rows.specs.Sheets.{Ranked}
use Rattle.sheet.specs.Rowed.{shows}
use Rattle.survey.specs.Surveyed.{surveyed, norm_in}
use Rattle.witness.specs.History.{Given}
use Rattle.comparison.specs.Trails.{Stands}
use Rattle.comparison.proofs.deciding.turns.Given as goal

abbrev pub invariant-loop : goal.invariant-loop
invariant-loop g l =
    (l.guard.saved ≡ l.fn.guard.saved) × (l.guard.kept ≡ l.fn.guard.kept) × (l.guard.sheet.ghost_name ≡ l.fn.guard.sheet.ghost_name) × (l.comparison.words ≡ l.words) × (l.found ≡ l.fn.found)
    × (Ranked l.survey.skeleton.words.count (norm_in l.survey) (shows l.fn.guard.sheet.now) → Given (surveyed l.survey) l.words.one.now → Given (surveyed l.survey) l.words.two.now →
    Stands g.T.Tally.group l.survey l.words.one.now l.words.two.now l.fn.guard.sheet.now l.guard.sheet.now l.work l.comparison × (l.comparison.sources.len ≡ l.counter))
