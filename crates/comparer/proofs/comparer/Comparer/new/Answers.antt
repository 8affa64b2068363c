use Rattle.calls.specs.Histories.{new}
use Rattle.calls.proofs.Histories.{histories_law}
use Rattle.comparer.proofs.comparer.Comparer.new.Goals.{in-Ok, in-Err}
use Rattle.comparer.proofs.comparer.Comparer.new.Goals as goal

pub returns-clause-value : goal.returns-clause-value
returns-clause-value g c = elim c.match-survey.branch [
  | in-Ok w ↦ rw (w.desk-is) w.in-Ok.ensures.value
  | in-Err w ↦ rw (w.desk-is) (w.in-Err.ensures.value, w.count.ensures)
]

pub returns-clause-begins : goal.returns-clause-begins
returns-clause-begins g c = λ s o. new _ (λ A. c.empty-sheet.ensures A)

pub returns-clause-law : goal.returns-clause-law
returns-clause-law g c = λ norm first A N es V h. histories_law g.T.Tally.group (g.G.Grammar.meaning c.args.g.now) norm first (g.G.Grammar.wellformed c.args.g.now) A N es V h
