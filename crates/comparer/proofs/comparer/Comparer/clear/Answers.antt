use Rattle.std.proofs.Common.{refl}
use Rattle.calls.specs.Histories.{cleared, clear_all}
use Rattle.comparer.specs.Comparers.{rows_of}
use Rattle.comparer.specs.declared.comparer.Comparer.{Comparer}
use Rattle.comparer.proofs.Lawfulness.{same_desk, lawful}
use Rattle.comparer.proofs.comparer.Comparer.clear.Goals as goal

pub returns-clause-lawful : goal.returns-clause-lawful
returns-clause-lawful g c =
    let old = c.args.self.now in
    let after : Comparer g.row.T.Denot = record { desk = old.desk; sheet = c.clear.new.self } in
    lawful g.T.Tally.group old after cleared (same_desk old after refl) (λ s o stands. clear_all (rows_of after) (λ A. c.clear.ensures.view A))
