use Rattle.rows.proofs.Example.{examples}
use Rattle.rows.proofs.Standing.{rows_law}
use Rattle.rows.proofs.rows_stand.Goals as goal

pub returns : goal.returns
returns g c = record { law = λ M norm F p. rows_law g.T.Tally.group M norm F p; examples = λ x y z. examples g.T.Tally.group x y z }
