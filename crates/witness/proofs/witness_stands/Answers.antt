use Rattle.witness.proofs.Bounds.{bounds}
use Rattle.witness.proofs.Example.{examples}
use Rattle.witness.proofs.Standing.{witnesses_law}
use Rattle.witness.proofs.witness_stands.Goals as goal

pub returns : goal.returns
returns g c = record { law = witnesses_law g.T.Tally.group; bound = bounds; examples = λ x y z. examples g.T.Tally.group x y z }
