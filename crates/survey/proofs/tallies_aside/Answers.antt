use Rattle.survey.proofs.Bare.{bare_law}
use Rattle.survey.proofs.tallies_aside.Goals as goal

pub returns : goal.returns
returns g c = λ n v M. bare_law n v g.T.Tally.group M
