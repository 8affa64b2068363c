use Rattle.calls.proofs.Example.{examples}
use Rattle.calls.proofs.Histories.{histories_law}
use Rattle.calls.proofs.OneOffer.{one_offer}
use Rattle.calls.proofs.histories_stand.Goals as goal

pub returns : goal.returns
returns g c = record { law = λ M norm first F A N es V h. histories_law g.T.Tally.group M norm first F A N es V h; one = λ M norm first V bs r q x y. one_offer g.T.Tally.group M norm first V bs r q x y; examples = λ x y z. examples g.T.Tally.group x y z }
