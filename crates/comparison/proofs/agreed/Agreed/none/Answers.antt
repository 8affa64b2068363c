use Rattle.std.proofs.lemmas.List.{get_or-replicate}
use Rattle.comparison.proofs.agreed.Agreed.none.Goals as goal

pub returns : goal.returns
returns c = λ A l. get_or-replicate 32 A 65 0 l
