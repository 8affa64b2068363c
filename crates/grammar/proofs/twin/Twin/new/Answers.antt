use Rattle.grammar.proofs.Twins.{twin_law}
use Rattle.grammar.proofs.twin.Twin.new.Goals as goal

pub returns-clause-law : goal.returns-clause-law
returns-clause-law g c =
    twin_law g.G.T.Tally.group (g.G.Grammar.meaning c.args.first) (g.H.Grammar.meaning c.args.second) (g.H.Grammar.wellformed c.args.second)
