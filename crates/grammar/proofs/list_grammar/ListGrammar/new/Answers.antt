use Rattle.std.proofs.Common.{vec_items}
use Rattle.grammar.proofs.Finds.{list_law}
use Rattle.grammar.proofs.list_grammar.ListGrammar.new.Goals as goal

pub returns-clause-law : goal.returns-clause-law
returns-clause-law g c = list_law c.args.count (vec_items c.args.records)
