use Rattle.std.proofs.Common.{sym, ◌∙◌, rules, tests}
use Rattle.std.proofs.lemmas.Iterator.{YieldsList-from_slice}
use Rattle.std.proofs.lemmas.Iterator.Search.{find_from_yields_List}
use Rattle.grammar.specs.Listed.{hit}
use Rattle.grammar.proofs.Finds.{first_hit_found}
use Rattle.grammar.proofs.list_grammar.find.Goals as goal

pub returns : goal.returns
returns g c =
    let A = c.args.symbol in
    let a = c.args.letter in
    c.copied.ensures ∙ find_from_yields_List (hit A a) _ _ c.find.result c.find.ensures.ran (YieldsList-from_slice c.args.records.now cc) (λ x b q k. search (rules, tests))
    ∙ sym (first_hit_found A a c.args.records.now)
