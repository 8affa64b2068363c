use Rattle.std.proofs.Common.{◌≡◌, ◌∙◌, sym, rules}
use borrow.Author.Tests.{tests}
use Rattle.std.proofs.lemmas.Iterator.{YieldsList-from_slice}
use Rattle.std.proofs.lemmas.Iterator.Search.{position_from_yields_List}
use Rattle.std.specs.List.{position}
use Rattle.worked.specs.Reading.{is, names}
use Rattle.worked.proofs.reading.symbol_of.Goals as goal

pub returns-in_err-at : goal.returns-in_err-at
returns-in_err-at c =
    let found : c.position.result ≡ position (is c.args.name) names = position_from_yields_List (is c.args.name) _ _ c.position.result c.position.ensures.ran (YieldsList-from_slice names (cc)) (λ x b q k. search (rules, tests)) in
    c.from_residual.ensures ∙ sym c.in_err-at.was ∙ found
