use Rattle.std.proofs.Common.{◌≡◌, ◌<◌, ◌∙◌, sym, ap, length, rules, arith}
use borrow.Author.Tests.{tests}
use Rattle.std.proofs.lemmas.Iterator.{YieldsList-from_slice}
use Rattle.std.proofs.lemmas.Iterator.Search.{position_from_yields_List}
use Rattle.std.proofs.lemmas.Result.{Ok-from_Ok_iff}
use Rattle.std.specs.List.{position}
use Rattle.std.specs.Result.{result_ok}
use Rattle.asking.specs.Spelling.{is}
use Rattle.asking.proofs.spelling.symbol_of_name.Goals as goal

pub returns-in_err-at : goal.returns-in_err-at
returns-in_err-at c = λ few.
    let found : c.position.result ≡ position (is c.args.name) c.args.names.now = position_from_yields_List (is c.args.name) _ _ c.position.result c.position.ensures.ran (YieldsList-from_slice c.args.names.now (cc)) (λ x b q k. search (rules, tests)) in
    c.from_residual.ensures ∙ sym c.in_err-at.was ∙ found

pub returns : goal.returns
returns c = λ few.
    let found : c.position.result ≡ position (is c.args.name) c.args.names.now = position_from_yields_List (is c.args.name) _ _ c.position.result c.position.ensures.ran (YieldsList-from_slice c.args.names.now (cc)) (λ x b q k. search (rules, tests)) in
    let at = c.in_ok-at.at in
    let bound : at < length c.iter.result.rest.now = c.in_ok-at.ensures.bound in
    let small : at < 256 = omega (arith, ap length c.iter.ensures.rest) in
    c.ok.ensures.value ∙ ap result_ok (Ok-from_Ok_iff c.try_from.result (at < 256) at c.try_from.ensures small) ∙ sym c.in_ok-at.was ∙ found
