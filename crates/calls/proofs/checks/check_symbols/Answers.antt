use Rattle.std.proofs.Common.{◌≡◌, rules, ap, sym, ◌∙◌}
use borrow.Author.Tests.{tests}
use Rattle.std.proofs.lemmas.Iterator.{YieldsList-from_slice}
use Rattle.std.proofs.lemmas.Iterator.Search.{position_from_yields_List}
use Rattle.std.specs.Option.{option_map}
use Rattle.calls.specs.Refusals.{stray_from, unless}
use Rattle.calls.specs.declared.fault.CallFault.TheVariants.{StraySymbol}
use Rattle.calls.proofs.Straying.{stray, first_stray}
use Rattle.calls.proofs.checks.check_symbols.Goals as goal

pub returns-in-Some : goal.returns-in-Some
returns-in-Some c =
    let w = c.args.word.now in
    let n = c.args.count in
    let found : c.position.result ≡ stray_from 0 n w = position_from_yields_List (stray n) _ _ c.position.result c.position.ensures.ran (YieldsList-from_slice w (cc)) (λ x b q k. search (rules, tests)) ∙ first_stray n w in
    ap (λ o. unless (option_map (λ k. StraySymbol c.args.number k) o)) (sym c.in-Some.is ∙ found)

pub returns-in-None : goal.returns-in-None
returns-in-None c =
    let w = c.args.word.now in
    let n = c.args.count in
    let found : c.position.result ≡ stray_from 0 n w = position_from_yields_List (stray n) _ _ c.position.result c.position.ensures.ran (YieldsList-from_slice w (cc)) (λ x b q k. search (rules, tests)) ∙ first_stray n w in
    ap (λ o. unless (option_map (λ k. StraySymbol c.args.number k) o)) (sym c.in-None.is ∙ found)
