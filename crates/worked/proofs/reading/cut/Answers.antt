use Rattle.std.proofs.Common.{◌≡◌, ℕ, ◌+◌, ◌-◌, List, length, take, drop, Some, Option, ap, ◌∙◌, sym, rules, arith, take_all, length-drop}
use borrow.Author.Tests.{tests}
use Rattle.std.proofs.lemmas.Iterator.{YieldsList-from_slice}
use Rattle.std.proofs.lemmas.Iterator.Search.{position_from_yields_List}
use Rattle.std.specs.List.{position}
use Rattle.std.specs.Option.{option_map}
use Rattle.worked.specs.Reading.{is, pair_now}
use Rattle.worked.proofs.reading.cut.Goals as goal

pub returns-in_err-at : goal.returns-in_err-at
returns-in_err-at c =
    let bs = c.args.bytes.now in
    let found : c.position.result ≡ position (is c.args.byte) bs = position_from_yields_List (is c.args.byte) _ _ c.position.result c.position.ensures.ran (YieldsList-from_slice bs (cc)) (λ x b q k. search (rules, tests)) in
    ap (option_map pair_now) c.from_residual.ensures ∙ ap (option_map {U = List ℕ × List ℕ} (λ i. (take i bs, drop (i + 1) bs))) (sym c.in_err-at.was ∙ found)

pub returns : goal.returns
returns c =
    let bs = c.args.bytes.now in
    let found : c.position.result ≡ position (is c.args.byte) bs = position_from_yields_List (is c.args.byte) _ _ c.position.result c.position.ensures.ran (YieldsList-from_slice bs (cc)) (λ x b q k. search (rules, tests)) in
    let i = c.in_ok-at.at in
    let rest : take (length bs - (i + 1)) (drop (i + 1) bs) ≡ drop (i + 1) bs = let e = length-drop (i + 1) bs in take_all (length bs - (i + 1)) (drop (i + 1) bs) (omega arith) in
    ap {B = Option (List ℕ × List ℕ)} (λ x. Some (take i bs, x)) rest ∙ ap (option_map {U = List ℕ × List ℕ} (λ i. (take i bs, drop (i + 1) bs))) (sym c.in_ok-at.was ∙ found)
