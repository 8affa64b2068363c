use Rattle.std.proofs.Common.{◌≡◌, suc, ◌+◌, ◌∙◌, sym, ap₂, get_or, drop, Some, vec_items, arith}
use Rattle.asking.specs.Spelling.{symbol_of, spelled_from}
use Rattle.asking.proofs.Written.{before, read_on}
use Rattle.asking.proofs.spelling.spell.Goals as goal

pub loop-place-preserved : goal.loop-place-preserved
loop-place-preserved c = λ few.
    let names = c.args.names.now in
    let text = c.plain-name-items.result.now in
    let at = c.loop-place.place in
    let next : at + 1 ≡ suc at = omega arith in
    let named : symbol_of names (get_or text at 0) ≡ Some c.in_ok-symbol.symbol = sym (c.symbol_of_name.ensures few) ∙ c.in_ok-symbol.ensures.ok_part in
    c.loop-place.invariant few ∙ read_on names text at (vec_items c.loop-place.word) c.loop-place-test.true c.in_ok-symbol.symbol named
    ∙ sym (ap₂ (λ w k. before w (spelled_from k names (drop k text))) c.in_ok-push.ensures.items next)
