use Rattle.std.proofs.Common.{◌≡◌, ◌↔◌, ◌<◌, ◌≤◌, IsTrue, length, take, get_or, sym, ap, ◌∙◌, subst, arith, rules}
use borrow.Author.Tests.{clash}
use Rattle.std.specs.Option.{option_map}
use Rattle.std.specs.List.{All}
use Rattle.grammar.specs.Meaning.{Word, word_of}
use Rattle.norm.specs.Tabled.{held}
use Rattle.norm.proofs.FromFn.{from_fn_each}
use Rattle.survey.specs.Refusals.{max_rule}
use Rattle.survey.proofs.Takings.{copied, strayed, fine, there}
use Rattle.survey.proofs.take.rule_word.Goals as goal

pub returns-then-not-all : goal.returns-then-not-all
returns-then-not-all g c =
    let M = g.G.Grammar.meaning c.args.g.now in
    let w : Word = word_of (M.rule c.args.symbol c.args.letter) in
    let size = c.rule_len-len.ensures in
    let few = c.if-len-gt-MAX_RULE.false in
    let short : length w ≤ max_rule = subst (λ n. n ≤ max_rule) size few in
    let from = c.from_fn-symbols.ensures.items in
    let same : take c.rule_len-len.result c.from_fn-symbols.result ≡ w =
    copied c.rule_len-len.result c.from_fn-symbols.result w from.long size few
    (λ i d h. from_fn_each _ _ 4 (λ i y. y ≡ get_or w i 255) (λ i y q l k. search rules) c.from_fn-symbols.result 0 4 (omega arith) from.each i d (omega arith) h) in
    let told : IsTrue c.all.result ↔ All (λ B. B < c.args.count) c.as_slice.result.now = search rules in
    strayed c.args.count M c.args.symbol c.args.letter c.as_slice.result.now (c.as_slice.ensures ∙ same) short (λ h. clash (sym c.if-not-all.true ∙ told.1 h))

pub returns : goal.returns
returns g c =
    let M = g.G.Grammar.meaning c.args.g.now in
    let w : Word = word_of (M.rule c.args.symbol c.args.letter) in
    let size = c.rule_len-len.ensures in
    let few = c.if-len-gt-MAX_RULE.false in
    let short : length w ≤ max_rule = subst (λ n. n ≤ max_rule) size few in
    let from = c.from_fn-symbols.ensures.items in
    let same : take c.rule_len-len.result c.from_fn-symbols.result ≡ w =
    copied c.rule_len-len.result c.from_fn-symbols.result w from.long size few
    (λ i d h. from_fn_each _ _ 4 (λ i y. y ≡ get_or w i 255) (λ i y q l k. search rules) c.from_fn-symbols.result 0 4 (omega arith) from.each i d (omega arith) h) in
    let told : IsTrue c.all.result ↔ All (λ B. B < c.args.count) c.as_slice.result.now = search rules in
    let all : All (λ B. B < c.args.count) c.as_slice.result.now = told.0 c.if-not-all.false in (
      ap (option_map held) c.then_some.ensures ∙ there c.args.count M c.args.symbol c.args.letter c.as_slice.result.now (c.as_slice.ensures ∙ same) short c.has_rule.result _ c.has_rule.ensures (sym c.as_slice.ensures),
      fine c.args.count M c.args.symbol c.args.letter c.as_slice.result.now (c.as_slice.ensures ∙ same) short all,
    )
