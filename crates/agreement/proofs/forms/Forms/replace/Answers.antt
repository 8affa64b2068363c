use Rattle.std.proofs.Common.{sym, ap, ◌∙◌}
use Rattle.std.specs.Option.{option_map}
use Rattle.grammar.specs.WordStacks.{held, put_before}
use Rattle.agreement.specs.Forms.{form_of, or_itself, puts}
use Rattle.agreement.proofs.Partly.{partly_none, partly_form, partly_itself, partly_all}
use Rattle.agreement.proofs.forms.Forms.replace.Goals as goal

pub loop-symbol-preserved-in-Some-form : goal.loop-symbol-preserved-in-Some-form
loop-symbol-preserved-in-Some-form g c =
    let 𝓣 = g.T.Tally.group in
    let is = ap (λ o. or_itself 𝓣 c.in-Some.symbol.now (option_map (λ f. f.now) o)) (sym c.in-Some-form.is) ∙ c.form.ensures in
    partly_form 𝓣 512 (puts g.T.Tally.group c.args.self.now) c.args.word.now _ _ (held c.loop-symbol.left) _ c.loop-symbol.sum _ c.in-Some.symbol.now (form_of c.in-Some-form.form.now)
    c.in-Some.ensures.steps is (c.push_word.ensures ∙ ap (λ w. put_before 512 w (held c.loop-symbol.left)) c.word.ensures) c.add-sum.ensures c.loop-symbol.invariant

pub loop-symbol-preserved : goal.loop-symbol-preserved
loop-symbol-preserved g c =
    let 𝓣 = g.T.Tally.group in
    let is = ap (λ o. or_itself 𝓣 c.in-Some.symbol.now (option_map (λ f. f.now) o)) (sym c.in-None-form.is) ∙ c.form.ensures in
    partly_itself 𝓣 512 (puts g.T.Tally.group c.args.self.now) c.args.word.now _ _ (held c.loop-symbol.left) _ c.loop-symbol.sum c.in-Some.symbol.now
    c.in-Some.ensures.steps is c.push.ensures c.loop-symbol.invariant

pub loop-symbol-init : goal.loop-symbol-init
loop-symbol-init g c =
    let whole = ap (λ r. r.iter.rest.now) c.into_iter-symbol-iterator.ensures.into_iter_gives ∙ ap (λ i. i.rest.now) c.rev-symbol-items.ensures.source ∙ c.iter.ensures.rest in
    partly_none g.T.Tally.group 512 (puts g.T.Tally.group c.args.self.now) c.args.word.now _ _ _ whole c.new-left.ensures c.zero-sum.ensures

pub returns : goal.returns
returns g c =
    partly_all g.T.Tally.group 512 (puts g.T.Tally.group c.args.self.now) c.args.word.now _ (held c.loop-symbol.left) c.loop-symbol.sum c.in-None.ensures.steps.0 c.loop-symbol.invariant
