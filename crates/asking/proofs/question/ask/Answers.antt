use Rattle.std.proofs.Common.{◌≡◌, ◌≤◌, ◌∙◌, sym, ap, length, take, Ok, arith}
use Rattle.std.proofs.lemmas.Result.{err_from_is_err_and}
use Rattle.grammar.specs.Takes.{takes}
use Rattle.survey.specs.Surveyed.{surveyed}
use Rattle.calls.specs.declared.answer.Answer.TheVariants.{Different}
use Rattle.layout.proofs.Steps.{ok_err}
use Rattle.comparison.proofs.Ranges.{read_front}
use Rattle.asking.proofs.Asked.{err_moves, ok_moves, free, told_same, told_different}
use Rattle.asking.proofs.question.ask.Goals as goal

pub returns-in_err-compare-clause-fault : goal.returns-in_err-compare-clause-fault
returns-in_err-compare-clause-fault g c = λ s over.
    let p = err_from_is_err_and c.from_residual.result c.from_residual.ensures.1 in
    rw (p.1, p.2) (err_moves _ (c.in_err-compare.ensures.fault s over))

pub returns-in-Same-clause-fault : goal.returns-in-Same-clause-fault
returns-in-Same-clause-fault g c = λ s over. ok_moves c.compare.result _ _ c.in_ok-compare.was (c.compare.ensures.fault s over)

pub returns-in-Same-clause-without : goal.returns-in-Same-clause-without
returns-in-Same-clause-without g c = λ r without. absurd (ok_err (sym c.in_ok-compare.was ∙ c.compare.ensures.without r without))

pub returns-in-Same-clause-verdict : goal.returns-in-Same-clause-verdict
returns-in-Same-clause-verdict g c = λ s over es h.
    told_same g.T.Tally.group c.args.comparer.now c.compare.new.self c.args.one.now c.args.two.now (length c.args.out.now) c.compare.new.out c.compare.result c.compare.ensures.lawful s over es h
    (c.in_ok-compare.was ∙ ap Ok c.in-Same.is)

pub returns-in-Different-clause-fault : goal.returns-in-Different-clause-fault
returns-in-Different-clause-fault g c = λ s over. ok_moves c.compare.result _ _ c.in_ok-compare.was (c.compare.ensures.fault s over)

pub returns-in-Different-clause-without : goal.returns-in-Different-clause-without
returns-in-Different-clause-without g c = λ r without. absurd (ok_err (sym c.in_ok-compare.was ∙ c.compare.ensures.without r without))

pub returns-in-Different-clause-verdict : goal.returns-in-Different-clause-verdict
returns-in-Different-clause-verdict g c = λ s over es h.
    let n = c.in-Different.length in
    let out = c.compare.new.out in
    let is = c.in_ok-compare.was ∙ ap Ok c.in-Different.is in
    let short = told_different g.T.Tally.group c.args.comparer.now c.compare.new.self c.args.one.now c.args.two.now (length c.args.out.now) out c.compare.result c.compare.ensures.lawful s over es h n is in
    let may = free s.skeleton.words.count c.args.one.now c.args.two.now (length c.args.out.now) (λ f e. ok_err (sym is ∙ (c.compare.ensures.fault s over f).1 e)) in
    let shown = c.compare.ensures.shown n is in
    let room : n ≤ length out = omega (arith, shown.0, shown.1, may.fits) in
    let input : c.unwrap_or-input.result.now ≡ take n out = read_front out n room c.get.result _ c.unwrap_or-input.result c.unwrap_or-input.ensures c.get.ensures.lookup in
    let now_over = c.compare.ensures.lawful.same_grammar.over s over in
    let few : length c.unwrap_or-input.result.now ≤ 16384 = rw input short.short in
    record {
      differ = short.differ;
      short = short.short;
      one = c.verdict.ensures s now_over (may.one c.unwrap_or-input.result.now few) ∙ ap (takes g.T.Tally.group (surveyed s) c.args.one.now) input;
      two = c.verdict-in-Different.ensures s now_over (may.two c.unwrap_or-input.result.now few) ∙ ap (takes g.T.Tally.group (surveyed s) c.args.two.now) input;
    }

pub returns-in-Different-clause-shown : goal.returns-in-Different-clause-shown
returns-in-Different-clause-shown g c = λ n p q e.
    let same : c.in-Different.length ≡ n = cc in
    c.compare.ensures.shown n (c.in_ok-compare.was ∙ ap Ok (c.in-Different.is ∙ ap Different same))
