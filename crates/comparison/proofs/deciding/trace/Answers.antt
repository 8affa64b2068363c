use Rattle.std.proofs.Common.{rules, ◌≡◌, Some, sym, ◌∙◌, subst, arith}
use Rattle.sheet.specs.Rowed.{shown}
use Rattle.agreement.specs.Works.{rows_over}
use Rattle.walk.specs.Inputs.{letters}
use Rattle.comparison.specs.declared.lead.Lead.TheVariants as leads
use Rattle.comparison.proofs.Goings.{turned_some}
use Rattle.comparison.proofs.Leading.{Leading, leading_first, leading_words, leading_lost, leading_over, leading_marked, leading_back}
use Rattle.comparison.proofs.deciding.trace.Goals as goal

pub loop-source-init : goal.loop-source-init
loop-source-init g c = λ given_x given_y ready V traced.
    let 𝓣 = g.T.Tally.group in
    let s = c.args.survey.now in
    let x = c.args.comparison.now.words.one.now in
    let y = c.args.comparison.now.words.two.now in
    let found = turned_some 𝓣 s x y (rows_over 𝓣 s (shown c.args.rows)) _ _ traced.different in
    leading_first 𝓣 s x y V c.args.rows.rows.now c.args.comparison.now.sources.list (shown c.args.rows) c.args.comparison.now.sources.len c.args.origin _ _ ready.ranked traced
    (c.ending-lead.ensures ready given_x given_y found.0 found.1)

pub returns-in_default-lead : goal.returns-in_default-lead
returns-in_default-lead g c = λ given_x given_y ready V traced.
    leading_words g.T.Tally.group c.args.survey.now c.args.comparison.now.words.one.now c.args.comparison.now.words.two.now V c.args.rows.rows.now c.loop-source.comparison.sources.list
    c.loop-source.comparison.sources.len c.loop-source.lead (letters c.loop-source.found) (search rules) (c.loop-source.invariant given_x given_y ready V traced)

pub returns-in_default-lead-2 : goal.returns-in_default-lead-2
returns-in_default-lead-2 g c = λ given_x given_y ready V traced.
    absurd (leading_lost g.T.Tally.group c.args.survey.now c.args.comparison.now.words.one.now c.args.comparison.now.words.two.now V c.args.rows.rows.now c.loop-source.comparison.sources.list
    c.loop-source.comparison.sources.len c.loop-source.lead (letters c.loop-source.found) c.in_default-lead.is (c.loop-source.invariant given_x given_y ready V traced))

pub loop-source-smaller-then-has : goal.loop-source-smaller-then-has
loop-source-smaller-then-has g c = let e = c.in-Some.ensures.taken.0 in omega arith

pub loop-source-preserved-then-has : goal.loop-source-preserved-then-has
loop-source-preserved-then-has g c = λ given_x given_y ready V traced.
    let 𝓣 = g.T.Tally.group in
    let s = c.args.survey.now in
    let x = c.args.comparison.now.words.one.now in
    let y = c.args.comparison.now.words.two.now in
    let rs = c.args.rows.rows.now in
    let A = c.in-Some-Row.symbol in
    let t = letters c.loop-source.found in
    let h = c.loop-source.invariant given_x given_y ready V traced in
    let is_row : c.loop-source.lead ≡ Some (leads.Row A) = search rules in
    let taken = c.in-Some.ensures.taken in
    let next = leading_marked 𝓣 s x y V rs c.loop-source.comparison.sources.list c.loop-source.comparison.sources.len c.pop.new.self.len A c.loop-source.lead t h taken.0 is_row c.in-Some.source taken.1 c.args.rows.room (sym c.has.ensures ∙ c.if-has.true) in
    subst (λ L. Leading 𝓣 s x y V rs L c.pop.new.self.len c.loop-source.lead t) (sym c.in-Some.ensures.list) next

pub loop-source-smaller : goal.loop-source-smaller
loop-source-smaller g c = let e = c.in-Some.ensures.taken.0 in omega arith

pub loop-source-preserved : goal.loop-source-preserved
loop-source-preserved g c = λ given_x given_y ready V traced.
    let 𝓣 = g.T.Tally.group in
    let s = c.args.survey.now in
    let x = c.args.comparison.now.words.one.now in
    let y = c.args.comparison.now.words.two.now in
    let rs = c.args.rows.rows.now in
    let A = c.in-Some-Row.symbol in
    let t = letters c.loop-source.found in
    let h = c.loop-source.invariant given_x given_y ready V traced in
    let is_row : c.loop-source.lead ≡ Some (leads.Row A) = search rules in
    let taken = c.in-Some.ensures.taken in
    let next = leading_back 𝓣 s x y V rs c.loop-source.comparison.sources.list c.loop-source.comparison.sources.len c.pop.new.self.len A c.loop-source.lead t h taken.0 is_row c.restart.new.work c.stage-lead.result (letters c.stage-lead.new.found)
    c.in-Some.source taken.1 (sym c.has.ensures ∙ c.if-has.false) c.restart.ensures (λ again look C r treats. c.stage-lead.ensures again given_x given_y look C r treats) in
    subst (λ L. Leading 𝓣 s x y V rs L c.pop.new.self.len c.stage-lead.result (letters c.stage-lead.new.found)) (sym c.in-Some.ensures.list) next

pub returns : goal.returns
returns g c = λ given_x given_y ready V traced.
    leading_over g.T.Tally.group c.args.survey.now c.args.comparison.now.words.one.now c.args.comparison.now.words.two.now V c.args.rows.rows.now c.loop-source.comparison.sources.list
    c.loop-source.comparison.sources.len c.loop-source.lead (letters c.loop-source.found) traced.proving traced.ranked c.in_default.ensures.taken (c.loop-source.invariant given_x given_y ready V traced)
