use Rattle.std.proofs.Common.{◌+◌, ◌≤◌, length, take, sym, ap, ◌∙◌, subst, arith}
use Rattle.norm.specs.Tabled.{held}
use Rattle.rows.specs.Sheets.{offset}
use Rattle.sheet.specs.Rowed.{shown}
use Rattle.survey.specs.Surveyed.{surveyed, first_in}
use Rattle.witness.specs.Alike.{TrueOn}
use Rattle.walk.specs.Inputs.{letters, most}
use Rattle.comparison.specs.Tracing.{lead_input}
use Rattle.comparison.specs.declared.look.Look.{Look}
use Rattle.comparison.specs.declared.treatment.Treatment.TheVariants.{Mend}
use Rattle.comparison.proofs.Leads.{side_is, treated, looks_at, back, kept, extra, extra_one}
use Rattle.comparison.proofs.tracing.stage.Goals as goal

pub returns-in_err-failing : goal.returns-in_err-failing
returns-in_err-failing g c = λ ready given_x given_y look A w treats untrue size.
    let 𝓣 = g.T.Tally.group in
    let s = c.args.survey.now in
    let V = shown c.args.rows in
    let x = c.args.words.one.now in
    let y = c.args.words.two.now in
    let o = c.args.origin in
    let e = side_is 𝓣 _ c.in-Some-Some.one _ c.word.result.now (c.sides_at.ensures.one ready given_x given_y) c.in-Some-Some.is-0 c.word.ensures in
    let f = side_is 𝓣 _ c.in-Some-Some.two _ c.word-2.result.now (c.sides_at.ensures.two ready given_x given_y) c.in-Some-Some.is-1 c.word-2.ensures in
    let l : Look g.row.T.Denot =
    record { rows = c.args.rows; pair = record { one = c.word.result; two = c.word-2.result; before_one = c.in-Some-Some.one.sum; before_two = c.in-Some-Some.two.sum } } in
    let both = treated 𝓣 s V c.args.work.now ready x y given_x given_y _ _ (Mend A w) treats _ _ e f in
    let not = subst (λ i. ¬ TrueOn 𝓣 (surveyed s) A (record { word = held w; tally = offset 𝓣 (surveyed s) (first_in s) A (held w) }) i) (sym c.as_slice.ensures) untrue in
    let fits = subst (λ i. length i + 512 ≤ most) (sym c.as_slice.ensures) size in
    absurd (c.in_err-failing.ensures (looks_at 𝓣 s l ready x y given_x given_y o look e f) ready A w both not fits)

pub returns : goal.returns
returns g c = λ ready given_x given_y look A w treats untrue size.
    let 𝓣 = g.T.Tally.group in
    let s = c.args.survey.now in
    let V = shown c.args.rows in
    let x = c.args.words.one.now in
    let y = c.args.words.two.now in
    let o = c.args.origin in
    let e = side_is 𝓣 _ c.in-Some-Some.one _ c.word.result.now (c.sides_at.ensures.one ready given_x given_y) c.in-Some-Some.is-0 c.word.ensures in
    let f = side_is 𝓣 _ c.in-Some-Some.two _ c.word-2.result.now (c.sides_at.ensures.two ready given_x given_y) c.in-Some-Some.is-1 c.word-2.ensures in
    let l : Look g.row.T.Denot =
    record { rows = c.args.rows; pair = record { one = c.word.result; two = c.word-2.result; before_one = c.in-Some-Some.one.sum; before_two = c.in-Some-Some.two.sum } } in
    let both = treated 𝓣 s V c.args.work.now ready x y given_x given_y _ _ (Mend A w) treats _ _ e f in
    let not = subst (λ i. ¬ TrueOn 𝓣 (surveyed s) A (record { word = held w; tally = offset 𝓣 (surveyed s) (first_in s) A (held w) }) i) (sym c.as_slice.ensures) untrue in
    let fits = subst (λ i. length i + 512 ≤ most) (sym c.as_slice.ensures) size in
    let fails = c.in_ok-failing.ensures (looks_at 𝓣 s l ready x y given_x given_y o look e f) ready A w both not fits in
    let t = letters c.failing_at_row.new.bench.tried in
    let longer : length t + 1 ≤ length (letters c.args.found.now) + 512 = subst (λ i. length t + 1 ≤ length i + 512) c.as_slice.ensures fails.1 in
    let short : length t + extra o ≤ length (letters c.args.found.now) + 512 = let k = extra_one o in omega arith in
    let kept_is = c.settle.ensures.found ∙ ap (λ i. take most (lead_input o c.in_ok-failing.failing i)) c.as_slice-2.ensures in
    kept 𝓣 s V c.args.work.now ready x y given_x given_y o c.in_ok-failing.failing t (length (letters c.args.found.now) + 512) c.settle.result (letters c.settle.new.found)
    (back 𝓣 s l ready x y given_x given_y o look e f c.in_ok-failing.failing t fails.0) short size c.settle.ensures.lead kept_is
