use Rattle.std.proofs.Common.{◌+◌, ◌≤◌, length, take, ap, ◌∙◌, arith}
use Rattle.sheet.specs.Rowed.{shown}
use Rattle.walk.specs.Inputs.{letters, most}
use Rattle.comparison.specs.Tracing.{lead_input}
use Rattle.comparison.specs.declared.look.Look.{Look}
use Rattle.comparison.specs.declared.treatment.Treatment.TheVariants.{Different}
use Rattle.comparison.proofs.Leads.{side_is, none_is, treated, one_light, two_light, one_alone, two_alone, kept_alone, looks_at, small_one, small_two, back, kept, extra, room, room_extra}
use Rattle.comparison.proofs.tracing.ending.Goals as goal

pub returns-in_err-failing-in-Some-Some : goal.returns-in_err-failing-in-Some-Some
returns-in_err-failing-in-Some-Some g c = λ ready given_x given_y look treats.
    let 𝓣 = g.T.Tally.group in
    let s = c.args.survey.now in
    let x = c.args.words.one.now in
    let y = c.args.words.two.now in
    let o = c.args.origin in
    let e = side_is 𝓣 _ c.in-Some-Some.one _ c.word.result.now (c.sides_at.ensures.one ready given_x given_y) c.in-Some-Some.is-0 c.word.ensures in
    let f = side_is 𝓣 _ c.in-Some-Some.two _ c.word-in-Some-Some.result.now (c.sides_at.ensures.two ready given_x given_y) c.in-Some-Some.is-1 c.word-in-Some-Some.ensures in
    let l : Look g.row.T.Denot =
    record { rows = c.args.rows; pair = record { one = c.word.result; two = c.word-in-Some-Some.result; before_one = c.in-Some-Some.one.sum; before_two = c.in-Some-Some.two.sum } } in
    let both = treated 𝓣 s (shown c.args.rows) c.args.work.now ready x y given_x given_y _ _ Different treats _ _ e f in
    absurd (c.in_err-failing-in-Some-Some.ensures (looks_at 𝓣 s l ready x y given_x given_y o look e f) ready both (room o)
    (small_one 𝓣 s l ready x y given_x given_y o look e f) (small_two 𝓣 s l ready x y given_x given_y o look e f))

pub returns-in_ok-failing-in-Some-Some : goal.returns-in_ok-failing-in-Some-Some
returns-in_ok-failing-in-Some-Some g c = λ ready given_x given_y look treats.
    let 𝓣 = g.T.Tally.group in
    let s = c.args.survey.now in
    let V = shown c.args.rows in
    let x = c.args.words.one.now in
    let y = c.args.words.two.now in
    let o = c.args.origin in
    let e = side_is 𝓣 _ c.in-Some-Some.one _ c.word.result.now (c.sides_at.ensures.one ready given_x given_y) c.in-Some-Some.is-0 c.word.ensures in
    let f = side_is 𝓣 _ c.in-Some-Some.two _ c.word-in-Some-Some.result.now (c.sides_at.ensures.two ready given_x given_y) c.in-Some-Some.is-1 c.word-in-Some-Some.ensures in
    let l : Look g.row.T.Denot =
    record { rows = c.args.rows; pair = record { one = c.word.result; two = c.word-in-Some-Some.result; before_one = c.in-Some-Some.one.sum; before_two = c.in-Some-Some.two.sum } } in
    let both = treated 𝓣 s V c.args.work.now ready x y given_x given_y _ _ Different treats _ _ e f in
    let fails =
    c.in_ok-failing-in-Some-Some.ensures (looks_at 𝓣 s l ready x y given_x given_y o look e f) ready both (room o)
    (small_one 𝓣 s l ready x y given_x given_y o look e f) (small_two 𝓣 s l ready x y given_x given_y o look e f) in
    let t = letters c.failing_at_end.new.bench.tried in
    let short : length t + extra o ≤ 512 = let k = room_extra o in let h = fails.1 in omega arith in
    let kept_is = c.settle.ensures.found ∙ ap (λ i. take most (lead_input o c.in_ok-failing-in-Some-Some.failing i)) c.as_slice.ensures in
    kept 𝓣 s V c.args.work.now ready x y given_x given_y o c.in_ok-failing-in-Some-Some.failing t 512 c.settle.result (letters c.settle.new.found)
    (back 𝓣 s l ready x y given_x given_y o look e f c.in_ok-failing-in-Some-Some.failing t fails.0) short (omega arith) c.settle.ensures.lead kept_is

pub returns-in-Some-None : goal.returns-in-Some-None
returns-in-Some-None g c = λ ready given_x given_y look treats.
    let 𝓣 = g.T.Tally.group in
    let s = c.args.survey.now in
    let V = shown c.args.rows in
    let x = c.args.words.one.now in
    let y = c.args.words.two.now in
    let o = c.args.origin in
    let e = side_is 𝓣 _ c.in-Some-None.one _ c.word-word.result.now (c.sides_at.ensures.one ready given_x given_y) c.in-Some-None.is-0 c.word-word.ensures in
    let f = none_is 𝓣 _ _ (c.sides_at.ensures.two ready given_x given_y) c.in-Some-None.is-1 in
    kept_alone 𝓣 s V c.args.work.now ready x y given_x given_y o c.word-word.result.now (one_light 𝓣 s V c.args.work.now ready x y given_x given_y o look _ e)
    (one_alone 𝓣 s V c.args.work.now ready x y given_x given_y o look _ e f) c.skeleton.result.now c.skeleton.ensures c.settle_alone.result (letters c.settle_alone.new.found)
    c.settle_alone.ensures.lead c.settle_alone.ensures.found

pub returns-in-None-Some : goal.returns-in-None-Some
returns-in-None-Some g c = λ ready given_x given_y look treats.
    let 𝓣 = g.T.Tally.group in
    let s = c.args.survey.now in
    let V = shown c.args.rows in
    let x = c.args.words.one.now in
    let y = c.args.words.two.now in
    let o = c.args.origin in
    let e = none_is 𝓣 _ _ (c.sides_at.ensures.one ready given_x given_y) c.in-None-Some.is-0 in
    let f = side_is 𝓣 _ c.in-None-Some.two _ c.word-word-in-None-Some.result.now (c.sides_at.ensures.two ready given_x given_y) c.in-None-Some.is-1 c.word-word-in-None-Some.ensures in
    kept_alone 𝓣 s V c.args.work.now ready x y given_x given_y o c.word-word-in-None-Some.result.now (two_light 𝓣 s V c.args.work.now ready x y given_x given_y o look _ f)
    (two_alone 𝓣 s V c.args.work.now ready x y given_x given_y o look _ e f) c.skeleton-in-None-Some.result.now c.skeleton-in-None-Some.ensures c.settle_alone-in-None-Some.result (letters c.settle_alone-in-None-Some.new.found)
    c.settle_alone-in-None-Some.ensures.lead c.settle_alone-in-None-Some.ensures.found
