use Rattle.std.proofs.Common.{◌≤◌, Some, None, sym, ◌∙◌, arith}
use Rattle.norm.specs.Norms.{norms}
use Rattle.rows.proofs.Normals.{to}
use Rattle.sheet.specs.Rowed.{shown}
use Rattle.survey.specs.Surveyed.{surveyed, norm_in, first_in}
use Rattle.witness.specs.Forks.{later_word}
use Rattle.walk.specs.Inputs.{letters}
use Rattle.comparison.specs.Treating.{pair_of}
use Rattle.comparison.specs.Trying.{over}
use Rattle.comparison.proofs.PairTried.{same_found}
use Rattle.comparison.proofs.Looked.{form_known, form_small, look_missed, later_first, first_fits, completed_tried}
use Rattle.comparison.proofs.look.Look.failing_at_end.Goals as goal

pub returns-in-Some : goal.returns-in-Some
returns-in-Some g c = λ looks ready treats m small_one small_two.
    let 𝓣 = g.T.Tally.group in
    let s = c.args.survey.now in
    let l = c.args.self.now in
    let w = c.args.work.now in
    let P = pair_of l.pair in
    let x = c.word.result.now in
    let y = c.word-2.result.now in
    let one = to 𝓣 (over 𝓣 s l) (sym c.word.ensures) (c.normal_form-one.ensures s (shown l.rows) ready looks.known_one looks.small_one) in
    let two = to 𝓣 (over 𝓣 s l) (sym c.word-2.ensures) (c.normal_form-two.ensures s (shown l.rows) ready looks.known_two looks.small_two) in
    c.in-Some.ensures looks ready (form_known 𝓣 s l looks w ready P.one x _ one looks.known_one) (form_known 𝓣 s l looks w ready P.two y _ two looks.known_two)
    (form_small 𝓣 s l looks w ready P.one x _ 512 one looks.small_one) (form_small 𝓣 s l looks w ready P.two y _ 512 two looks.small_two) m
    (form_small 𝓣 s l looks w ready P.one x _ m one small_one) (form_small 𝓣 s l looks w ready P.two y _ m two small_two)

pub returns-in_err-parting : goal.returns-in_err-parting
returns-in_err-parting g c = λ looks ready treats m small_one small_two.
    let 𝓣 = g.T.Tally.group in
    let s = c.args.survey.now in
    let l = c.args.self.now in
    let w = c.args.work.now in
    let P = pair_of l.pair in
    let x = c.word.result.now in
    let y = c.word-2.result.now in
    let one = to 𝓣 (over 𝓣 s l) (sym c.word.ensures) (c.normal_form-one.ensures s (shown l.rows) ready looks.known_one looks.small_one) in
    let two = to 𝓣 (over 𝓣 s l) (sym c.word-2.ensures) (c.normal_form-two.ensures s (shown l.rows) ready looks.known_two looks.small_two) in
    let tried =
    c.in_default.ensures looks ready (form_known 𝓣 s l looks w ready P.one x _ one looks.known_one) (form_known 𝓣 s l looks w ready P.two y _ two looks.known_two)
    (form_small 𝓣 s l looks w ready P.one x _ 512 one looks.small_one) (form_small 𝓣 s l looks w ready P.two y _ 512 two looks.small_two) m
    (form_small 𝓣 s l looks w ready P.one x _ m one small_one) (form_small 𝓣 s l looks w ready P.two y _ m two small_two) in
    let found =
    same_found c.skeleton-skeleton.ensures (c.word-3.ensures ∙ sym c.word.ensures) (c.word-4.ensures ∙ sym c.word-2.ensures) c.in_err-parting.was
    (record { later_one = c.parting_of.ensures.later_one; later_two = c.parting_of.ensures.later_two }) in
    let r = look_missed 𝓣 s l looks w ready x y _ _ one two None found treats tried.0 tried.1 in
    absurd r.parts

pub returns : goal.returns
returns g c = λ looks ready treats m small_one small_two.
    let 𝓣 = g.T.Tally.group in
    let s = c.args.survey.now in
    let l = c.args.self.now in
    let w = c.args.work.now in
    let P = pair_of l.pair in
    let x = c.word.result.now in
    let y = c.word-2.result.now in
    let one = to 𝓣 (over 𝓣 s l) (sym c.word.ensures) (c.normal_form-one.ensures s (shown l.rows) ready looks.known_one looks.small_one) in
    let two = to 𝓣 (over 𝓣 s l) (sym c.word-2.ensures) (c.normal_form-two.ensures s (shown l.rows) ready looks.known_two looks.small_two) in
    let tried =
    c.in_default.ensures looks ready (form_known 𝓣 s l looks w ready P.one x _ one looks.known_one) (form_known 𝓣 s l looks w ready P.two y _ two looks.known_two)
    (form_small 𝓣 s l looks w ready P.one x _ 512 one looks.small_one) (form_small 𝓣 s l looks w ready P.two y _ 512 two looks.small_two) m
    (form_small 𝓣 s l looks w ready P.one x _ m one small_one) (form_small 𝓣 s l looks w ready P.two y _ m two small_two) in
    let p = c.in_ok-parting.parting in
    let found =
    same_found c.skeleton-skeleton.ensures (c.word-3.ensures ∙ sym c.word.ensures) (c.word-4.ensures ∙ sym c.word-2.ensures) c.in_ok-parting.was
    (record { later_one = c.parting_of.ensures.later_one; later_two = c.parting_of.ensures.later_two }) in
    let r = look_missed 𝓣 s l looks w ready x y _ _ one two (Some p) found treats tried.0 tried.1 in
    let F = r.fork in
    let e = r.weighs in
    let is = later_first 𝓣 s F p r.parts c.first_input-first.result.now c.first_input-first.ensures in
    let light : norms (norm_in s) (later_word 𝓣 (surveyed s) (norm_in s) (first_in s) F) ≤ 512 = let h = looks.small_one in omega arith in
    let within : norms (norm_in s) (later_word 𝓣 (surveyed s) (norm_in s) (first_in s) F) ≤ m = omega arith in
    completed_tried 𝓣 s l F c.first_input-first.result.now (letters c.try_completed.new.bench.tried) m c.try_completed.result is
    (c.try_completed.ensures looks ready F r.parts light (first_fits 𝓣 s F p r.parts c.first_input-first.result.now is)) r.fails within
