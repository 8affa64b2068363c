use Rattle.std.proofs.Common.{◌≤◌, ◌∙◌, arith}
use Rattle.grammar.specs.WordStacks.{held}
use Rattle.norm.specs.Norms.{norms}
use Rattle.survey.specs.Surveyed.{surveyed, norm_in, first_in}
use Rattle.sheet.specs.Rowed.{shown}
use Rattle.witness.specs.Forks.{later_word}
use Rattle.walk.specs.Inputs.{letters}
use Rattle.comparison.proofs.PairTried.{same_found}
use Rattle.comparison.proofs.Looked.{look_rowed, row_is_read, row_read, candidate_tried}
use Rattle.comparison.proofs.look.Look.failing_at_row.Goals as goal

pub returns-in_err-parting : goal.returns-in_err-parting
returns-in_err-parting g c = λ looks ready A w treats untrue size.
    let 𝓣 = g.T.Tally.group in
    let s = c.args.survey.now in
    let V = shown c.args.self.now.rows in
    let one = c.normal_form-one.ensures s V ready looks.known_one looks.small_one in
    let two = c.normal_form-two.ensures s V ready looks.known_two looks.small_two in
    let x = held c.normal_form-one.result.word in
    let y = held c.normal_form-two.result.word in
    let found = same_found c.skeleton-skeleton.ensures c.word.ensures c.word-2.ensures c.in_err-parting.was (record { later_one = c.parting_of.ensures.later_one; later_two = c.parting_of.ensures.later_two }) in
    let r = look_rowed 𝓣 s c.args.self.now looks c.args.work.now ready x y _ _ one two _ found A w treats in
    absurd r.parts

pub returns-in_err-row : goal.returns-in_err-row
returns-in_err-row g c = λ looks ready A w treats untrue size.
    let 𝓣 = g.T.Tally.group in
    let s = c.args.survey.now in
    let V = shown c.args.self.now.rows in
    let one = c.normal_form-one.ensures s V ready looks.known_one looks.small_one in
    let two = c.normal_form-two.ensures s V ready looks.known_two looks.small_two in
    let x = held c.normal_form-one.result.word in
    let y = held c.normal_form-two.result.word in
    let found = same_found c.skeleton-skeleton.ensures c.word.ensures c.word-2.ensures c.in_ok-parting.was (record { later_one = c.parting_of.ensures.later_one; later_two = c.parting_of.ensures.later_two }) in
    let r = look_rowed 𝓣 s c.args.self.now looks c.args.work.now ready x y _ _ one two _ found A w treats in
    absurd (row_is_read 𝓣 s r.fork c.in_ok-parting.parting r.parts c.in_err-row.ensures)

pub returns : goal.returns
returns g c = λ looks ready A w treats untrue size.
    let 𝓣 = g.T.Tally.group in
    let s = c.args.survey.now in
    let l = c.args.self.now in
    let V = shown l.rows in
    let one = c.normal_form-one.ensures s V ready looks.known_one looks.small_one in
    let two = c.normal_form-two.ensures s V ready looks.known_two looks.small_two in
    let x = held c.normal_form-one.result.word in
    let y = held c.normal_form-two.result.word in
    let found = same_found c.skeleton-skeleton.ensures c.word.ensures c.word-2.ensures c.in_ok-parting.was (record { later_one = c.parting_of.ensures.later_one; later_two = c.parting_of.ensures.later_two }) in
    let r = look_rowed 𝓣 s l looks c.args.work.now ready x y _ _ one two _ found A w treats in
    let light : norms (norm_in s) (later_word 𝓣 (surveyed s) (norm_in s) (first_in s) r.fork) ≤ 512 = (let h = looks.small_one in let e = r.weighs in omega arith) in
    let word = c.word-3.ensures ∙ row_read 𝓣 s r.fork c.in_ok-parting.parting r.parts (held c.in_ok-row.row) c.in_ok-row.ensures in
    candidate_tried 𝓣 s l r.fork c.args.input.now (letters c.try_candidates.new.bench.tried) c.try_candidates.result
    (c.try_candidates.ensures looks ready r.fork r.parts word light size) (λ all. untrue (r.stands c.args.input.now all)) light
