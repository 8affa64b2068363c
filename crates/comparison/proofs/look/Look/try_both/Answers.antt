use Rattle.walk.specs.Inputs.{letters}
use Rattle.comparison.proofs.Completing.{match_map}
use Rattle.comparison.proofs.Looked.{first_within}
use Rattle.comparison.proofs.look.Look.try_both.Goals as goal

pub returns-in-Some : goal.returns-in-Some
returns-in-Some g c = λ looks ready known_one known_two small_one small_two m light_one light_two.
    let h = c.in-Some.ensures looks ready known_one small_one in
    (h.0, first_within g.T.Tally.group c.args.survey.now c.args.self.now c.args.one.now (letters c.try_first.new.bench.tried) m known_one light_one h.1)

pub returns : goal.returns
returns g c = λ looks ready known_one known_two small_one small_two m light_one light_two.
    match_map c.try_first-2.result (λ h. (c.in_default.ensures looks ready known_one small_one, h))
    (λ f h. (h.0, first_within g.T.Tally.group c.args.survey.now c.args.self.now c.args.two.now (letters c.try_first-2.new.bench.tried) m known_two light_two h.1))
    (c.try_first-2.ensures looks ready known_two small_two)
