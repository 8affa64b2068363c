use Rattle.comparison.proofs.Completing.{match_map}
use Rattle.comparison.proofs.look.Look.try_lighter.Goals as goal

pub returns-then-norm_of : goal.returns-then-norm_of
returns-then-norm_of g c = λ looks ready known_one known_two small_one small_two m light_one light_two.
    match_map c.try_both.result (λ h. (h.1, h.0)) (λ f h. h) (c.try_both.ensures looks ready known_two known_one small_two small_one m light_two light_one)
