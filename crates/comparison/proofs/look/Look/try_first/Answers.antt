use Rattle.std.proofs.Common.{◌≡◌, ◌≤◌, [], ◌++◌, length, take, sym, refl, ◌∙◌, subst}
use Rattle.norm.specs.Norms.{firsts}
use Rattle.norm.specs.Skeletons.{first_at}
use Rattle.walk.specs.Inputs.{letters, most}
use Rattle.comparison.specs.Trying.{Passes, Fails}
use Rattle.comparison.proofs.Completing.{written, match_map, first_held, first_fits}
use Rattle.comparison.proofs.look.Look.try_first.Goals as goal

pub returns : goal.returns
returns g c = λ looks ready known small.
    let 𝓣 = g.T.Tally.group in
    let s = c.args.survey.now in
    let l = c.args.self.now in
    let w = c.args.word.now in
    let t = letters c.lead_in.new.input in
    let tried = written (λ k w. t ≡ take most (firsts (first_at k) w ++ [])) c.skeleton.result.now s.skeleton w w c.skeleton.ensures refl known small c.lead_in.ensures in
    let held = first_held 𝓣 s w t known small tried in
    let is = c.as_slice.ensures ∙ held in
    match_map c.failing.result (subst (Passes 𝓣 s l) is) (λ f h. (subst (Fails 𝓣 s l f) c.as_slice.ensures h, held))
    (c.failing.ensures looks ready (subst (λ v. length v ≤ most) (sym is) (first_fits 𝓣 s w known small)))
