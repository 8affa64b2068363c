use Rattle.std.proofs.Common.{rules, sym, ◌∙◌, Some}
use Rattle.survey.specs.Surveyed.{surveyed}
use Rattle.comparison.proofs.Tried.{derived_is, sums_alike}
use Rattle.comparison.proofs.look.Look.alike.Goals as goal

pub returns-in-Ok-Some-Ok-Some : goal.returns-in-Ok-Some-Ok-Some
returns-in-Ok-Some-Ok-Some g c = λ fits.
    let 𝓣 = g.T.Tally.group in
    let M = surveyed c.args.survey.now in
    let P = c.args.self.now.pair in
    let i = c.in-Ok-Some-Ok-Some in
    let one = derived_is 𝓣 M P.one.now c.args.input.now (Some i.one) fits (search rules) in
    let two = derived_is 𝓣 M P.two.now c.args.input.now (Some i.two) fits (search rules) in
    let even = sums_alike 𝓣 M P.before_one P.before_two i.one i.two P.one.now P.two.now c.args.input.now one two in
    let met = g.met.T.Tally.equal c.add.result c.add-in-Ok-Some-Ok-Some.result c.eq.result c.eq.ensures in
    (λ e. even.1 (sym c.add.ensures ∙ met.0 e ∙ c.add-in-Ok-Some-Ok-Some.ensures), λ h. met.1 (c.add.ensures ∙ even.0 h ∙ sym c.add-in-Ok-Some-Ok-Some.ensures))
