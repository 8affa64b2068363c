use Rattle.agreement.proofs.Sides.{side_there, side_none}
use Rattle.agreement.proofs.workspace.Workspace.side.Goals as goal
use Rattle.std.proofs.Common.{◌≡◌, ◌≤◌, length, refl, subst}
use Rattle.rows.specs.Replacing.{put}
use Rattle.agreement.specs.Forms.{form_of, puts, replaced}

pub returns-in_err-run : goal.returns-in_err-run
returns-in_err-run g c = λ V ready known small.
    side_none g.T.Tally.group c.args.survey.now V c.args.self.now ready c.args.word.now c.args.letter known small c.run.result c.run.ensures c.in_err-run.was _ c.from_residual.ensures

pub returns : goal.returns
returns g c = λ V ready known small.
    let 𝓣 = g.T.Tally.group in
    let ρ = puts 𝓣 c.args.self.now.forms in
    let f = c.replace-normal.result in
    side_there 𝓣 c.args.survey.now V c.args.self.now ready c.args.word.now c.args.letter known small c.run.result c.in_ok-run.run' c.run.ensures c.in_ok-run.was f (record { word = f.word; sum = c.add.result })
    (subst (λ x. length (put ρ x) ≤ 512 → form_of f ≡ replaced 𝓣 ρ x) c.word.ensures c.replace-normal.ensures) refl c.add.ensures
