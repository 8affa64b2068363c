use Rattle.agreement.proofs.Sides.{form_normal}
use Rattle.agreement.proofs.workspace.Workspace.normal_form.Goals as goal

pub returns : goal.returns
returns g c = λ s V ready known small. form_normal g.T.Tally.group s V c.args.self.now ready c.args.word.now known small c.replace.result c.replace.ensures
