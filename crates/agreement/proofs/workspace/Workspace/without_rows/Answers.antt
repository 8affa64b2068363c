use Rattle.agreement.proofs.Grown.{plain_works}
use Rattle.agreement.proofs.workspace.Workspace.without_rows.Goals as goal

pub returns : goal.returns
returns g c = plain_works g.T.Tally.group _ c.plain.ensures
