use Rattle.std.proofs.Common.{not, ap, ◌∙◌}
use Rattle.format.proofs.Absent.{absent_reverse}
use Rattle.format.proofs.lists.is_absent.Goals as goal

pub returns : goal.returns
returns c = ap not c.contains.ensures.value ∙ absent_reverse c.args.byte c.args.before.now
