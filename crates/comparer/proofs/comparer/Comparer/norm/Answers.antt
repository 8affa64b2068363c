use Rattle.std.proofs.Common.{arith}
use Rattle.comparer.proofs.Told.{no_norm, norm_told}
use Rattle.comparer.proofs.comparer.Comparer.norm.Goals as goal

pub returns-then-symbol-count-clause-over : goal.returns-then-symbol-count-clause-over
returns-then-symbol-count-clause-over g c = no_norm c.args.self.now c.in-Ok.desk.now c.in-Ok.ensures c.args.symbol c.count.result c.count.ensures (omega arith)

pub returns-clause-over : goal.returns-clause-over
returns-clause-over g c = norm_told c.args.self.now c.in-Ok.desk.now c.in-Ok.ensures c.args.symbol c.count.result c.count.ensures (omega arith) c.norm.result c.skeleton.result.now c.skeleton.ensures c.norm.ensures
