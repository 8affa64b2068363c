use Rattle.std.proofs.Common.{refl}
use Rattle.norm.specs.Ruled.{rules_of}
use Rattle.norm.proofs.Lowering.{reached_none}
use Rattle.norm.proofs.measure.Measuring.settled.Goals as goal

pub loop-init : goal.loop-init
loop-init c = let t = c.args.words.now in (refl, reached_none t.count 32 (rules_of t))
