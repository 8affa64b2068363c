use Rattle.std.proofs.Common.{ap, arith}
use Rattle.std.proofs.lemmas.List.{take_all}
use Rattle.layout.specs.Contents.{joined}
use Rattle.format.proofs.Writes.{puts_as, puts_item}
use Rattle.format.proofs.encode.Writer.put_all.Goals as goal

pub loop-item-preserved : goal.loop-item-preserved
loop-item-preserved g c = puts_item g.T.Encode.bytes c.args.items.now c.loop-item.item-index c.item-item.result c.loop-item-test.true c.item-item.is (omega arith) c.loop-item.invariant c.write_to.ensures

pub returns : goal.returns
returns g c = puts_as (ap (joined g.T.Encode.bytes) (take_all c.loop-item.item-index c.args.items.now c.loop-item-test.false)) c.loop-item.invariant
