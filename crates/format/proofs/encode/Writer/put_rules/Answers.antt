use Rattle.std.proofs.Common.{ap, arith}
use Rattle.std.proofs.lemmas.List.{take_all}
use Rattle.layout.specs.Contents.{joined}
use Rattle.format.specs.Lent.{low_rule}
use Rattle.format.proofs.Writes.{puts_as, puts_item}
use Rattle.format.proofs.encode.Writer.put_rules.Goals as goal

pub loop-entry-preserved : goal.loop-entry-preserved
loop-entry-preserved g c =
    let written = puts_as (ap low_rule c.lend.ensures) c.write_to.ensures in
    puts_item (λ r. low_rule (g.R.Entry.rule c.args.kinds r)) c.args.rules.now c.loop-entry.entry-index c.entry-item.result c.loop-entry-test.true c.entry-item.is (omega arith) c.loop-entry.invariant written

pub returns : goal.returns
returns g c = puts_as (ap (joined (λ r. low_rule (g.R.Entry.rule c.args.kinds r))) (take_all c.loop-entry.entry-index c.args.rules.now c.loop-entry-test.false)) c.loop-entry.invariant
