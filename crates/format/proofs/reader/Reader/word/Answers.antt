use Rattle.std.proofs.Common.{sym}
use Rattle.format.proofs.Fields.{single_below, bytewise_more}
use Rattle.format.proofs.Items.{on_more}
use Rattle.format.proofs.reader.Reader.word.Goals as goal

pub loop-preserved : goal.loop-preserved
loop-preserved c =
    let w = c.loop.invariant in
    let read = sym c.in_ok-symbol_below.ensures.read in
    on_more w c.loop-test.true read c.in_ok-symbol_below.ensures.total (bytewise_more _ w.items _ _ _ w.known (single_below c.loop.self.total c.args.count c.loop.self.left.now _ read))
