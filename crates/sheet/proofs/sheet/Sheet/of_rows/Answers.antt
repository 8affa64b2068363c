use Rattle.format.specs.Views.{row_of}
use Rattle.sheet.specs.Rowed.{shows}
use Rattle.sheet.proofs.OneByOne.{one_more, kept_whole, done}
use Rattle.sheet.proofs.sheet.Sheet.of_rows.Goals as goal

pub loop-row-preserved : goal.loop-row-preserved
loop-row-preserved c = λ rs h e.
    let V = shows c.loop-row.sheet in
    let W = shows c.write.new.self in
    let x = row_of c.in-Some.row in
    one_more rs c.loop-row.row-iterator.bytes.now c.next.new.self.bytes.now V W x c.in-Some.ensures.steps (kept_whole V W x _ c.row_of.ensures c.write.ensures.view) (c.loop-row.invariant rs h e)

pub returns : goal.returns
returns c = λ rs h e. done rs c.loop-row.row-iterator.bytes.now (shows c.loop-row.sheet) c.in-None.ensures.steps.0 (c.loop-row.invariant rs h e)
