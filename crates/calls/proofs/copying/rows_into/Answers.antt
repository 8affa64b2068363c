use Rattle.std.proofs.Common.{◌∙◌, arith}
use Rattle.sheet.specs.Rowed.{shown}
use Rattle.calls.proofs.Sections.{count_rows, count_small, count_written, row_written, all_written}
use Rattle.calls.proofs.copying.rows_into.Goals as goal

pub overflow_cast-count : goal.overflow_cast-count
overflow_cast-count c = let r = c.args.rows in omega (arith, c.count.ensures, count_small r.rows.now r.marks.bits r.room)

pub loop-symbol-init : goal.loop-symbol-init
loop-symbol-init c =
    let r = c.args.rows in
    (omega arith, count_written (shown r) c.count.result (c.count.ensures ∙ count_rows r.rows.now r.marks.bits r.room) c.put-at.ensures)

pub loop-symbol-preserved : goal.loop-symbol-preserved
loop-symbol-preserved c =
    let next = c.in-Some.ensures in
    (let small = next.0 in omega arith, row_written (shown c.args.rows) c.loop-symbol.from c.in-Some.symbol c.in-Some.row.now c.as_slice.result.now (omega arith) next.1 next.2 c.as_slice.ensures c.loop-symbol.invariant.1 c.put-at-in-Some.ensures c.put-at-in-Some-2.ensures)

pub returns : goal.returns
returns c = all_written (shown c.args.rows) c.loop-symbol.from c.loop-symbol.invariant.0 c.in_default.ensures c.loop-symbol.invariant.1
