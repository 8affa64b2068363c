use Rattle.std.proofs.Common.{◌<◌, set, sym, ap, ◌∙◌, arith}
use Rattle.std.proofs.lemmas.Option.{slice_get_read}
use Rattle.sheet.proofs.Adopting.{begun, skipped, put, adopted_rows, adopted_marks, adopted_view}
use Rattle.sheet.proofs.sheet.Sheet.adopt.Goals as goal

pub loop-symbol-init : goal.loop-symbol-init
loop-symbol-init c = begun c.args.other.rows.now c.args.self.now.rows c.args.other.marks.bits c.args.self.now.marks.bits

pub loop-symbol-preserved-then-not-has : goal.loop-symbol-preserved-then-not-has
loop-symbol-preserved-then-not-has c = skipped _ _ _ _ _ _ _ (sym c.has.ensures ∙ c.if-not-has.true) c.loop-symbol.invariant

pub loop-symbol-preserved : goal.loop-symbol-preserved
loop-symbol-preserved c =
    let s = c.loop-symbol.self in
    let o = c.args.other in
    let k = c.loop-symbol.symbol in
    let small : k < 32 = omega (arith, c.loop-symbol-test.true) in
    put o.rows.now c.args.self.now.rows o.marks.bits c.args.self.now.marks.bits k s.rows c.write.new.self.rows s.marks.bits c.write.new.self.marks.bits c.index-other-symbol.result
    (omega (arith, s.room)) small (sym c.has.ensures ∙ c.if-not-has.false) (slice_get_read o.rows.now 32 k c.index-other-symbol.result (sym o.room) small c.index-other-symbol.is) (c.write.ensures.rows ∙ ap (set s.rows k) (sym c.index-other-symbol.is)) c.write.ensures.marks
    c.loop-symbol.invariant

pub returns-clause-rows : goal.returns-clause-rows
returns-clause-rows c = adopted_rows _ _ _ _ c.loop-symbol.symbol _ _ c.loop-symbol-test.false c.args.other.marks.fits c.loop-symbol.invariant

pub returns-clause-marks : goal.returns-clause-marks
returns-clause-marks c = adopted_marks _ _ _ _ c.loop-symbol.symbol _ _ c.loop-symbol-test.false c.args.other.marks.fits c.loop-symbol.invariant

pub returns-clause-view : goal.returns-clause-view
returns-clause-view c = adopted_view _ _ _ _ c.loop-symbol.symbol _ _ c.loop-symbol-test.false c.args.other.marks.fits c.loop-symbol.invariant c.args.other.room
