use Rattle.std.proofs.Common.{◌/◌, ◌^◌, refl, div-le_self, arith}
use Rattle.sheet.proofs.Digits.{none_above, none_from, least_from}
use Rattle.sheet.proofs.marks.Marks.next.Goals as goal

pub returns-then-from-ge-ROWS : goal.returns-then-from-ge-ROWS
returns-then-from-ge-ROWS c = λ A h. let l = c.if-from-ge-ROWS.true in none_above c.args.self.now.bits A c.args.self.now.fits (omega arith)

pub returns-then-rest-eq0 : goal.returns-then-rest-eq0
returns-then-rest-eq0 c = λ A h. none_from c.args.self.now.bits c.args.from c.if-rest-eq0.true A h

pub returns : goal.returns
returns c =
    let m = c.args.self.now in
    let k = c.args.from in
    let fits = m.fits in
    let less = div-le_self m.bits (2 ^ k) in
    least_from m.bits k c.if-from-ge-ROWS.false fits (m.bits / 2 ^ k) refl (let ne = c.if-rest-eq0.false in omega arith) (omega arith)
