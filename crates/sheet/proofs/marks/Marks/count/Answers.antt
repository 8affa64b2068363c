use Rattle.std.proofs.Common.{◌≡◌, ◌%◌, ◌^◌, sym, ap, ◌∙◌, arith}
use lib.Count.{ones}
use Rattle.sheet.proofs.Digits.{number_ones}
use Rattle.sheet.proofs.marks.Marks.count.Goals as goal

pub returns : goal.returns
returns c =
    let m = c.args.self.now in
    let fits = m.fits in
    let whole : m.bits % 2 ^ 32 ≡ m.bits = omega arith in
    ap ones (sym whole) ∙ number_ones m.bits 32
