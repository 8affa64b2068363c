use Rattle.std.proofs.Common.{◌∙◌, arith}
use Rattle.sheet.proofs.Rows.{number_marked}
use Rattle.sheet.proofs.sheet.Sheet.count.Goals as goal

pub returns : goal.returns
returns c =
    let s = c.args.self.now in
    c.count.ensures ∙ number_marked s.rows s.marks.bits 32 s.room (omega arith)
