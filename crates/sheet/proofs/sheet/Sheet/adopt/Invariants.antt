use Rattle.sheet.proofs.Adopting.{Adopted}
use Rattle.sheet.proofs.sheet.Sheet.adopt.Given as goal

abbrev pub invariant-loop-symbol : goal.invariant-loop-symbol
invariant-loop-symbol l = Adopted l.fn.other.rows.now l.fn.self.rows l.fn.other.marks.bits l.fn.self.marks.bits l.symbol l.self.rows l.self.marks.bits
