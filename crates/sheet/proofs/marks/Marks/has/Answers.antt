use Rattle.std.proofs.Common.{sym, ◌∙◌, le-ltb}
use Rattle.sheet.proofs.Digits.{none_above}
use Rattle.sheet.proofs.marks.Marks.has.Goals as goal

pub returns-else-symbol-lt-ROWS : goal.returns-else-symbol-lt-ROWS
returns-else-symbol-lt-ROWS c = le-ltb c.args.symbol 32 c.if-symbol-lt-ROWS.false ∙ sym (none_above c.args.self.now.bits c.args.symbol c.args.self.now.fits c.if-symbol-lt-ROWS.false)
