use Rattle.std.proofs.Common.{◌&&◌, not, reverse, sym, ap, ◌∙◌}
use Rattle.layout.specs.Reading.{absent}
use Rattle.format.proofs.Absent.{absent_reverse}
use Rattle.writing.proofs.checks.is_new_name.Goals as goal

pub returns-then-is_name : goal.returns-then-is_name
returns-then-is_name c =
    ap not c.contains.ensures.value ∙ absent_reverse c.args.byte c.args.before.now
    ∙ ap (λ b. b && absent c.args.byte (reverse c.args.before.now)) (sym c.if-is_name.true ∙ c.is_name.ensures)
