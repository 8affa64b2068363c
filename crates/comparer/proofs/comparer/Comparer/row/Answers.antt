use Rattle.std.proofs.Common.{sym, ap, ◌∙◌}
use Rattle.std.specs.Option.{option_map}
use Rattle.norm.specs.Tabled.{held}
use Rattle.comparer.proofs.Told.{row_told}
use Rattle.comparer.proofs.comparer.Comparer.row.Goals as goal

pub returns-clause-over : goal.returns-clause-over
returns-clause-over g c =
    row_told g.T.Tally.group c.args.self.now c.in-Ok.desk.now c.in-Ok.ensures c.args.symbol c.in_ok-row.field-0.now c.as_slice-word.result c.offset.result (sym c.row.ensures ∙ ap (option_map (λ r. held r.now)) c.in_ok-row.was)
    c.as_slice-word.ensures c.offset.ensures
