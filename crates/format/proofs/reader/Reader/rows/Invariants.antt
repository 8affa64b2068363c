use Rattle.std.proofs.Common.{◌≡◌}
use Rattle.std.specs.Option.{option_map}
use Rattle.layout.specs.Reading.{row}
use Rattle.format.specs.Views.{newest, row_head}
use Rattle.format.proofs.Items.{On}
use Rattle.format.proofs.reader.Reader.rows.Given as goal

abbrev pub invariant-loop : goal.invariant-loop
invariant-loop l = On (λ t. row t l.count) l.fn.self.total l.size l.body (λ xs _. option_map row_head (newest xs) ≡ l.before) l.counter l.self
