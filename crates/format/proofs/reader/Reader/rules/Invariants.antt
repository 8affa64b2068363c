use Rattle.std.proofs.Common.{◌≡◌}
use Rattle.std.specs.Option.{option_map}
use Rattle.layout.specs.Reading.{rule}
use Rattle.format.specs.Views.{newest, rule_head}
use Rattle.format.proofs.Items.{On}
use Rattle.format.proofs.reader.Reader.rules.Given as goal

abbrev pub invariant-loop : goal.invariant-loop
invariant-loop l = On (λ t. rule t l.count l.kinds) l.fn.self.total l.size l.body (λ xs _. option_map rule_head (newest xs) ≡ l.before) l.counter l.self
