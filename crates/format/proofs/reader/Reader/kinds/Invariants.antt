use Rattle.std.proofs.Common.{◌≡◌, ℕ}
use Rattle.std.specs.Option.{option_map}
use Rattle.layout.specs.Reading.{kind}
use Rattle.format.specs.Views.{newest}
use Rattle.format.proofs.Fields.{Bytewise}
use Rattle.format.proofs.Items.{On}
use Rattle.format.proofs.reader.Reader.kinds.Given as goal

abbrev pub invariant-loop : goal.invariant-loop
invariant-loop l = On kind l.fn.self.total l.count l.body (λ xs left. Bytewise l.body xs left × (option_map (λ (x : ℕ). x) (newest xs) ≡ l.before)) l.counter l.self
