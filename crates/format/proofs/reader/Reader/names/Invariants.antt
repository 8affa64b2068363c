use Rattle.layout.specs.Reading.{name}
use Rattle.format.proofs.Fields.{Bytewise}
use Rattle.format.proofs.Items.{On}
use Rattle.format.proofs.reader.Reader.names.Given as goal

abbrev pub invariant-loop : goal.invariant-loop
invariant-loop l = On name l.fn.self.total l.count l.body (Bytewise l.body) l.counter l.self
