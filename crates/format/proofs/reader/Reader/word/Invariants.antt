use Rattle.layout.specs.Reading.{below}
use Rattle.format.proofs.Fields.{Bytewise}
use Rattle.format.proofs.Items.{On}
use Rattle.format.proofs.reader.Reader.word.Given as goal

abbrev pub invariant-loop : goal.invariant-loop
invariant-loop l = On (λ t _. below t l.count) l.fn.self.total l.len l.body (Bytewise l.body) l.counter l.self
