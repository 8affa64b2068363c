use Rattle.format.proofs.Items.{bytes_of}
use Rattle.format.proofs.reader.Reader.read_of.Goals as goal

pub returns-clause-bytes : goal.returns-clause-bytes
returns-clause-bytes c = bytes_of c.args.body.now (λ i. (c.type_inv.body i).fits)
