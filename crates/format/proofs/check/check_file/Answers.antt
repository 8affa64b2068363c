use Rattle.layout.proofs.Examples.{examples}
use Rattle.format.proofs.Items.{bytes_of}
use Rattle.layout.proofs.Law.{file_law, one_contents}
use Rattle.format.proofs.check.check_file.Goals as goal

pub returns : goal.returns
returns g c = record {
  value = c.parts.ensures;
  law = file_law g.T.FileTally.kinds c.args.bytes.now (bytes_of c.args.bytes.now (λ i. (c.type_inv.bytes i).fits));
  one = one_contents;
  examples = examples;
}
