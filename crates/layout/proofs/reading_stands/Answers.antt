use Rattle.layout.proofs.Any.{any_law}
use Rattle.layout.proofs.KindBytes.{kind_bytes}
use Rattle.layout.proofs.Law.{file_law, one_contents}
use Rattle.layout.proofs.reading_stands.Goals as goal

pub returns : goal.returns
returns c = record { law = file_law; one = one_contents; any = any_law; kinds = kind_bytes }
