-- The worked file, by computation. Assumes nothing.
use Rattle.std.proofs.Common.{refl}
use Rattle.writing.specs.Example.{Examples}

pub examples : Examples
examples = record { contents = refl; bytes = refl; names = refl; more = refl; capital = refl; repeated = refl; falling = refl; three = refl }
