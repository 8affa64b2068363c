-- The worked file, by computation. Assumes nothing.
use Rattle.std.proofs.Common.{refl}
use Rattle.layout.specs.Example.{Examples}

pub examples : Examples
examples = record { good = refl; back = refl; short = refl; trailing = refl; symbol = refl; order = refl; kinds = refl }
