-- The small cases, by computation. Assumes nothing.
use Rattle.std.proofs.Common.{refl}
use Rattle.std.specs.Fmt.{digits}
use Rattle.asking.specs.Examples.{Examples}

pub examples : Examples
unfolding digits
examples = record {
  word = refl;
  empty = refl;
  stray = refl;
  minus = refl;
  less = refl;
  more = refl;
  odd = refl;
  zero = refl;
  both = refl;
  one_of_two = refl;
  half = refl;
  in_both = refl;
  in_one = refl;
  taken = refl;
  bare = refl;
  not_taken = refl;
  different = refl;
  by_nothing = refl;
  asked = refl;
  in_front = refl;
  behind = refl;
  at_both = refl;
  too_few = refl;
  other_option = refl;
}
