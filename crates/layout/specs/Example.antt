-- A file of 43 bytes and what it holds: two names b and c, the kind foot, four rules, and the row c with the word b.
--
-- good_bytes, good_contents   the file, and its contents
-- Examples                    the check of it, and of three damaged files
--
-- Assumes nothing.
use Rattle.std.specs.Prelude.{◌≡◌, ℕ, List, [], ◌∷◌, ◌++◌, take, Ok, Err, slice_set}
use Rattle.layout.specs.Contents.{FileRule, Contents, encode}
use Rattle.layout.specs.Reading.{checked}
use Rattle.layout.specs.declared.fault.Fault.TheVariants.{Short, Order, Symbol, Trailing, Kinds}

abbrev pub good_bytes : List ℕ
good_bytes =
    2 ∷ 98 ∷ 99 ∷ 1 ∷ 1 ∷ 0 ∷ 4
    ∷ 0 ∷ 76 ∷ 0 ∷ 0 ∷ 1 ∷ 14 ∷ 0
    ∷ 0 ∷ 83 ∷ 0 ∷ 0 ∷ 0 ∷ 0 ∷ 2 ∷ 0 ∷ 0
    ∷ 1 ∷ 76 ∷ 0 ∷ 0 ∷ 1 ∷ 14 ∷ 0
    ∷ 1 ∷ 83 ∷ 0 ∷ 0 ∷ 0 ∷ 0 ∷ 2 ∷ 0 ∷ 1
    ∷ 1 ∷ 1 ∷ 1 ∷ 0 ∷ []

abbrev rule : ℕ → ℕ → ℕ → List ℕ → FileRule
rule A a mm w = record { symbol = A; letter = a; numbers = mm ∷ []; word = w }

abbrev pub good_contents : Contents
good_contents = record {
  names = 98 ∷ 99 ∷ [];
  kinds = 1 ∷ [];
  rules = rule 0 76 270 [] ∷ rule 0 83 0 (0 ∷ 0 ∷ []) ∷ rule 1 76 270 [] ∷ rule 1 83 0 (0 ∷ 1 ∷ []) ∷ [];
  rows = record { symbol = 1; word = 0 ∷ [] } ∷ [];
}

pub record Examples : Type 0 where
  pub good : checked (1 ∷ []) good_bytes ≡ Ok good_contents
  pub back : encode good_contents ≡ good_bytes
  -- the last byte is missing; one byte more; the row's word names a symbol that is not there
  pub short : checked (1 ∷ []) (take 42 good_bytes) ≡ Err (Short 42)
  pub trailing : checked (1 ∷ []) (good_bytes ++ 0 ∷ []) ≡ Err (Trailing 43)
  pub symbol : checked (1 ∷ []) (slice_set good_bytes 42 2) ≡ Err (Symbol 42)
  -- the second rule at the letter of the first; a tally of last lengths
  pub order : checked (1 ∷ []) (slice_set good_bytes 15 76) ≡ Err (Order 14)
  pub kinds : checked (2 ∷ []) good_bytes ≡ Err Kinds
