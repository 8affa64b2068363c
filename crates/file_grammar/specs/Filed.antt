-- The grammar that the bytes of a file hold.
--
-- weighed made r            what a rule of a file gives, its tally made of two numbers; a number that it lacks is 0
-- rule_at A a rs            the rule of rs at the symbol A and the letter a
-- held made o               the grammar of checked contents; without symbols after a fault
-- file_meaning ks made bs   the grammar that bs hold, for a tally with the kinds ks that made makes of two numbers
--
-- Assumes nothing.
use Rattle.std.specs.Prelude.{ℕ, cond, ◌&&◌, List, [], ◌∷◌, length, Some, None, Ok, Err, Option, Result, ◌==◌, slice_index}
use Rattle.std.specs.Option.{option_map}
use Rattle.grammar.specs.Meaning.{Weighted, Meaning}
use Rattle.layout.specs.Contents.{FileRule, Contents}
use Rattle.layout.specs.Reading.{checked}
use Rattle.layout.specs.declared.fault.Fault.{Fault}

abbrev pub rule_at : ℕ → ℕ → List FileRule → Option FileRule
rule_at A a [] = None
rule_at A a (r ∷ rs) = cond (r.symbol == A && r.letter == a) (Some r) (rule_at A a rs)

abbrev pub weighed : {T : Type 0} → (ℕ → ℕ → T) → FileRule → Weighted T
weighed made r = record { word = r.word; tally = made (slice_index r.numbers 0) (slice_index r.numbers 1) }

abbrev pub held : {T : Type 0} → (ℕ → ℕ → T) → Result Contents Fault → Meaning T
held made (Ok c) = record { count = length c.names; rule = λ A a. option_map (weighed made) (rule_at A a c.rules) }
held made (Err f) = record { count = 0; rule = λ A a. None }

abbrev pub file_meaning : {T : Type 0} → List ℕ → (ℕ → ℕ → T) → List ℕ → Meaning T
file_meaning ks made bs = held made (checked ks bs)
