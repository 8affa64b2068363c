-- A table's meaning is well-formed, whatever it holds. Assumes nothing.
use Rattle.std.specs.Prelude.{◌≡◌, ℕ, ◌≤◌, min, Bool, true, false, cond, ◌&&◌, List, [], length, is_some, Some, None, Option, nat_le, nat_lt, slice_index, refl}
use Rattle.std.proofs.Common.{arith, length-take, ltb-true, leb-true}
use Rattle.std.proofs.lemmas.List.{length-map}
use Rattle.std.proofs.lemmas.Bool.{and_parts}
use Rattle.std.specs.Option.{option_map}
use Rattle.grammar.specs.Meaning as meaning
use Rattle.grammar.specs.Meaning.{Word, Weighted, Each, WellFormed}
use Rattle.grammar.specs.Listed.{letter}
use Rattle.grammar.specs.WellListed.{capped_bytes}
use Rattle.grammar.specs.Places.{index}
use Rattle.file_grammar.specs.Tabled.{word_of, from_place, bytes_at, tabled}
use Rattle.file_grammar.specs.declared.rule_table.RuleTable.{RuleTable}

-- a rule has at most four symbols
pub word_short : (k : ℕ) (bs : List ℕ) → length (word_of k bs) ≤ 4
word_short k bs = simp length-take (omega arith)

-- what is found under a test passed it
pub tested_found : {X Y : Type 0} (f : X → Y) (b : Bool) (o : Option X) → is_some (option_map f (cond b o None)) ≡ true → b ≡ true
tested_found f true o e = refl
tested_found f false o e = e

-- the word of what is found, or none
pub found_word : {X T : Type 0} (P : Word → Type 0) (f : X → Weighted T) → P [] → ((x : X) → P (f x).word) → (o : Option X) → P (meaning.word_of (option_map f o))
found_word P f none each (Some x) = each x
found_word P f none each None = none

pub tabled_wellformed : {T : Type 0} (made : ℕ → ℕ → T) (t : RuleTable) → WellFormed (tabled made t)
tabled_wellformed made t = record {
  few = omega arith;
  counted = λ A a e. ltb-true A (min 255 t.count) (tested A a e).0;
  lettered = λ A a e. let h = and_parts (nat_le 65 a) (nat_le a 90) (tested A a e).1 in (leb-true 65 a h.0, leb-true a 90 h.1);
  short = λ A a. found_word (λ w. length w ≤ 255) _ (omega arith) (λ bs. let h = word_short t.kinds bs in simp length-map (omega arith)) (bytes_at t A a);
  bytes = λ A a. found_word (Each (λ B. B ≤ 255)) _ tt (λ bs. capped_bytes (word_of t.kinds bs)) (bytes_at t A a);
}
  where
    tested : (A a : ℕ) → is_some ((tabled made t).rule A a) ≡ true → (nat_lt A (min 255 t.count) ≡ true) × (letter a ≡ true)
    tested A a e = and_parts (nat_lt A (min 255 t.count)) (letter a) (tested_found _ (nat_lt A (min 255 t.count) && letter a) (from_place t.rules.now (slice_index t.places (index A a))) e)
