-- A list grammar's meaning is well-formed, whatever its records hold. Assumes nothing.
use Rattle.std.specs.Prelude.{◌≡◌, ℕ, ◌≤◌, min, Bool, true, false, cond, ◌&&◌, List, [], ◌∷◌, length, take, is_some, Some, None, Option, nat_le, nat_lt, refl}
use Rattle.std.proofs.Common.{arith, length-take, ltb-true, leb-true}
use Rattle.std.proofs.lemmas.List.{length-map}
use Rattle.std.proofs.lemmas.Bool.{and_parts}
use Rattle.std.specs.Option.{option_map}
use Rattle.grammar.specs.Meaning.{Word, Weighted, word_of, Each, WellFormed}
use Rattle.grammar.specs.Listed.{letter, capped, written, of_record, first_hit, listed}
use Rattle.grammar.specs.declared.records.RuleWord.{RuleWord}
use Rattle.grammar.specs.declared.records.RuleRecord.{RuleRecord}

pub capped_bytes : (w : Word) → Each (λ B. B ≤ 255) (capped w)
capped_bytes [] = tt
capped_bytes (B ∷ w) = (omega arith, capped_bytes w)

pub written_short : (w : RuleWord) → length (written w) ≤ 255
written_short w = simp (length-map, length-take) (omega arith)

module _ {T : Type 0} where
  -- a rule under a test
  pub tested_some : (b : Bool) (o : Option (Weighted T)) → is_some (cond b o None) ≡ true → b ≡ true
  tested_some true o e = refl
  tested_some false o e = e

  pub tested_word : (P : Word → Type 0) → P [] → (b : Bool) (o : Option (RuleRecord T)) → ((r : RuleRecord T) → P (written r.word)) → P (word_of (cond b (option_map of_record o) None))
  tested_word P none true (Some r) h = h r
  tested_word P none true None h = none
  tested_word P none false o h = none

  pub listed_wellformed : (n : ℕ) (rs : List (RuleRecord T)) → WellFormed (listed n rs)
  listed_wellformed n rs = record {
    few = omega arith;
    counted = λ A a e. ltb-true A (min 255 n) (tested A a e).0;
    lettered = λ A a e. let h = and_parts (nat_le 65 a) (nat_le a 90) (tested A a e).1 in (leb-true 65 a h.0, leb-true a 90 h.1);
    short = λ A a. tested_word (λ w. length w ≤ 255) (omega arith) (nat_lt A (min 255 n) && letter a) (first_hit A a rs) (λ r. written_short r.word);
    bytes = λ A a. tested_word (Each (λ B. B ≤ 255)) tt (nat_lt A (min 255 n) && letter a) (first_hit A a rs) (λ r. capped_bytes (take (min 5 r.word.length) r.word.symbols));
  }
    where
      tested : (A a : ℕ) → is_some ((listed n rs).rule A a) ≡ true → (nat_lt A (min 255 n) ≡ true) × (letter a ≡ true)
      tested A a e = and_parts (nat_lt A (min 255 n)) (letter a) (tested_some (nat_lt A (min 255 n) && letter a) (option_map of_record (first_hit A a rs)) e)
