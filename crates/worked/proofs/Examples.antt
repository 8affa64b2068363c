-- The worked examples, by computation. Assumes nothing.
use Rattle.std.proofs.Common.{ℕ, ◌<◌, min, Bool, true, false, cond, ◌&&◌, ltb, List, [], ◌∷◌, Some, None, Option, refl, arith}
use Rattle.std.specs.Option.{option_map}
use Rattle.grammar.specs.Meaning.{Below, word_of}
use Rattle.grammar.specs.Listed.{letter, written, of_record, hit, first_hit, listed}
use Rattle.grammar.specs.Twinned.{Closed}
use Rattle.grammar.specs.declared.records.RuleRecord.{RuleRecord}
use Rattle.worked.specs.Seven.{seven_rules, Examples}
use Rattle.worked.proofs.SevenNorms.{normed}

-- where the words of the records stay below the count, so do those of the grammar
abbrev Words : {T : Type 0} → ℕ → List (RuleRecord T) → Type 0
Words n [] = Unit {0}
Words n (r ∷ rs) = Below n (written r.word) × Words n rs

module _ {T : Type 0} (n A a : ℕ) where
  first_below : (rs : List (RuleRecord T)) → Words n rs → Below n (word_of (option_map of_record (first_hit A a rs)))
  first_below [] h = tt
  first_below (r ∷ rs) h = at (hit A a r) (first_below rs h.1)
    where
      at : (b : Bool) → Below n (word_of (option_map of_record (first_hit A a rs))) → Below n (word_of (option_map of_record (cond b (Some r) (first_hit A a rs))))
      at true ih = h.0
      at false ih = ih

  tested_below : (b : Bool) (o : Option (RuleRecord T)) → Below n (word_of (option_map of_record o)) → Below n (word_of (cond b (option_map of_record o) None))
  tested_below true o h = h
  tested_below false o h = tt

closed : Closed (listed 7 seven_rules)
closed A a = tested_below 7 A a (ltb A (min 255 7) && letter a) (first_hit A a seven_rules) (first_below 7 A a seven_rules small)
  where
    small : Words 7 seven_rules
    small = let z : 0 < 7 = omega arith in let o : 1 < 7 = omega arith in (tt, ((z, (z, tt)), (tt, ((z, (o, tt)), ((z, tt), ((z, (z, (z, tt))), (tt, ((z, (z, (z, tt))), (tt, ((z, (z, tt)), ((z, tt), ((z, tt), tt))))))))))))

pub examples : Examples
examples = record {
  bb_takes = refl;
  b_takes_not = refl;
  empty = refl;
  b_takes = refl;
  f_takes = refl;
  k_takes = refl;
  q_takes = refl;
  no_letter = refl;
  closed = closed;
  first_takes = refl;
  second_takes = refl;
  normed = normed;
  first_record = refl;
  five_symbols = refl;
  beyond_count = refl;
  small_letter = refl;
}
