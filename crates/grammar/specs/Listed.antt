-- The grammar that a list of rule records means.
--
-- letter a         the test whether a is a letter
-- capped w         each symbol of w, at most 255 (a byte is so already; laws are owed at every number)
-- written w        the word of a record: at most five symbols, and no more than its length
-- of_record r      the rule that a record gives
-- hit A a r        the record is for the symbol A and the letter a
-- first_hit A a rs the first record for A and a
-- listed n rs      the grammar of n symbols and the records rs
-- Misses A a rs    no record of rs is for A and a
-- FirstFor A a r rs  r is the first record of rs for A and a
-- Gives n rs A a m  n symbols and the records rs give the rule m at A and a
-- ListLaw n rs     the grammar has just the rules that its records give
--
-- Assumes nothing.
use Rattle.std.specs.Prelude.{◌≡◌, ℕ, ◌<◌, min, Bool, cond, ◌&&◌, ◌↔◌, List, [], ◌∷◌, ◌++◌, map, take, Some, None, Option, ◌==◌, nat_le, nat_lt}
use Rattle.std.specs.Option.{option_map}
use Rattle.grammar.specs.Meaning.{Word, Weighted, Meaning, Letter}
use Rattle.grammar.specs.declared.records.RuleWord.{RuleWord}
use Rattle.grammar.specs.declared.records.RuleRecord.{RuleRecord}

abbrev pub letter : ℕ → Bool
letter a = nat_le 65 a && nat_le a 90

abbrev pub capped : Word → Word
capped w = map (λ B. min 255 B) w

abbrev pub written : RuleWord → Word
written w = capped (take (min 5 w.length) w.symbols)

module _ {T : Type 0} where
  abbrev pub of_record : RuleRecord T → Weighted T
  of_record r = record { word = written r.word; tally = r.tally }

  abbrev pub hit : ℕ → ℕ → RuleRecord T → Bool
  hit A a r = r.symbol == A && r.letter == a

  abbrev pub first_hit : ℕ → ℕ → List (RuleRecord T) → Option (RuleRecord T)
  first_hit A a [] = None
  first_hit A a (r ∷ rs) = cond (hit A a r) (Some r) (first_hit A a rs)

  abbrev pub listed : ℕ → List (RuleRecord T) → Meaning T
  listed n rs = record {
    count = min 255 n;
    rule = λ A a. cond (nat_lt A (min 255 n) && letter a) (option_map of_record (first_hit A a rs)) None;
  }

  abbrev pub Misses : ℕ → ℕ → List (RuleRecord T) → Type 0
  Misses A a [] = Unit {0}
  Misses A a (r ∷ rs) = (¬ ((r.symbol ≡ A) × (r.letter ≡ a))) × Misses A a rs

  pub record FirstFor (A a : ℕ) (r : RuleRecord T) (rs : List (RuleRecord T)) : Type 0 where
    pub front : List (RuleRecord T)
    pub back : List (RuleRecord T)
    pub parts : rs ≡ front ++ r ∷ back
    pub symbol : r.symbol ≡ A
    pub letter : r.letter ≡ a
    pub misses : Misses A a front

  pub record Gives (n : ℕ) (rs : List (RuleRecord T)) (A a : ℕ) (m : Weighted T) : Type 0 where
    pub counted : A < min 255 n
    pub lettered : Letter a
    pub source : RuleRecord T
    pub first : FirstFor A a source rs
    pub rule : m ≡ of_record source

  abbrev pub ListLaw : ℕ → List (RuleRecord T) → Type 0
  ListLaw n rs = (A a : ℕ) (m : Weighted T) → ((listed n rs).rule A a ≡ Some m) ↔ Gives n rs A a m
