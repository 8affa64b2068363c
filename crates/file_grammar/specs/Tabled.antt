-- The grammar that a table of rules means.
--
-- number_of bs       the number in the first four bytes, high first; a byte beyond the end is 0
-- numbers_of k bs    the first k numbers
-- word_of k bs       the word of the rule that bs begin with, behind k numbers; of its length at most 4 count
-- rule_of k bs       the rule that bs begin with: symbol, letter, k numbers, length, word; a symbol of the word is at most 255
-- from_place bs p    the bytes behind the first p - 1; none for the place 0
-- bytes_at t A a     the bytes that begin with the rule at A and a
-- tabled made t      the grammar of the table t, tallies made of two numbers
--
-- Assumes nothing.
use Rattle.std.specs.Prelude.{ℕ, zero, suc, ◌+◌, ◌*◌, min, cond, ◌&&◌, List, [], ◌∷◌, take, drop, Some, None, Option, nat_lt, slice_index}
use Rattle.std.specs.Option.{option_map}
use Rattle.grammar.specs.Meaning.{Word, Meaning}
use Rattle.grammar.specs.Listed.{letter, capped}
use Rattle.grammar.specs.Places.{index}
use Rattle.layout.specs.Contents.{FileRule}
use Rattle.file_grammar.specs.Filed.{weighed}
use Rattle.file_grammar.specs.declared.rule_table.RuleTable.{RuleTable}

abbrev pub number_of : List ℕ → ℕ
number_of bs = 256 * (256 * (256 * slice_index bs 0 + slice_index bs 1) + slice_index bs 2) + slice_index bs 3

abbrev pub numbers_of : ℕ → List ℕ → List ℕ
numbers_of zero bs = []
numbers_of (suc k) bs = number_of bs ∷ numbers_of k (drop 4 bs)

abbrev pub word_of : ℕ → List ℕ → Word
word_of k bs = take (min 4 (slice_index bs (4 * k + 2))) (drop (4 * k + 3) bs)

abbrev pub rule_of : ℕ → List ℕ → FileRule
rule_of k bs = record { symbol = slice_index bs 0; letter = slice_index bs 1; numbers = numbers_of k (drop 2 bs); word = capped (word_of k bs) }

abbrev pub from_place : List ℕ → ℕ → Option (List ℕ)
from_place bs zero = None
from_place bs (suc p) = Some (drop p bs)

abbrev pub bytes_at : RuleTable → ℕ → ℕ → Option (List ℕ)
bytes_at t A a = cond (nat_lt A (min 255 t.count) && letter a) (from_place t.rules.now (slice_index t.places (index A a))) None

abbrev pub tabled : {T : Type 0} → (ℕ → ℕ → T) → RuleTable → Meaning T
tabled made t = record {
  count = min 255 t.count;
  rule = λ A a. option_map (λ bs. weighed made (rule_of t.kinds bs)) (bytes_at t A a);
}
