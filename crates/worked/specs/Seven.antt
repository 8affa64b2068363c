-- The example grammar with seven symbols b c d e f k q, numbered 0 to 6, over foot lengths, and what is worked out by hand of it.
--
-- foot n          the foot length of n millimetres
-- entry A a n w mm the record of a rule: symbol, letter, length, five symbols, millimetres
-- rule A a w mm    the record of a rule with the word w, filled up with zeros
-- seven_rules     its rules
-- seven           its meaning
-- millimetres o   the number of a tally, if there is one
-- taken M w s      the number of millimetres with which w takes s
-- norm, first      the norms and the first inputs of the symbols
-- Examples         the worked examples
--
-- Assumes nothing.
use Rattle.std.specs.Prelude.{◌≡◌, ℕ, ◌-◌, ◌%◌, ◌^◌, List, [], ◌∷◌, ◌++◌, length, replicate, Some, None, Option, slice_index, slice_index_or}
use Rattle.std.proofs.Common.{arith}
use Rattle.std.specs.Option.{option_map}
use Rattle.tally.specs.Makes.{foot_of, foot_group}
use Rattle.tally.specs.declared.foot_mm.FootMm.{FootMm}
use Rattle.grammar.specs.Meaning.{Word, Input, Meaning, word_of}
use Rattle.grammar.specs.Takes.{takes}
use Rattle.grammar.specs.Listed.{listed}
use Rattle.grammar.specs.Twinned.{twinned, raised, Closed}
use Rattle.grammar.specs.declared.records.RuleRecord.{RuleRecord}
use Rattle.norm.specs.Norms.{Normed}

abbrev pub foot : ℕ → FootMm
foot n = foot_of (n % 2 ^ 32) (omega arith)

abbrev pub entry : ℕ → ℕ → ℕ → List ℕ → ℕ → RuleRecord FootMm
entry A a n w mm = record { symbol = A; letter = a; word = record { length = n; symbols = w }; tally = foot mm }

abbrev pub rule : ℕ → ℕ → Word → ℕ → RuleRecord FootMm
rule A a w mm = entry A a (length w) (w ++ replicate (5 - length w) 0) mm

abbrev b : ℕ
b = 0

abbrev c : ℕ
c = 1

abbrev L : ℕ
L = 76

abbrev P : ℕ
P = 80

abbrev S : ℕ
S = 83

abbrev pub seven_rules : List (RuleRecord FootMm)
seven_rules =
    rule b L [] 270 ∷ rule b S (b ∷ b ∷ []) 0
    ∷ rule c L [] 270 ∷ rule c S (b ∷ c ∷ []) 0
    ∷ rule 2 L (b ∷ []) 270 ∷ rule 2 S (b ∷ b ∷ b ∷ []) 0
    ∷ rule 3 L [] 270 ∷ rule 3 S (b ∷ b ∷ b ∷ []) 0
    ∷ rule 4 L [] 265 ∷ rule 4 S (b ∷ b ∷ []) 0
    ∷ rule 5 P (b ∷ []) 10 ∷ rule 6 P (b ∷ []) 0 ∷ []

abbrev pub seven : Meaning FootMm
seven = listed 7 seven_rules

abbrev pub millimetres : Option FootMm → Option ℕ
millimetres = option_map (λ x. x.mm)

abbrev pub taken : Meaning FootMm → Word → Input → Option ℕ
taken M w s = millimetres (takes foot_group M w s)

abbrev pub norm : ℕ → ℕ
norm = slice_index (1 ∷ 1 ∷ 2 ∷ 1 ∷ 1 ∷ 2 ∷ 2 ∷ [])

abbrev pub first : ℕ → Input
first A = slice_index_or ((L ∷ []) ∷ (L ∷ []) ∷ (L ∷ L ∷ []) ∷ (L ∷ []) ∷ (L ∷ []) ∷ (P ∷ L ∷ []) ∷ (P ∷ L ∷ []) ∷ []) A []

pub record Examples : Type 0 where
  -- bb takes SLLL with 810; b does not take SL
  pub bb_takes : taken seven (b ∷ b ∷ []) (S ∷ L ∷ L ∷ L ∷ []) ≡ Some 810
  pub b_takes_not : taken seven (b ∷ []) (S ∷ L ∷ []) ≡ None
  -- the empty word takes the empty input with 0
  pub empty : taken seven [] [] ≡ Some 0
  -- b and f take L with 270 and 265; k and q take PL with 280 and 270
  pub b_takes : taken seven (b ∷ []) (L ∷ []) ≡ Some 270
  pub f_takes : taken seven (4 ∷ []) (L ∷ []) ≡ Some 265
  pub k_takes : taken seven (5 ∷ []) (P ∷ L ∷ []) ≡ Some 280
  pub q_takes : taken seven (6 ∷ []) (P ∷ L ∷ []) ≡ Some 270
  -- a byte that is no letter is no step: b does not take the byte of a small l
  pub no_letter : taken seven (b ∷ []) (108 ∷ []) ≡ None
  -- bb takes SLLL in both parts of the twin of the grammar with itself, whose words stay below its count
  pub closed : Closed seven
  pub first_takes : taken (twinned seven seven) (b ∷ b ∷ []) (S ∷ L ∷ L ∷ L ∷ []) ≡ Some 810
  pub second_takes : taken (twinned seven seven) (raised 7 (b ∷ b ∷ [])) (S ∷ L ∷ L ∷ L ∷ []) ≡ Some 810
  -- the norms and the first inputs
  pub normed : Normed foot_group seven norm first
  -- of two records for one symbol and letter the first counts; a length above five counts as five;
  -- records at a symbol that is not below the count, or at a byte that is no letter, mean nothing
  pub first_record : taken (listed 1 (rule b L [] 1 ∷ rule b L [] 2 ∷ [])) (b ∷ []) (L ∷ []) ≡ Some 1
  pub five_symbols : word_of ((listed 1 (entry b L 9 (b ∷ b ∷ b ∷ b ∷ b ∷ []) 0 ∷ [])).rule b L) ≡ b ∷ b ∷ b ∷ b ∷ b ∷ []
  pub beyond_count : taken (listed 1 (rule c L [] 1 ∷ [])) (c ∷ []) (L ∷ []) ≡ None
  pub small_letter : taken (listed 1 (rule b 108 [] 1 ∷ [])) (b ∷ []) (108 ∷ []) ≡ None
