-- Two words that begin apart, and the inputs that are tried when the row for their first symbols is not true.
--
-- Forked x y             x and y are apart at two different symbols behind a common front
-- Fork 𝓣 M norm first    two words with sums, apart at a later and an earlier symbol; the earlier's first input leads the later to what is left
-- later_word F           the word with the later symbol
-- earlier_word F         the word with the earlier symbol
-- row_word F             the earlier symbol and what is left, the word of the later symbol's row
-- row_with F o           the row of that word with the offset o
-- turns F c              c; and c with the earlier symbol's first input in place of the front that the earlier symbol takes
-- completed F z          the turns of z with the first input of what stands behind the later symbol
-- candidates F z         those completed from z, and from the fronts of z that the row's word and the later symbol take
-- ForkAlike F c          the two words with their sums do not differ on the first input of the common front, and then c
-- ForkOf F D x y p q     F is the fork of x with the sum p and y with the sum q: its words and sums are their normal forms under D, and the sums with these
--
-- Assumes nothing.
use Rattle.std.specs.Prelude.{◌≡◌, ℕ, ◌+◌, ◌<◌, ◌≢◌, List, [], ◌∷◌, ◌++◌, Some, Option}
use Rattle.std.specs.Option.{option_map, option_map_or, option_to_list}
use Rattle.tally.specs.Group.{Group}
use Rattle.grammar.specs.Meaning.{Word, Input, Weighted, Meaning, Below}
use Rattle.norm.specs.Words.{ran}
use Rattle.norm.specs.Norms.{norms, firsts, Earlier}
use Rattle.rows.specs.Sheets.{Sheet, Normal}
use Rattle.witness.specs.Alike.{AlikeOn, Cut, cut}

pub record Forked (x y : Word) : Type 0 where
  pub common : Word
  pub first : ℕ
  pub second : ℕ
  pub first_end : Word
  pub second_end : Word
  pub first_word : x ≡ common ++ (first ∷ first_end)
  pub second_word : y ≡ common ++ (second ∷ second_end)
  pub apart : first ≢ second

pub record Fork {T : Type 0} (𝓣 : Group T) (M : Meaning T) (norm : ℕ → ℕ) (first : ℕ → Input) : Type 0 where
  pub common : Word
  pub later : ℕ
  pub earlier : ℕ
  pub later_end : Word
  pub earlier_end : Word
  pub later_sum : T
  pub earlier_sum : T
  -- what is left of the later symbol, and the tally
  pub left : Weighted T
  pub runs : ran 𝓣 M (later ∷ []) (first earlier) ≡ Some left
  pub order : Earlier norm earlier later
  pub weighs : norm earlier + norms norm left.word ≡ norm later
  pub later_known : later < M.count
  pub earlier_known : earlier < M.count
  pub common_known : Below M.count common
  pub end_known : Below M.count later_end

-- b in place of the front
abbrev pub in_place : Input → Option Cut → List Input
in_place b o = option_to_list (option_map (λ c. b ++ c.rest) o)

-- what k makes of the front
abbrev pub from_front : (Input → List Input) → Option Cut → List Input
from_front k o = option_map_or (λ c. k c.front) o []

module _ {T : Type 0} (𝓣 : Group T) (M : Meaning T) (norm : ℕ → ℕ) (first : ℕ → Input) (F : Fork 𝓣 M norm first) where
  abbrev pub later_word : Word
  later_word = F.common ++ (F.later ∷ F.later_end)

  abbrev pub earlier_word : Word
  earlier_word = F.common ++ (F.earlier ∷ F.earlier_end)

  abbrev pub row_word : Word
  row_word = F.earlier ∷ F.left.word

  abbrev pub row_with : T → Weighted T
  row_with o = record { word = row_word; tally = o }

  abbrev pub turns : Input → List Input
  turns c = c ∷ in_place (first F.earlier) (cut M (F.earlier ∷ []) c)

  abbrev pub completed : Input → List Input
  completed z = turns (z ++ firsts first F.later_end)

  abbrev pub candidates : Input → List Input
  candidates z = completed z ++ (from_front completed (cut M row_word z) ++ from_front completed (cut M (F.later ∷ []) z))

  abbrev pub ForkAlike : Input → Type 0
  ForkAlike c = AlikeOn 𝓣 M F.later_sum F.earlier_sum later_word earlier_word (firsts first F.common ++ c)

  pub record ForkOf (D : Sheet T) (x y : Word) (p q : T) : Type 0 where
    pub one : T
    pub two : T
    pub normal_one : Normal 𝓣 D x later_word one
    pub normal_two : Normal 𝓣 D y earlier_word two
    pub sum_one : F.later_sum ≡ 𝓣.add p one
    pub sum_two : F.earlier_sum ≡ 𝓣.add q two
