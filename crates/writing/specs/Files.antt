-- The file that is written, and what writing it is refused for.
--
-- entry numbers A a m        the rule m at A and a, as a file has it: with the numbers of its tally
-- rules_at numbers M A k     the rules of A at the first k letters, by letter
-- rules_in numbers M n       the rules of the symbols below n, by symbol, then letter
-- file_of names ks numbers M V   the contents that are written: the names, the kinds, the rules of M, the rows of V
-- bad_name k before names    the first place of names, counted on from k, with a byte that may be no name, or that stands before it
-- file_kinds ks              a file can hold these kinds: at most two, each 1 to 3, rising
-- file_faults n ks names     what comes before the grammar's own fault, over a grammar of n symbols: 2, 3, 7
-- min_file                   the most bytes that a file has
-- write_fault n ks names k   what writing to a buffer of k bytes is refused for, over a grammar that is not refused
-- refused_write n ks names f what it is refused for over a grammar of n symbols that is refused for f
--
-- Assumes nothing.
use Rattle.std.specs.Prelude.{ℕ, zero, suc, ◌+◌, Bool, true, false, not, ◌&&◌, ◌==◌, nat_le, nat_lt, List, [], ◌∷◌, ◌++◌, length, Some, None, Option, if◌then◌else◌}
use Rattle.std.specs.Option.{option_map, option_to_list, unwrap_or}
use Rattle.grammar.specs.Meaning.{Weighted, Meaning}
use Rattle.layout.specs.Contents.{FileRule, Contents}
use Rattle.layout.specs.Reading.{named, absent}
use Rattle.layout.specs.declared.fault.Fault.TheVariants.{Limit, Unallowed, Kinds}
use Rattle.rows.specs.Sheets.{View}
use Rattle.survey.specs.declared.fault.GrammarFault.{GrammarFault}
use Rattle.calls.specs.Refusals.{first_of, when}
use Rattle.calls.specs.Offers.{rows_in}
use Rattle.calls.specs.declared.fault.CallFault.{CallFault}
use Rattle.calls.specs.declared.fault.CallFault.TheVariants.{File, Grammar, ShortCopy}

module _ {T : Type 0} (numbers : T → List ℕ) where
  abbrev pub entry : ℕ → ℕ → Weighted T → FileRule
  entry A a m = record { symbol = A; letter = a; numbers = numbers m.tally; word = m.word }

  abbrev pub rules_at : Meaning T → ℕ → ℕ → List FileRule
  rules_at M A zero = []
  rules_at M A (suc k) = rules_at M A k ++ option_to_list (option_map (entry A (65 + k)) (M.rule A (65 + k)))

  abbrev pub rules_in : Meaning T → ℕ → List FileRule
  rules_in M zero = []
  rules_in M (suc n) = rules_in M n ++ rules_at M n 26

abbrev pub file_of : {T : Type 0} → List ℕ → List ℕ → (T → List ℕ) → Meaning T → View → Contents
file_of names ks numbers M V = record { names = names; kinds = ks; rules = rules_in numbers M M.count; rows = rows_in V 32 }

abbrev pub bad_name : ℕ → List ℕ → List ℕ → Option ℕ
bad_name k before [] = None
bad_name k before (x ∷ xs) = if named x && absent x before then bad_name (suc k) (x ∷ before) xs else Some k

abbrev pub kind_byte : ℕ → Bool
kind_byte k = nat_le 1 k && nat_le k 3

abbrev pub file_kinds : List ℕ → Bool
file_kinds [] = true
file_kinds (k ∷ []) = kind_byte k
file_kinds (j ∷ k ∷ []) = kind_byte j && kind_byte k && nat_lt j k
file_kinds (i ∷ j ∷ k ∷ ks) = false

abbrev pub file_faults : ℕ → List ℕ → List ℕ → List (Option CallFault)
file_faults n ks names =
    when (not (length names == n)) (File (Limit 0))
    -- the first name lies behind the count of names
    ∷ option_map (λ k. File (Unallowed k)) (bad_name 1 [] names)
    ∷ when (not (file_kinds ks)) (File Kinds) ∷ []

abbrev pub min_file : ℕ
min_file = 14565

abbrev pub write_fault : ℕ → List ℕ → List ℕ → ℕ → Option CallFault
write_fault n ks names k = first_of (file_faults n ks names ++ when (nat_lt k min_file) (ShortCopy k) ∷ [])

abbrev pub refused_write : ℕ → List ℕ → List ℕ → GrammarFault → CallFault
refused_write n ks names f = unwrap_or (first_of (file_faults n ks names)) (Grammar f)
