-- What is said of a file that is refused.
--
-- fault_words f          what is wrong, by the fault f
-- file_sentence name f   the sentence about the fault f of the file with that name
--
-- Assumes nothing.
use Rattle.std.specs.Prelude.{ℕ, List, ◌++◌, codes}
use Rattle.std.specs.Fmt.{decimal}
use Rattle.layout.specs.declared.fault.Fault.{Fault}
use Rattle.layout.specs.declared.fault.Fault.TheVariants.{Short, Limit, Unallowed, Order, Symbol, Trailing, Kinds}

abbrev pub fault_words : Fault → List ℕ
fault_words (Short n) = codes "it ends too soon, after " ++ decimal n ++ codes " bytes"
fault_words (Limit k) = codes "a count or a length at byte " ++ decimal k ++ codes " is outside its limits"
fault_words (Unallowed k) = codes "byte " ++ decimal k ++ codes " is no name, kind or letter that may stand there"
fault_words (Order k) = codes "the rule or row at byte " ++ decimal k ++ codes " does not come after the one before it"
fault_words (Symbol k) = codes "byte " ++ decimal k ++ codes " is a symbol that has no name"
fault_words (Trailing k) = codes "bytes follow the last row, from byte " ++ decimal k ++ codes " on"
fault_words Kinds = codes "it has other kinds of numbers"

abbrev pub file_sentence : List ℕ → Fault → List ℕ
file_sentence name f = name ++ codes ": file: " ++ fault_words f
