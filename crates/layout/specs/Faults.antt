-- How a fault of the file is told.
--
-- code_of f     its number, its layer, and its two numbers; where one is named, the second is 0
-- code_text c   what is printed: the number and the two numbers, with single spaces
--
-- Assumes nothing.
use Rattle.std.specs.Prelude.{ℕ, List, ◌∷◌, ◌++◌}
use Rattle.std.specs.Fmt.{decimal}
use Rattle.layout.specs.declared.fault.Fault.{Fault}
use Rattle.layout.specs.declared.fault.Fault.TheVariants.{Short, Limit, Unallowed, Order, Symbol, Trailing, Kinds}
use Rattle.layout.specs.declared.fault.FaultCode.{FaultCode}
use Rattle.layout.specs.declared.fault.Layer.TheVariants.{File}

abbrev pub of_file : ℕ → ℕ → FaultCode
of_file number first = record { number = number; layer = File; first = first; second = 0 }

abbrev pub code_of : Fault → FaultCode
code_of (Short n) = of_file 1 n
code_of (Limit n) = of_file 2 n
code_of (Unallowed n) = of_file 3 n
code_of (Order n) = of_file 4 n
code_of (Symbol n) = of_file 5 n
code_of (Trailing n) = of_file 6 n
code_of Kinds = of_file 7 0

abbrev pub code_text : FaultCode → List ℕ
code_text c = decimal c.number ++ 32 ∷ decimal c.first ++ 32 ∷ decimal c.second
