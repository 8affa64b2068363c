-- What is printed of a file.
--
-- refusal_text k            the line of a refusal: `refused`, the number and the two numbers
-- name_of names A           the name of the symbol A
-- symbol_line names n A B   the line of a symbol: its name, n, the name of B, with single spaces
-- lines f k                 the lines of the symbols below k, one behind the other
--
-- Assumes nothing.
use Rattle.std.specs.Prelude.{ℕ, zero, suc, List, [], ◌∷◌, ◌++◌, codes, slice_index}
use Rattle.std.specs.Fmt.{decimal}
use Rattle.layout.specs.Faults.{code_text}
use Rattle.layout.specs.declared.fault.FaultCode.{FaultCode}

abbrev pub refusal_text : FaultCode → List ℕ
refusal_text k = codes "refused " ++ code_text k ++ codes "\n"

abbrev pub name_of : List ℕ → ℕ → List ℕ
name_of names A = slice_index names A ∷ []

abbrev pub symbol_line : List ℕ → ℕ → ℕ → ℕ → List ℕ
symbol_line names n A B = name_of names A ++ codes " " ++ decimal n ++ codes " " ++ name_of names B ++ codes "\n"

abbrev pub lines : (ℕ → List ℕ) → ℕ → List ℕ
lines f zero = []
lines f (suc k) = lines f k ++ f k
