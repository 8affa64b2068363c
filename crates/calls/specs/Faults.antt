-- How a fault of a call is told: its number, its layer, and its two numbers; where one is named, the second is 0. Assumes nothing.
use Rattle.std.specs.Prelude.{ℕ}
use Rattle.layout.specs.Faults as files
use Rattle.layout.specs.declared.fault.Fault.{Fault}
use Rattle.layout.specs.declared.fault.FaultCode.{FaultCode}
use Rattle.layout.specs.declared.fault.Layer.TheVariants.{Comparer}
use Rattle.survey.specs.Faults as grammars
use Rattle.survey.specs.declared.fault.GrammarFault.{GrammarFault}
use Rattle.calls.specs.declared.fault.CallFault.{CallFault}
use Rattle.calls.specs.declared.fault.CallFault.TheVariants.{File, Grammar, LongWord, StraySymbol, ShortBuffer, LongInput, Marked, Unlike, Misses, Disagrees, ShortCopy}

abbrev pub of_comparer : ℕ → ℕ → ℕ → FaultCode
of_comparer number first second = record { number = number; layer = Comparer; first = first; second = second }

abbrev pub code_of : CallFault → FaultCode
code_of (File f) = files.code_of f
code_of (Grammar f) = grammars.code_of f
code_of (LongWord i n) = of_comparer 13 i n
code_of (StraySymbol i k) = of_comparer 14 i k
code_of (ShortBuffer n) = of_comparer 15 n 0
code_of (LongInput n) = of_comparer 16 n 0
code_of (Marked A) = of_comparer 17 A 0
code_of (Unlike A) = of_comparer 18 A 0
code_of (Misses A) = of_comparer 19 A 0
code_of (Disagrees d) = of_comparer 20 d.symbol d.letter
code_of (ShortCopy n) = of_comparer 21 n 0

-- faults of the layers below, as faults of a call
abbrev pub from_file : Fault → CallFault
from_file f = File f

abbrev pub from_grammar : GrammarFault → CallFault
from_grammar f = Grammar f
