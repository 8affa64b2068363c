-- The number of a fault of the grammar, its layer, and its two numbers; where one is named, the second is 0. Assumes nothing.
use Rattle.std.specs.Prelude.{ℕ}
use Rattle.layout.specs.declared.fault.FaultCode.{FaultCode}
use Rattle.layout.specs.declared.fault.Layer.TheVariants.{Grammar}
use Rattle.norm.specs.declared.fault.NormFault.{NormFault}
use Rattle.norm.specs.declared.fault.NormFault.TheVariants as norm_faults
use Rattle.survey.specs.declared.fault.GrammarFault.{GrammarFault}
use Rattle.survey.specs.declared.fault.GrammarFault.TheVariants.{Count, LongRule, StraySymbol, NoInput, TooLong}

abbrev pub of_grammar : ℕ → ℕ → ℕ → FaultCode
of_grammar number first second = record { number = number; layer = Grammar; first = first; second = second }

abbrev pub code_of : GrammarFault → FaultCode
code_of (Count n) = of_grammar 8 n 0
code_of (LongRule A a) = of_grammar 9 A a
code_of (StraySymbol A a) = of_grammar 10 A a
code_of (NoInput A) = of_grammar 11 A 0
code_of (TooLong A) = of_grammar 12 A 0

-- a fault of the norms, as one of the grammar
abbrev pub from_norms : NormFault → GrammarFault
from_norms (norm_faults.NoInput A) = NoInput A
from_norms (norm_faults.TooLong A) = TooLong A
