-- What is told of a file.
--
-- bare o          the grammar of checked contents, its tallies left aside; without symbols after a fault
-- BadFile o k     the file has a fault, which has the code k
-- BadGrammar o k  its contents are legal and their grammar is refused; the fault has the code k
-- Tells o r       r tells of a file whose check gives o: the parts with a survey of the grammar, or the code of the fault
--
-- Assumes nothing.
use Rattle.std.specs.Prelude.{◌≡◌, ◌⊎◌, Ok, Err, Result}
use Rattle.tally.specs.Makes.{untallied_group}
use Rattle.tally.specs.declared.untallied.Untallied.{Untallied}
use Rattle.grammar.specs.Meaning.{Meaning}
use Rattle.layout.specs.Contents.{Contents}
use Rattle.layout.specs.Faults as file_faults
use Rattle.layout.specs.declared.fault.Fault.{Fault}
use Rattle.layout.specs.declared.fault.FaultCode.{FaultCode}
use Rattle.format.specs.Kinds.{untallied_made}
use Rattle.format.specs.Views.{Shows}
use Rattle.file_grammar.specs.Filed.{held}
use Rattle.survey.specs.Faults as grammar_faults
use Rattle.survey.specs.Refusals.{Refused}
use Rattle.survey.specs.Laws.{Surveys}
use Rattle.survey.specs.declared.fault.GrammarFault.{GrammarFault}
use Rattle.inspect.specs.declared.inspected.Inspected.{Inspected}

module _ (o : Result Contents Fault) where
  abbrev pub bare : Meaning Untallied
  bare = held untallied_made o

  pub record BadFile (k : FaultCode) : Type 0 where
    pub fault : Fault
    pub found : o ≡ Err fault
    pub code : k ≡ file_faults.code_of fault

  pub record BadGrammar (k : FaultCode) : Type 0 where
    pub contents : Contents
    pub legal : o ≡ Ok contents
    pub fault : GrammarFault
    pub refused : Refused 32 64 untallied_group bare fault
    pub code : k ≡ grammar_faults.code_of fault

  pub record Told (i : Inspected) : Type 0 where
    pub contents : Contents
    pub legal : o ≡ Ok contents
    pub parts : Shows i.file contents
    pub survey : Surveys 32 64 untallied_group bare i.survey

  abbrev pub Tells : Result Inspected FaultCode → Type 0
  Tells (Ok i) = Told i
  Tells (Err k) = BadFile k ⊎ BadGrammar k
