use Rattle.file_grammar.proofs.Filed.{same_meaning}
use Rattle.file_grammar.proofs.answers.FileGrammar.of_file.Goals as goal

pub returns : goal.returns
returns g c = λ k h says. same_meaning g.T.FileTally.made c.table_of.result k h (c.table_of.ensures k h says)
