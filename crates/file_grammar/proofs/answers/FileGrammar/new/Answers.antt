use Rattle.std.proofs.Common.{sym, ap, ◌∙◌}
use Rattle.file_grammar.specs.Filed.{held}
use Rattle.file_grammar.proofs.answers.FileGrammar.new.Goals as goal

pub returns-in-Ok : goal.returns-in-Ok
returns-in-Ok g c =
    let found = c.in-Ok.ensures.value in
    let legal = ((c.in-Ok.ensures.law.accepted found.0).0 found.1).0 in
    c.of_file.ensures found.0 legal found.2 ∙ ap (held g.T.FileTally.made) (sym found.1)
