use Rattle.std.proofs.Common.{sym, ◌∙◌, arith}
use Rattle.survey.specs.Surveyed.{surveyed}
use Rattle.sheet.specs.Rowed.{shown}
use Rattle.writing.proofs.WrittenFile.{unrefused, file_written}
use Rattle.writing.proofs.writing.write_into.Goals as goal

pub returns : goal.returns
returns g c = λ fine.
    let M = surveyed c.args.survey.now in
    let u = unrefused M.count g.T.FileTally.kinds c.args.names.now fine in
    file_written c.args.names.now g.T.FileTally.kinds g.T.FileTally.numbers M (shown c.args.rows) c.count.result (c.count.ensures ∙ sym u.0) (omega arith)
    c.put-count.ensures c.put-names.ensures (c.kinds_into-kinds.ensures u.1) (c.rules_into-rules.ensures u.1) c.rows_into.ensures
