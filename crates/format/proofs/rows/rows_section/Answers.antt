use Rattle.layout.proofs.Law.{rows_law}
use Rattle.format.proofs.rows.rows_section.Goals as goal

pub returns-in_err-rows-clause-law : goal.returns-in_err-rows-clause-law
returns-in_err-rows-clause-law c = rows_law c.args.total c.args.count c.args.bytes.now

pub returns-clause-law : goal.returns-clause-law
returns-clause-law c = rows_law c.args.total c.args.count c.args.bytes.now
