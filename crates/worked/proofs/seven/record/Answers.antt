use Rattle.std.proofs.Common.{ap, rules}
use Rattle.tally.specs.Makes.{foot_same}
use Rattle.tally.specs.declared.foot_mm.FootMm.{FootMm}
use Rattle.grammar.specs.declared.records.RuleRecord.{RuleRecord}
use Rattle.worked.proofs.seven.record.Goals as goal

pub returns : goal.returns
returns c = ap {B = RuleRecord FootMm} (λ t. record { symbol = c.args.symbol; letter = c.args.letter; word = record { length = c.args.length; symbols = c.args.symbols }; tally = t }) (foot_same _ _ (search rules))
