use Rattle.tally.specs.Makes.{foot_group}
use Rattle.exported.specs.Exports.{foot_meaning}
use Rattle.exported.proofs.NewComparer.{took_too, ran}
use Rattle.exported.proofs.calls_of.run_of.Goals as goal

pub returns : goal.returns
returns c =
    ran foot_group (foot_meaning c.args.bytes.now) c.new-2.result (took_too foot_group _ (foot_meaning c.args.bytes.now) c.new.ensures c.new-2.result.desk c.new-2.ensures.value)
    c.args.word.now c.args.input.now c.run.result c.run.ensures.over c.run.ensures.without
