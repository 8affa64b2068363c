use Rattle.std.proofs.Common.{ℕ, Option, sym, ap, ◌∙◌}
use Rattle.std.specs.Option.{option_map}
use Rattle.layout.specs.declared.fault.Fault.TheVariants.{Unallowed}
use Rattle.calls.specs.Refusals.{unless}
use Rattle.calls.specs.declared.fault.CallFault.TheVariants.{File}
use Rattle.writing.proofs.CheckedNames.{good_next, bad_here}
use Rattle.writing.proofs.checks.check_each.Goals as goal

pub loop-at-preserved : goal.loop-at-preserved
loop-at-preserved c = c.loop-at.invariant ∙ good_next c.args.names.now c.loop-at.at c.loop-at-test.true (sym c.is_new_name.ensures ∙ c.if-not-is_new_name.false)

pub returns-then-not-is_new_name : goal.returns-then-not-is_new_name
returns-then-not-is_new_name c =
    ap (λ (o : Option ℕ). unless (option_map (λ k. File (Unallowed k)) o))
    (sym (c.loop-at.invariant ∙ bad_here c.args.names.now c.loop-at.at c.loop-at-test.true (sym c.is_new_name.ensures ∙ c.if-not-is_new_name.true)))
