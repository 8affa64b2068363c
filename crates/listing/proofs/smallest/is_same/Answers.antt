use Rattle.std.proofs.Common.{Ok, Err, Result, ap, ◌∙◌, length}
use Rattle.calls.specs.declared.answer.Answer.{Answer}
use Rattle.calls.specs.declared.answer.Answer.TheVariants.{Same, Different}
use Rattle.calls.specs.declared.fault.CallFault.{CallFault}
use Rattle.listing.proofs.Alike.{compared_symbols}
use Rattle.listing.proofs.smallest.is_same.Goals as goal

pub returns-in-Ok-Same : goal.returns-in-Ok-Same
returns-in-Ok-Same g c = λ s led a b.
    compared_symbols g.T.Tally.group s c.args.comparer.now c.compare.new.self c.args.one c.args.two (length c.args.room.now) c.compare.result c.compare.new.out c.told-room c.compare.ensures.lawful led
    (Ok Same) (c.in-Ok-Same.is ∙ ap {B = Result Answer CallFault} Ok c.in-Ok-Same.field-0-is) (λ f. (c.compare.ensures.fault s led.over f).0) a b

pub returns-in-Ok-Different : goal.returns-in-Ok-Different
returns-in-Ok-Different g c = λ s led a b.
    compared_symbols g.T.Tally.group s c.args.comparer.now c.compare.new.self c.args.one c.args.two (length c.args.room.now) c.compare.result c.compare.new.out c.told-room c.compare.ensures.lawful led
    (Ok (Different c.in-Ok-Different.field-0-0)) (c.in-Ok-Different.is ∙ ap {B = Result Answer CallFault} Ok c.in-Ok-Different.field-0-is) (λ f. (c.compare.ensures.fault s led.over f).0) a b

pub returns-in-Err : goal.returns-in-Err
returns-in-Err g c = λ s led a b.
    compared_symbols g.T.Tally.group s c.args.comparer.now c.compare.new.self c.args.one c.args.two (length c.args.room.now) c.compare.result c.compare.new.out c.told-room c.compare.ensures.lawful led
    (Err c.in-Err.field-0) c.in-Err.is (λ f. (c.compare.ensures.fault s led.over f).0) a b
