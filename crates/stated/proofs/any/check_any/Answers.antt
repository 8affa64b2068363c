use Rattle.std.proofs.Common.{sym, subst, Result}
use Rattle.layout.specs.Contents.{Contents}
use Rattle.layout.specs.declared.fault.Fault.{Fault}
use Rattle.layout.proofs.Any.{any_is, any_law}
use Rattle.format.specs.Views.{Answers}
use Rattle.format.proofs.Items.{bytes_of}
use Rattle.stated.proofs.any.check_any.Goals as goal

pub returns : goal.returns
returns c =
    let bs = c.args.bytes.now in
    let k = any_is bs in
    record {
      some = (k.kinds, subst (λ (o : Result Contents Fault). Answers o c.answer_any.result) (sym k.same) c.answer_any.ensures);
      value = c.answer_any.ensures;
      law = any_law bs (bytes_of bs (λ i. (c.type_inv.bytes i).fits));
    }
