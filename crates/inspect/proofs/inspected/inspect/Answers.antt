use Rattle.std.proofs.Common.{ap, sym, subst, ◌∙◌, inr}
use Rattle.std.proofs.lemmas.Result.{err_from_is_err_and}
use Rattle.tally.specs.Makes.{untallied_group}
use Rattle.layout.specs.Reading.{checked_any}
use Rattle.file_grammar.specs.Filed.{held}
use Rattle.format.specs.Kinds.{untallied_made}
use Rattle.survey.specs.Refusals.{Refused}
use Rattle.inspect.proofs.inspected.inspect.Goals as goal

pub returns-in_err-survey : goal.returns-in_err-survey
returns-in_err-survey c =
    let o = checked_any c.args.bytes.now in
    let file = c.in_ok-file.ensures.value in
    let legal = ((c.in_ok-file.ensures.law.accepted file.0).0 file.1).0 in
    let same = c.of_file.ensures file.0 legal file.2 ∙ ap (held untallied_made) (sym file.1) in
    let fault = c.in_err-survey.field-0.0 in
    let p = err_from_is_err_and c.from_residual-in_err-survey.result c.from_residual-in_err-survey.ensures.1 in
    rw (p.1) (inr (record {
      contents = file.0;
      legal = file.1;
      fault = fault;
      refused = subst (λ M. Refused 32 64 untallied_group M fault) same c.in_err-survey.ensures.value;
      code = p.2;
    }))
