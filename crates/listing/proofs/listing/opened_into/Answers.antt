use Rattle.std.proofs.Common.{Ok, Result, subst}
use Rattle.calls.specs.declared.fault.CallFault.{CallFault}
use Rattle.file_grammar.specs.Filed.{held}
use Rattle.comparer.specs.declared.comparer.Comparer.{Comparer}
use Rattle.listing.specs.Opened.{Opened}
use Rattle.listing.proofs.Outcomes.{lines_shown, refusal_shown}
use Rattle.listing.proofs.listing.opened_into.Goals as goal

pub returns-in-Ok : goal.returns-in-Ok
returns-in-Ok g c = λ f names opened.
    let became = subst (λ (r : Result (Comparer _) CallFault). Opened g.T.Tally.group (held g.T.FileTally.made (Ok f)) f.rows r) c.in-Ok.is opened in
    lines_shown g.T.Tally.group g.T.FileTally.made f c.args.out.now c.lines_into.new.out c.lines_into.result c.told-out c.args.names.now names c.requires c.in-Ok.comparer became c.lines_into.ensures

pub returns-in-Err : goal.returns-in-Err
returns-in-Err g c = λ f names opened.
    let became = subst (λ (r : Result (Comparer _) CallFault). Opened g.T.Tally.group (held g.T.FileTally.made (Ok f)) f.rows r) c.in-Err.is opened in
    refusal_shown g.T.Tally.group g.T.FileTally.made f c.args.out.now c.refusal_into.new.out c.refusal_into.result c.told-out c.in-Err.fault became c.from.result c.from.ensures
    c.refusal_into.ensures.short c.refusal_into.ensures.wrote
