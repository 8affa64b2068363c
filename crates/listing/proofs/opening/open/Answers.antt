use Rattle.std.proofs.Common.{Ok, Err}
use Rattle.std.proofs.lemmas.Result.{err_from_is_err_and}
use Rattle.file_grammar.specs.Filed.{held}
use Rattle.listing.proofs.Opens.{opened_as}
use Rattle.listing.proofs.opening.open.Goals as goal

pub returns-in_err-offer : goal.returns-in_err-offer
returns-in_err-offer g c = λ f legal shows is.
    let p = err_from_is_err_and c.from_residual.result c.from_residual.ensures.1 in
    rw (p.1, p.2) (opened_as g.T.Tally.group (held g.T.FileTally.made (Ok f)) f.rows legal.rows c.new-comparer.result c.offer.new.self c.offer.ensures.desk
    _ (c.of_file.ensures f legal shows) c.new-comparer.ensures.value c.new-comparer.ensures.rows c.new-comparer.ensures.begins
    c.rows_section.result.now (c.rows_section.ensures f shows is) c.offer.result c.offer.ensures.over c.offer.ensures.without c.offer.ensures.lawful
    (Err c.in_err-offer.field-0.0) c.in_err-offer.was)

pub returns : goal.returns
returns g c = λ f legal shows is.
    opened_as g.T.Tally.group (held g.T.FileTally.made (Ok f)) f.rows legal.rows c.new-comparer.result c.offer.new.self c.offer.ensures.desk
    _ (c.of_file.ensures f legal shows) c.new-comparer.ensures.value c.new-comparer.ensures.rows c.new-comparer.ensures.begins
    c.rows_section.result.now (c.rows_section.ensures f shows is) c.offer.result c.offer.ensures.over c.offer.ensures.without c.offer.ensures.lawful
    (Ok tt) c.in_ok-offer.was
