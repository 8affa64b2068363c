use Rattle.std.proofs.Common.{length, Err, sym, ap, ◌∙◌, subst}
use Rattle.std.proofs.lemmas.Result.{err_from_is_err_and}
use Rattle.layout.proofs.Steps.{ok_err, ok_same, err_same}
use Rattle.calls.specs.Offers.{copied}
use Rattle.comparer.specs.Comparers.{CarriedOver}
use Rattle.comparer.specs.Comparers.{rows_of}
use Rattle.comparer.proofs.CarriedOver.{Carried, never_refused, copy_is, carried, grammar_kept, history_begun, short_refused, short_answered, long_answered, copy_read, made, carried_over}
use Rattle.comparer.proofs.carrying.carry_over.Goals as goal

pub returns-in_err-length-clause-taken : goal.returns-in_err-length-clause-taken
returns-in_err-length-clause-taken g c = λ s over m es h long.
    absurd (never_refused g.G.T.Tally.group c.args.comparer.now s over es h c.args.out.now long c.copy_rows.result (c.copy_rows.ensures.over s over) c.in_err-length.was)

pub returns-in_err-offer-clause-taken : goal.returns-in_err-offer-clause-taken
returns-in_err-offer-clause-taken g c = λ s over m es h long.
    let 𝓣 = g.G.T.Tally.group in
    let bytes = copy_is 𝓣 c.args.comparer.now s over es h c.args.out.now long c.copy_rows.result (c.copy_rows.ensures.over s over)
    c.copy_rows.new.out c.in_ok-length.length c.in_ok-length.was (c.copy_rows.ensures.out s over) c.get.result _ c.unwrap_or.result c.unwrap_or.ensures c.get.ensures.lookup in
    let taken = carried 𝓣 c.args.comparer.now s over es h (g.G.Grammar.meaning c.args.g.now) m c.new-other.result c.offer.new.self c.new-other.ensures.value c.new-other.ensures.rows
    c.unwrap_or.result.now bytes c.offer.result c.offer.ensures.over in
    absurd (subst (Carried (rows_of c.args.comparer.now) (rows_of c.offer.new.self)) c.in_err-offer.was taken)

pub returns-clause-taken : goal.returns-clause-taken
returns-clause-taken g c = λ s over m es h long.
    let 𝓣 = g.G.T.Tally.group in
    let bytes = copy_is 𝓣 c.args.comparer.now s over es h c.args.out.now long c.copy_rows.result (c.copy_rows.ensures.over s over)
    c.copy_rows.new.out c.in_ok-length.length c.in_ok-length.was (c.copy_rows.ensures.out s over) c.get.result _ c.unwrap_or.result c.unwrap_or.ensures c.get.ensures.lookup in
    let taken = carried 𝓣 c.args.comparer.now s over es h (g.G.Grammar.meaning c.args.g.now) m c.new-other.result c.offer.new.self c.new-other.ensures.value c.new-other.ensures.rows
    c.unwrap_or.result.now bytes c.offer.result c.offer.ensures.over in
    subst (Carried (rows_of c.args.comparer.now) (rows_of c.offer.new.self)) c.in_ok-offer.was taken

pub returns-clause-grammar : goal.returns-clause-grammar
returns-clause-grammar g c =
    grammar_kept g.G.T.Tally.group c.new-other.result c.offer.new.self c.offer.ensures.desk c.unwrap_or.result.now c.offer.result c.in_ok-offer.was (g.G.Grammar.meaning c.args.g.now) c.new-other.ensures.value
    c.offer.ensures.without

pub returns-clause-begins : goal.returns-clause-begins
returns-clause-begins g c =
    history_begun g.G.T.Tally.group c.new-other.result c.offer.new.self c.offer.ensures.desk c.unwrap_or.result.now c.offer.result c.in_ok-offer.was c.new-other.ensures.begins c.offer.ensures.lawful

-- over a refused grammar the copy is refused
pub returns-in_err-length-clause-without : goal.returns-in_err-length-clause-without
returns-in_err-length-clause-without g c = λ r without.
    let p = err_from_is_err_and c.from_residual.result c.from_residual.ensures.1 in
    (p.1 ∙ ap Err (p.2 ∙ err_same (sym c.in_err-length.was ∙ c.copy_rows.ensures.without r without)), c.copy_rows.ensures.refused c.in_err-length.field-0.0 c.in_err-length.was)

pub returns-in_err-offer-clause-without : goal.returns-in_err-offer-clause-without
returns-in_err-offer-clause-without g c = λ r without. absurd (ok_err (sym c.in_ok-length.was ∙ c.copy_rows.ensures.without r without))

pub returns-clause-without : goal.returns-clause-without
returns-clause-without g c = λ r without. absurd (ok_err (sym c.in_ok-length.was ∙ c.copy_rows.ensures.without r without))

-- a buffer that is too short
pub returns-in_err-length-clause-short : goal.returns-in_err-length-clause-short
returns-in_err-length-clause-short g c = λ s over ranked f short.
    let p = err_from_is_err_and c.from_residual.result c.from_residual.ensures.1 in
    (p.1 ∙ ap Err (p.2 ∙ short_refused (length c.args.out.now) _ c.copy_rows.result f c.in_err-length.field-0.0 (c.copy_rows.ensures.over s over ranked) short c.in_err-length.was), c.copy_rows.ensures.refused c.in_err-length.field-0.0 c.in_err-length.was)

pub returns-in_err-offer-clause-short : goal.returns-in_err-offer-clause-short
returns-in_err-offer-clause-short g c = λ s over ranked f short. short_answered (length c.args.out.now) _ c.in_ok-length.length c.copy_rows.result f (c.copy_rows.ensures.over s over ranked) short c.in_ok-length.was

pub returns-clause-short : goal.returns-clause-short
returns-clause-short g c = λ s over ranked f short. short_answered (length c.args.out.now) _ c.in_ok-length.length c.copy_rows.result f (c.copy_rows.ensures.over s over ranked) short c.in_ok-length.was

-- one that is long enough: the copy is offered
pub returns-in_err-length-clause-carried : goal.returns-in_err-length-clause-carried
returns-in_err-length-clause-carried g c = λ s over ranked long.
    absurd (ok_err (sym (long_answered (length c.args.out.now) _ c.copy_rows.result (c.copy_rows.ensures.over s over ranked) long) ∙ c.in_err-length.was))

pub returns-in_err-offer-clause-carried : goal.returns-in_err-offer-clause-carried
returns-in_err-offer-clause-carried g c = λ s over ranked long.
    let 𝓣 = g.G.T.Tally.group in
    let M = g.G.Grammar.meaning c.args.g.now in
    let V = rows_of c.args.comparer.now in
    let is = long_answered (length c.args.out.now) (length (copied V)) c.copy_rows.result (c.copy_rows.ensures.over s over ranked) long in
    let written = c.copy_rows.ensures.out s over ranked is in
    let bytes = copy_read (copied V) c.args.out.now c.copy_rows.new.out c.in_ok-length.length (ok_same (sym c.in_ok-length.was ∙ is)) written c.get.result _ c.unwrap_or.result c.unwrap_or.ensures c.get.ensures.lookup in
    let all = carried_over 𝓣 M V c.new-other.result c.offer.new.self c.offer.ensures.desk c.new-other.ensures.value c.new-other.ensures.rows c.unwrap_or.result.now bytes c.offer.result c.offer.ensures.over c.offer.ensures.without in
    let p = err_from_is_err_and c.from_residual-in_err-offer.result c.from_residual-in_err-offer.ensures.1 in
    (subst (CarriedOver 𝓣 M V) (sym (p.1 ∙ ap Err p.2)) (subst (λ r. CarriedOver 𝓣 M V (made c.offer.new.self r)) c.in_err-offer.was all), written)

pub returns-clause-carried : goal.returns-clause-carried
returns-clause-carried g c = λ s over ranked long.
    let 𝓣 = g.G.T.Tally.group in
    let M = g.G.Grammar.meaning c.args.g.now in
    let V = rows_of c.args.comparer.now in
    let is = long_answered (length c.args.out.now) (length (copied V)) c.copy_rows.result (c.copy_rows.ensures.over s over ranked) long in
    let written = c.copy_rows.ensures.out s over ranked is in
    let bytes = copy_read (copied V) c.args.out.now c.copy_rows.new.out c.in_ok-length.length (ok_same (sym c.in_ok-length.was ∙ is)) written c.get.result _ c.unwrap_or.result c.unwrap_or.ensures c.get.ensures.lookup in
    let all = carried_over 𝓣 M V c.new-other.result c.offer.new.self c.offer.ensures.desk c.new-other.ensures.value c.new-other.ensures.rows c.unwrap_or.result.now bytes c.offer.result c.offer.ensures.over c.offer.ensures.without in
    (subst (λ r. CarriedOver 𝓣 M V (made c.offer.new.self r)) c.in_ok-offer.was all, written)
