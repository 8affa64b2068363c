use Rattle.std.proofs.Common.{◌≡◌, ◌∙◌, sym, ap, take}
use Rattle.std.proofs.lemmas.List.{take_min}
use Rattle.comparer.specs.Comparers.{rows_of}
use Rattle.comparer.proofs.Lawfulness.{over_some, history_stands}
use Rattle.asking.specs.declared.outcome.Outcome.TheVariants.{Different}
use Rattle.asking.proofs.answers.answer_text.Goals as goal

pub returns-in-Same-clause-same : goal.returns-in-Same-clause-same
returns-in-Same-clause-same g c = λ few is s over es h.
    let comparer = c.args.answered.now.comparer in
    let stands = history_stands g.T.Tally.group s (over_some comparer s over) es (rows_of comparer) h in
    c.same_text.ensures few s over stands.ranked

pub returns-in-Different-clause-different : goal.returns-in-Different-clause-different
returns-in-Different-clause-different g c = λ few n p q is.
    let out = c.args.out.now in
    let same : Different c.in-Different.length c.in-Different.first c.in-Different.second ≡ Different n p q = sym c.in-Different.is ∙ is in
    let length_is : c.in-Different.length ≡ n = cc in
    let first_is : c.in-Different.first ≡ p = cc in
    let second_is : c.in-Different.second ≡ q = cc in
    let input : take c.min.result out ≡ take n out = ap (λ k. take k out) c.min.ensures ∙ take_min c.in-Different.length out ∙ ap (λ k. take k out) length_is in
    rw (sym input, sym first_is, sym second_is) (c.different_text.ensures few)
