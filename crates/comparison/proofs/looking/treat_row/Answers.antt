use Rattle.std.proofs.Common.{◌≡◌, option_map, Some, refl, sym, ap, ◌∙◌, subst}
use Rattle.grammar.specs.Meaning.{Weighted}
use Rattle.grammar.proofs.Options.{some_same}
use Rattle.norm.specs.Words.{raised}
use Rattle.sheet.specs.Rowed.{shown}
use Rattle.survey.specs.Surveyed.{surveyed, norm_in, first_in, run_of}
use Rattle.agreement.specs.Works.{rows_over}
use Rattle.agreement.proofs.Sides.{row_word}
use Rattle.comparison.specs.Treating.{Treats, Workable}
use Rattle.comparison.specs.Turning.{only_one, only_two}
use Rattle.comparison.proofs.RowSides.{own_rule, other_step, row_pair, row_workable, row_treated}
use Rattle.comparison.proofs.looking.treat_row.Goals as goal

pub returns-in-Some-Some : goal.returns-in-Some-Some
returns-in-Some-Some g c = λ ready m row.
    let 𝓣 = g.T.Tally.group in
    let s = c.args.survey.now in
    let V = shown c.args.rows in
    let w = c.args.work.now in
    let A = c.args.symbol in
    let a = c.args.letter in
    let is = some_same (ap Some c.as_slice.ensures ∙ c.in-Some.ensures ∙ row_word 𝓣 s V w ready A m row) in
    let p : Weighted g.row.T.Denot = run_of c.in-Some-Some.own in
    let q : Weighted g.row.T.Denot = run_of c.in-Some-Some.other in
    let own = sym (own_rule 𝓣 s V w ready A a m row c.run-own.result c.run-own.ensures) ∙ ap (option_map run_of) c.in-Some-Some.is-0 in
    let other = sym (other_step 𝓣 s V w ready A a m row c.as_slice.result.now is c.run-other.result c.run-other.ensures) ∙ ap (option_map run_of) c.in-Some-Some.is-1 in
    let sum = c.add.ensures ∙ ap (λ t. 𝓣.add t q.tally) (c.offset.ensures m.tally (ready.works.offsets A m row)) in
    let same : row_pair 𝓣 s V w ready A a m row p q own other ≡ record { one = c.word.result.now; two = c.word-in-Some-Some.result.now; before_one = c.in-Some-Some.own.tally; before_two = c.add.result } =
    λ i. record { one = sym c.word.ensures i; two = sym c.word-in-Some-Some.ensures i; before_one = p.tally; before_two = sym sum i } in
    row_treated 𝓣 s V w ready A a m row p q own other c.treat.result
    (subst (λ P. Treats 𝓣 (surveyed s) (norm_in s) (first_in s) (rows_over 𝓣 s V) P c.treat.result) (sym same)
    (c.treat.ensures V ready (subst (Workable s.skeleton.words.count (norm_in s)) same (row_workable 𝓣 s V w ready A a m row p q own other))))

pub returns-in_default-2 : goal.returns-in_default-2
returns-in_default-2 g c = λ ready m row.
    let 𝓣 = g.T.Tally.group in
    let s = c.args.survey.now in
    let V = shown c.args.rows in
    let w = c.args.work.now in
    let is = some_same (ap Some c.as_slice.ensures ∙ c.in-Some.ensures ∙ row_word 𝓣 s V w ready c.args.symbol m row) in
    let own = sym (own_rule 𝓣 s V w ready c.args.symbol c.args.letter m row c.run-own.result c.run-own.ensures) ∙ ap (option_map run_of) c.in_default-2.is-0 in
    let other = sym (other_step 𝓣 s V w ready c.args.symbol c.args.letter m row c.as_slice.result.now is c.run-other.result c.run-other.ensures) ∙ ap (option_map run_of) c.in_default-2.is-1 in
    only_two _ own (ap (raised 𝓣 m.tally) other) refl

pub returns-in_default-2-2 : goal.returns-in_default-2-2
returns-in_default-2-2 g c = λ ready m row.
    let 𝓣 = g.T.Tally.group in
    let s = c.args.survey.now in
    let V = shown c.args.rows in
    let w = c.args.work.now in
    let is = some_same (ap Some c.as_slice.ensures ∙ c.in-Some.ensures ∙ row_word 𝓣 s V w ready c.args.symbol m row) in
    let own = sym (own_rule 𝓣 s V w ready c.args.symbol c.args.letter m row c.run-own.result c.run-own.ensures) ∙ ap (option_map run_of) c.in_default-2.is-0 in
    let other = sym (other_step 𝓣 s V w ready c.args.symbol c.args.letter m row c.as_slice.result.now is c.run-other.result c.run-other.ensures) ∙ ap (option_map run_of) c.in_default-2.is-1 in
    only_one _ own (ap (raised 𝓣 m.tally) other) refl
