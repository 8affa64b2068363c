use Rattle.std.proofs.Common.{◌≡◌, sym, ◌∙◌, subst, inl, inr, arith}
use Rattle.std.proofs.lemmas.Bool.{cases_lt}
use borrow.Author.Tests.{clash}
use Rattle.sheet.specs.Rowed.{shown}
use Rattle.survey.specs.Surveyed.{surveyed, norm_in, first_in}
use Rattle.agreement.specs.Works.{rows_over}
use Rattle.comparison.specs.Turning.{TreatsRow}
use Rattle.comparison.specs.declared.treatment.Treatment.TheVariants.{Agree}
use Rattle.comparison.proofs.looking.first_wrong.Goals as goal

pub returns-then-not-agrees : goal.returns-then-not-agrees
returns-then-not-agrees g c = λ ready m row. record {
  later = c.loop-letter.auto.letter;
  letter = (let t = c.loop-letter-test.true in omega arith);
  treated = c.treat_row-treatment.ensures ready m row;
  wrong = λ e. clash (sym c.if-not-agrees.true ∙ c.agrees.ensures.1 e);
  before = c.loop-letter.invariant ready m row;
}

pub loop-letter-preserved : goal.loop-letter-preserved
loop-letter-preserved g c = λ ready m row b l k.
    let 𝓣 = g.T.Tally.group in
    let s = c.args.survey.now in
    let D = rows_over 𝓣 s (shown c.args.rows) in
    let here = subst (TreatsRow 𝓣 (surveyed s) (norm_in s) (first_in s) D c.args.symbol m c.loop-letter.letter) (c.agrees.ensures.0 c.if-not-agrees.false) (c.treat_row-treatment.ensures ready m row) in
    elim (cases_lt b c.loop-letter.letter) [
      | inl i ↦ c.loop-letter.invariant ready m row b l i
      | inr i ↦ subst (λ a. TreatsRow 𝓣 (surveyed s) (norm_in s) (first_in s) D c.args.symbol m a Agree) (let same : c.loop-letter.letter ≡ b = omega arith in same) here
    ]

pub returns : goal.returns
returns g c = λ ready m row b l k. c.loop-letter.invariant ready m row b l (let t = c.loop-letter-test.false in omega arith)
