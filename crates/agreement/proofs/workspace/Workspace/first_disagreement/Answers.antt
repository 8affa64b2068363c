use Rattle.std.proofs.Common.{◌≡◌, ℕ, Some, None, option_map, MatchOption, sym, ap, ◌∙◌, subst, arith}
use Rattle.norm.specs.Tabled.{held}
use Rattle.grammar.specs.Meaning.{Weighted}
use borrow.Author.Tests.{clash}
use Rattle.rows.specs.Sheets.{View, SelfProving, offset}
use Rattle.tally.specs.Group.{Group}
use Rattle.sheet.specs.Rowed.{shown}
use Rattle.survey.specs.Surveyed.{surveyed, first_in}
use Rattle.survey.specs.declared.table.Survey.{Survey}
use Rattle.agreement.specs.Works.{rows_over}
use Rattle.agreement.specs.Agreeing.{FirstWrong}
use Rattle.agreement.proofs.Cutting.{survey_rows}
use Rattle.agreement.proofs.FirstWrong.{agrees_more, agree_more, wrong_here, agree_all}
use Rattle.agreement.proofs.workspace.Workspace.first_disagreement.Goals as goal

-- a symbol without a row in the view has none in the sheet
no_row : {T : Type 0} (𝓣 : Group T) (s : Survey T) (V : View) (A : ℕ) → V A ≡ None → rows_over 𝓣 s V A ≡ None
no_row 𝓣 s V A e = ap (option_map (λ w. record { word = w; tally = offset 𝓣 (surveyed s) (first_in s) A w })) e

pub loop-letter-preserved : goal.loop-letter-preserved
loop-letter-preserved g c = (
  c.loop-letter.invariant.0,
  λ ready.
      let D = rows_over g.T.Tally.group c.args.survey.now (shown c.args.rows) in
      agrees_more g.T.Tally.group (surveyed c.args.survey.now) D c.in-Some.symbol c.loop-letter.letter (c.loop-letter.invariant.1 ready)
      (λ m row. (c.agrees.ensures.row ready m row).0 c.if-not-agrees.false),
)

pub rows-preserved : goal.rows-preserved
rows-preserved g c = (
  c.loop-letter.invariant.0,
  λ ready.
      let s = c.args.survey.now in
      let V = shown c.args.rows in
      let D = rows_over g.T.Tally.group s V in
      let next = c.in-Some.ensures.1 in
      agree_more g.T.Tally.group (surveyed s) D c.rows.from c.in-Some.symbol (λ B l h. no_row g.T.Tally.group s V B (next.before B l h)) (c.rows.invariant.1 ready)
      c.loop-letter.letter (let t = c.loop-letter-test.false in omega arith) (c.loop-letter.invariant.1 ready),
)

pub returns-then-not-agrees-clause-value : goal.returns-then-not-agrees-clause-value
returns-then-not-agrees-clause-value g c = λ ready.
    let s = c.args.survey.now in
    let V = shown c.args.rows in
    let D = rows_over g.T.Tally.group s V in
    let next = c.in-Some.ensures.1 in
    let A = c.in-Some.symbol in
    let m : Weighted g.row.T.Denot = record { word = held c.in-Some.field-0-1.now; tally = offset g.T.Tally.group (surveyed s) (first_in s) A (held c.in-Some.field-0-1.now) } in
    let row : D A ≡ Some m = ap (option_map (λ w. record { word = w; tally = offset g.T.Tally.group (surveyed s) (first_in s) A w })) c.in-Some.ensures.2 in
    wrong_here g.T.Tally.group (surveyed s) D c.rows.from A (λ B l h. no_row g.T.Tally.group s V B (next.before B l h)) (c.rows.invariant.1 ready)
    c.loop-letter.letter m row (c.loop-letter.auto.letter, (let t = c.loop-letter-test.true in omega arith)) (c.loop-letter.invariant.1 ready)
    (λ agrees. clash (sym c.if-not-agrees.true ∙ (c.agrees.ensures.row ready m row).1 agrees))

pub returns-in_default-clause-value : goal.returns-in_default-clause-value
returns-in_default-clause-value g c = λ ready.
    let s = c.args.survey.now in
    let V = shown c.args.rows in
    let D = rows_over g.T.Tally.group s V in
    subst (λ o. MatchOption o (SelfProving g.T.Tally.group (surveyed s) D) (λ d. FirstWrong g.T.Tally.group (surveyed s) D d.symbol d.letter)) (sym c.rows.invariant.0)
    (agree_all g.T.Tally.group (surveyed s) D c.rows.from (λ A l. no_row g.T.Tally.group s V A (c.in_default.ensures A l)) (c.rows.invariant.1 ready))

pub returns-then-not-agrees-clause-law : goal.returns-then-not-agrees-clause-law
returns-then-not-agrees-clause-law g c = survey_rows g.T.Tally.group c.args.survey.now

pub returns-in_default-clause-law : goal.returns-in_default-clause-law
returns-in_default-clause-law g c = survey_rows g.T.Tally.group c.args.survey.now
