use Rattle.std.proofs.Common.{◌≡◌, ◌<◌, ◌≤◌, ℕ, None, sym, ◌∙◌, subst, arith}
use borrow.Author.Tests.{clash}
use Rattle.norm.specs.Tabled.{held}
use Rattle.sheet.specs.Rowed.{shown}
use Rattle.survey.specs.Surveyed.{surveyed, norm_in, first_in}
use Rattle.agreement.specs.Works.{rows_over}
use Rattle.comparison.specs.Turning.{TreatsAt, TreatsRow, WrongFrom}
use Rattle.comparison.specs.declared.origin.Origin.TheVariants.{Given}
use Rattle.comparison.specs.declared.treatment.Treatment.TheVariants.{Agree}
use Rattle.comparison.proofs.GivenPair.{no_row, row_of, view_row, given_treated}
use Rattle.comparison.proofs.Turns.{row_agrees, below_more, sooner, letter, turned_row, turned_none, turned_given, kept_set}
use Rattle.comparison.proofs.turning.first_wrong_pair.Goals as goal

pub returns-then-not-agrees-clause-turned : goal.returns-then-not-agrees-clause-turned
returns-then-not-agrees-clause-turned g c = λ ready given_x given_y kept.
    let 𝓣 = g.T.Tally.group in
    let s = c.args.survey.now in
    let V = shown c.args.rows in
    let D = rows_over 𝓣 s V in
    turned_given 𝓣 (surveyed s) (norm_in s) (first_in s) D c.args.words.one.now c.args.words.two.now c.treat-given.result
    (given_treated 𝓣 s V c.args.work.now ready c.args.words.one.now c.args.words.two.now given_x given_y _ _ c.zero.ensures c.zero-2.ensures c.treat-given.result c.treat-given.ensures)
    (λ e. clash (sym c.if-not-agrees.true ∙ c.agrees.ensures.1 e))

pub returns-in-Some-first_wrong-clause-turned : goal.returns-in-Some-first_wrong-clause-turned
returns-in-Some-first_wrong-clause-turned g c = λ ready given_x given_y kept.
    let 𝓣 = g.T.Tally.group in
    let s = c.args.survey.now in
    let V = shown c.args.rows in
    let D = rows_over 𝓣 s V in
    let A = c.in-Some.symbol in
    let x = held c.in-Some.field-0-1.now in
    let next = c.in-Some.ensures.1 in
    let gap : (B : ℕ) → c.loop-symbol.from ≤ B → B < A → D B ≡ None = λ B l h. no_row 𝓣 s V B (next.before B l h) in
    let row = view_row 𝓣 s V A x c.in-Some.ensures.2 in
    let m = row_of 𝓣 s V A x in
    let was = c.loop-symbol.invariant ready kept in
    let given = subst (TreatsAt 𝓣 (surveyed s) (norm_in s) (first_in s) D c.args.words.one.now c.args.words.two.now Given) (c.agrees.ensures.0 c.if-not-agrees.false)
    (given_treated 𝓣 s V c.args.work.now ready c.args.words.one.now c.args.words.two.now given_x given_y _ _ c.zero.ensures c.zero-2.ensures c.treat-given.result c.treat-given.ensures) in
    let wrong = subst (λ k. WrongFrom 𝓣 (surveyed s) (norm_in s) (first_in s) D A m k c.in-Some-first_wrong.letter c.in-Some-first_wrong.treatment) (c.from-known.ensures c.in-Some.ensures.0) (c.in-Some-first_wrong.ensures ready m row) in
    turned_row 𝓣 (surveyed s) (norm_in s) (first_in s) D c.loop-symbol.from A m row gap was.1 c.loop-symbol.agreed was.0 c.in-Some.ensures.0 c.in-Some-first_wrong.letter c.in-Some-first_wrong.treatment wrong
    c.args.words.one.now c.args.words.two.now given

pub returns-in-Some-first_wrong-clause-kept : goal.returns-in-Some-first_wrong-clause-kept
returns-in-Some-first_wrong-clause-kept g c = λ ready kept.
    let 𝓣 = g.T.Tally.group in
    let s = c.args.survey.now in
    let V = shown c.args.rows in
    let D = rows_over 𝓣 s V in
    let A = c.in-Some.symbol in
    let x = held c.in-Some.field-0-1.now in
    let next = c.in-Some.ensures.1 in
    let gap : (B : ℕ) → c.loop-symbol.from ≤ B → B < A → D B ≡ None = λ B l h. no_row 𝓣 s V B (next.before B l h) in
    let row = view_row 𝓣 s V A x c.in-Some.ensures.2 in
    let m = row_of 𝓣 s V A x in
    let was = c.loop-symbol.invariant ready kept in
    let a = c.in-Some-first_wrong.letter in
    let t = c.in-Some-first_wrong.treatment in
    let wrong = subst (λ k. WrongFrom 𝓣 (surveyed s) (norm_in s) (first_in s) D A m k a t) (c.from-known.ensures c.in-Some.ensures.0) (c.in-Some-first_wrong.ensures ready m row) in
    let low = letter 𝓣 (surveyed s) (norm_in s) (first_in s) D c.loop-symbol.from A m row gap was.1 c.loop-symbol.agreed was.0 c.in-Some.ensures.0 a t wrong in
    kept_set 𝓣 (surveyed s) (norm_in s) (first_in s) D A a m c.loop-symbol.agreed c.before-in-Some-first_wrong.new.self row low.0
    (sooner 𝓣 (surveyed s) (norm_in s) (first_in s) D c.loop-symbol.from A m row gap was.1 c.loop-symbol.agreed was.0 c.in-Some.ensures.0 a t wrong)
    (c.before-in-Some-first_wrong.ensures c.in-Some.ensures.0) was.0

pub loop-symbol-preserved : goal.loop-symbol-preserved
loop-symbol-preserved g c = λ ready kept.
    let 𝓣 = g.T.Tally.group in
    let s = c.args.survey.now in
    let V = shown c.args.rows in
    let D = rows_over 𝓣 s V in
    let A = c.in-Some.symbol in
    let x = held c.in-Some.field-0-1.now in
    let next = c.in-Some.ensures.1 in
    let gap : (B : ℕ) → c.loop-symbol.from ≤ B → B < A → D B ≡ None = λ B l h. no_row 𝓣 s V B (next.before B l h) in
    let row = view_row 𝓣 s V A x c.in-Some.ensures.2 in
    let m = row_of 𝓣 s V A x in
    let was = c.loop-symbol.invariant ready kept in
    let all = subst (λ k. (b : ℕ) → k ≤ b → b ≤ 90 → TreatsRow 𝓣 (surveyed s) (norm_in s) (first_in s) D A m b Agree) (c.from-known.ensures c.in-Some.ensures.0) (c.in_default-first_wrong.ensures ready m row) in (
      kept_set 𝓣 (surveyed s) (norm_in s) (first_in s) D A 91 m c.loop-symbol.agreed c.before-in-Some.new.self row (omega arith)
          (λ b h l. row_agrees 𝓣 (surveyed s) (norm_in s) (first_in s) D c.loop-symbol.from A m row gap was.1 c.loop-symbol.agreed was.0 c.in-Some.ensures.0 all b h)
          (c.before-in-Some.ensures c.in-Some.ensures.0) was.0,
      below_more 𝓣 (surveyed s) (norm_in s) (first_in s) D c.loop-symbol.from A m row gap was.1 c.loop-symbol.agreed was.0 c.in-Some.ensures.0 all,
    )

pub returns-clause-turned : goal.returns-clause-turned
returns-clause-turned g c = λ ready given_x given_y kept.
    let 𝓣 = g.T.Tally.group in
    let s = c.args.survey.now in
    let V = shown c.args.rows in
    let D = rows_over 𝓣 s V in
    let given = subst (TreatsAt 𝓣 (surveyed s) (norm_in s) (first_in s) D c.args.words.one.now c.args.words.two.now Given) (c.agrees.ensures.0 c.if-not-agrees.false)
    (given_treated 𝓣 s V c.args.work.now ready c.args.words.one.now c.args.words.two.now given_x given_y _ _ c.zero.ensures c.zero-2.ensures c.treat-given.result c.treat-given.ensures) in
    turned_none 𝓣 (surveyed s) (norm_in s) (first_in s) D c.loop-symbol.from c.args.words.one.now c.args.words.two.now (λ A l. no_row 𝓣 s V A (c.in_default.ensures A l)) (c.loop-symbol.invariant ready kept).1 given
