use Rattle.std.proofs.Common.{ℕ, sym, ◌∙◌}
use borrow.Author.Tests.{clash}
use Rattle.grammar.specs.Meaning.{Word}
use Rattle.norm.specs.Tabled.{held}
use Rattle.sheet.specs.Rowed.{shown}
use Rattle.survey.specs.Surveyed.{surveyed, norm_in, first_in}
use Rattle.calls.specs.Offers.{Passes}
use Rattle.calls.proofs.BySymbol.{all_none, all_more, first_not, all_of}
use Rattle.calls.proofs.offering.check_rows.Goals as goal

pub loop-symbol-init : goal.loop-symbol-init
loop-symbol-init g c = λ few. all_none _ (shown c.args.offered)

pub loop-symbol-preserved : goal.loop-symbol-preserved
loop-symbol-preserved g c = λ few.
    let next = c.in-Some.ensures in
    let A = c.in-Some.symbol in
    let w = held c.in-Some.row.now in
    all_more _ (shown c.args.offered) c.loop-symbol.from A w next.1 next.2 (c.loop-symbol.invariant few) ((c.passes.ensures (few A w next.2)).0 c.if-not-passes.false)

pub returns-then-not-passes : goal.returns-then-not-passes
returns-then-not-passes g c = λ few.
    let next = c.in-Some.ensures in
    let A = c.in-Some.symbol in
    let w = held c.in-Some.row.now in
    let s = c.args.survey.now in
    let P : ℕ → Word → Type 0 = Passes g.T.Tally.group (surveyed s) (norm_in s) (first_in s) (shown c.args.rows) c.args.test in
    (A, c.fault.ensures, first_not P (shown c.args.offered) c.loop-symbol.from A w next.1 next.2 (c.loop-symbol.invariant few) (λ p. clash (sym c.if-not-passes.true ∙ (c.passes.ensures (few A w next.2)).1 p)))

pub returns : goal.returns
returns g c = λ few. all_of _ (shown c.args.offered) c.loop-symbol.from c.in_default.ensures (c.loop-symbol.invariant few)
