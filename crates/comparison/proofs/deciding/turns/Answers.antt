use Rattle.std.proofs.Common.{◌≡◌, Some, refl, sym, ◌∙◌, subst, arith}
use Rattle.rows.specs.Sheets.{View, Ranked}
use Rattle.sheet.specs.Rowed.{shown, shows}
use Rattle.survey.specs.Surveyed.{norm_in}
use Rattle.agreement.specs.Works.{rows_over, Works}
use Rattle.walk.specs.Inputs.{letters}
use Rattle.comparison.specs.Deciding.{Decided}
use Rattle.comparison.specs.Trails.{Finds}
use Rattle.comparison.specs.declared.outcome.Outcome.TheVariants as outcomes
use Rattle.comparison.specs.declared.treatment.Treatment.TheVariants as treatments
use Rattle.comparison.proofs.Goings.{going_none, going_same, going_differs, going_over, Turns, traces_over, stands_still}
use Rattle.comparison.proofs.deciding.turns.Goals as goal

pub loop-init : goal.loop-init
loop-init g c = (
  refl,
  refl,
  refl,
  refl,
  refl,
  λ ranked given_x given_y.
      let 𝓣 = g.T.Tally.group in
      let s = c.args.survey.now in
      let V : View = shows c.args.guard.now.sheet.now in
      let same : shown c.view.result ≡ V = λ i A. c.view.ensures.view A i in
      let works = subst (λ W. Ranked s.skeleton.words.count (norm_in s) W → Works 𝓣 (rows_over 𝓣 s W) c.restart.new.work) same c.restart.ensures in (
        going_none 𝓣 s c.args.words.one.now c.args.words.two.now c.args.guard.now.sheet.now c.restart.new.work (record { words = c.args.words; agreed = c.none.result; sources = c.none-2.result }) ranked
            (works ranked) c.none.ensures c.none-2.ensures,
        c.none-2.ensures,
      ),
)

pub returns-in-Same-clause-found : goal.returns-in-Same-clause-found
returns-in-Same-clause-found g c = λ e. c.loop.invariant.4

pub returns-in-Same-clause-ended : goal.returns-in-Same-clause-ended
returns-in-Same-clause-ended g c = λ ranked given_x given_y.
    let 𝓣 = g.T.Tally.group in
    let s = c.args.survey.now in
    let S = c.args.guard.now.sheet.now in
    let U = c.loop.guard.sheet.now in
    let h = (c.loop.invariant.5 ranked given_x given_y).0 in
    let went = subst (Turns 𝓣 s S U c.turn.new.guard.sheet.now c.loop.work c.turn.new.work c.loop.comparison c.turn.new.self outcomes.Same) c.loop.invariant.3 (λ one two. c.in-Same.ensures.went one two S) given_x given_y ranked h in
    subst (λ n. Decided 𝓣 s c.args.words.one.now c.args.words.two.now (shows S) (shows n)) (sym (c.keep.ensures.sheet ∙ went.1.sheet))
    (going_same 𝓣 s c.args.words.one.now c.args.words.two.now S U c.loop.work c.loop.comparison h went.0)

pub returns-in-Different-clause-ended : goal.returns-in-Different-clause-ended
returns-in-Different-clause-ended g c = λ ranked given_x given_y.
    let 𝓣 = g.T.Tally.group in
    let s = c.args.survey.now in
    let x = c.args.words.one.now in
    let y = c.args.words.two.now in
    let S = c.args.guard.now.sheet.now in
    let U = c.turn.new.guard.sheet.now in
    let h = (c.loop.invariant.5 ranked given_x given_y).0 in
    let went = subst (Turns 𝓣 s S c.loop.guard.sheet.now U c.loop.work c.turn.new.work c.loop.comparison c.turn.new.self (outcomes.Different c.in-Different.origin)) c.loop.invariant.3
    (λ one two. c.in-Different.ensures.went one two S) given_x given_y ranked h in
    let still = stands_still 𝓣 s x y S c.loop.guard.sheet.now U c.loop.work c.turn.new.work c.loop.comparison c.turn.new.self went.1 h in
    let found = subst (λ V. Finds 𝓣 s x y V (Some (c.in-Different.origin, treatments.Different))) (sym went.1.sheet) went.0 in
    going_differs 𝓣 s x y given_x given_y S U c.turn.new.work (record { words = c.turn.new.self.words; agreed = c.loop.comparison.agreed; sources = c.turn.new.self.sources }) ranked still c.in-Different.origin found (letters c.trace.new.found)
    (traces_over 𝓣 s c.turn.new.work c.turn.new.self.sources.list c.turn.new.self.sources.len c.in-Different.origin (letters c.trace.new.found) c.turn.new.self.words c.args.words c.view-in-Different.result.rows.now U.rows (shown c.view-in-Different.result) (shows U)
    (c.in-Different.ensures.words ∙ c.loop.invariant.3) c.view-in-Different.ensures.rows c.view-in-Different.ensures.view c.trace.ensures given_x given_y still.ready)

pub loop-preserved : goal.loop-preserved
loop-preserved g c = (
  c.turn.ensures.saved ∙ c.loop.invariant.0,
  c.turn.ensures.kept ∙ c.loop.invariant.1,
  c.turn.ensures.same_sheet ∙ c.loop.invariant.2,
  c.turn.ensures.words ∙ c.loop.invariant.3,
  c.loop.invariant.4,
  λ ranked given_x given_y.
      let 𝓣 = g.T.Tally.group in
      let s = c.args.survey.now in
      let S = c.args.guard.now.sheet.now in
      let h = c.loop.invariant.5 ranked given_x given_y in
      let went = subst (Turns 𝓣 s S c.loop.guard.sheet.now c.turn.new.guard.sheet.now c.loop.work c.turn.new.work c.loop.comparison c.turn.new.self outcomes.Mended) c.loop.invariant.3 (λ one two. c.in-Mended.ensures.went one two S) given_x given_y ranked h.0 in
      let one = went.2 in
      let count = h.1 in
      (went.1, omega arith),
)

pub returns-clause-ended : goal.returns-clause-ended
returns-clause-ended g c = λ ranked given_x given_y.
    let h = c.loop.invariant.5 ranked given_x given_y in
    let count = h.1 in
    let t = c.loop-test.false in
    absurd (going_over g.T.Tally.group c.args.survey.now c.args.words.one.now c.args.words.two.now given_x given_y c.args.guard.now.sheet.now c.loop.guard.sheet.now c.loop.work c.loop.comparison ranked h.0 (omega arith))
