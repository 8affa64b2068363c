use Rattle.std.proofs.Common.{◌<◌, slice_index, sym, ap, ◌∙◌, subst, refl, arith}
use Rattle.survey.specs.Surveyed.{surveyed}
use Rattle.listing.specs.Found.{Led}
use Rattle.listing.proofs.Alike.{below_more, skipped, true_false}
use Rattle.listing.proofs.smallest.smallest.Goals as goal
use Rattle.listing.proofs.smallest.smallest.Goals.{else-found-from-via-then-found-from+else-is_same, else-found-from-via-else-found-from}

pub returns-then-is_same : goal.returns-then-is_same
returns-then-is_same g c = λ s led symbol found.
    let here = c.loop-other.invariant s led symbol found in
    let other : c.loop-other.other < s.skeleton.words.count = omega arith in
    let told = c.is_same.ensures s here.0 symbol other in
    (told.0, record { same = told.1.0 c.if-is_same.true; least = here.1 })

pub loop-other-init : goal.loop-other-init
loop-other-init g c = λ s led symbol found. (led, λ C l. absurd (omega arith))

pub loop-other-preserved : goal.loop-other-preserved
loop-other-preserved g c = λ s led symbol found.
    let A = c.args.symbol in
    let B = c.loop-other.other in
    let M = surveyed s in
    let 𝓣 = g.T.Tally.group in
    let here = c.loop-other.invariant s led symbol found in
    let other : B < s.skeleton.words.count = omega arith in
    elim c.else-found-from.branch [
      | else-found-from-via-then-found-from+else-is_same w ↦
          let told = w.is_same.ensures s here.0 symbol other in
          (subst (Led 𝓣 s) (sym w.comparer-is) told.0, below_more 𝓣 M A B here.1 (λ same. true_false (sym (told.1.1 same) ∙ w.if-is_same.false)))
      | else-found-from-via-else-found-from w ↦ (
        subst (Led 𝓣 s) (sym w.comparer-is) here.0,
        below_more 𝓣 M A B here.1 (skipped 𝓣 M A B (slice_index c.args.found.now B) here.1 (found B c.loop-other-test.true) (λ e. w.if-found-from.false (ap (slice_index c.args.found.now) c.from.ensures ∙ e))),
      )
    ]

pub returns : goal.returns
returns g c = λ s led symbol found.
    let here = c.loop-other.invariant s led symbol found in
    (here.0, record { same = λ i. refl; least = λ C l. here.1 C (omega arith) })
