use Rattle.std.proofs.Common.{◌≡◌, ◌+◌, ◌≤◌, length, Some, sym, ap, subst, ◌∙◌}
use Rattle.sheet.specs.Rowed.{shown}
use Rattle.survey.specs.Surveyed.{norm_in}
use Rattle.agreement.specs.Works.{Works}
use Rattle.agreement.proofs.Cutting.{over_cut, cut_none, cut_all, cut_ranked, cut_grown, survey_within, row_short}
use Rattle.agreement.proofs.workspace.Workspace.new.Goals as goal

pub loop-symbol-init : goal.loop-symbol-init
loop-symbol-init g c = λ ranked. subst (λ D. Works g.T.Tally.group D c.without_rows-work.result) (cut_none g.T.Tally.group c.args.survey.now (shown c.args.rows)) c.without_rows-work.ensures

pub loop-symbol-preserved : goal.loop-symbol-preserved
loop-symbol-preserved g c = λ ranked.
    let 𝓣 = g.T.Tally.group in
    let s = c.args.survey.now in
    let V = shown c.args.rows in
    let A = c.in-Some.symbol in
    let w = c.as_slice-word.result.now in
    let is : V A ≡ Some w = c.in-Some.ensures.2 ∙ ap Some (sym c.as_slice-word.ensures) in
    let short : length w ≤ 64 = subst (λ x. length x ≤ 64) (sym c.as_slice-word.ensures) (row_short c.in-Some.row.now) in
    let sum = c.offset.ensures (ranked A w is).symbol short in
    c.add_row.ensures s.skeleton.words.count (norm_in s) (over_cut 𝓣 s V c.loop-symbol.from) (over_cut 𝓣 s V (A + 1)) (survey_within 𝓣 s V) (cut_ranked 𝓣 s V ranked (A + 1))
    (cut_grown 𝓣 s V ranked c.loop-symbol.from A w c.offset.result c.in-Some.ensures.1 is sum) (c.loop-symbol.invariant ranked)

pub returns : goal.returns
returns g c = λ ranked. subst (λ D. Works g.T.Tally.group D c.loop-symbol.work) (cut_all g.T.Tally.group c.args.survey.now (shown c.args.rows) c.loop-symbol.from c.in_default.ensures) (c.loop-symbol.invariant ranked)
