use Rattle.std.proofs.Common.{◌≤◌, ◌++◌, length, drop, sym, ap, ◌∙◌, subst}
use Rattle.grammar.specs.Meaning.{Input}
use Rattle.norm.specs.Norms.{firsts}
use Rattle.survey.specs.Surveyed.{surveyed, norm_in, first_in}
use Rattle.witness.specs.Laws.{Short}
use Rattle.walk.specs.Inputs.{most}
use Rattle.comparison.specs.Trying.{Passes, Fails}
use Rattle.comparison.proofs.Completing.{match_map, first_written, turned_written, turned_fits, whole_short, turned_short, cuts_whole, none_whole, none_turned, one_turned}
use Rattle.comparison.proofs.Ranges.{read_back}
use Rattle.comparison.proofs.look.Look.try_completed.Goals as goal

pub returns-in-Some : goal.returns-in-Some
returns-in-Some g c = λ looks ready F parting small fits.
    let 𝓣 = g.T.Tally.group in
    let s = c.args.survey.now in
    let l = c.args.self.now in
    let z = c.args.input.now in
    let p = c.args.parting.now in
    let k = c.skeleton-skeleton.result.now in
    let same = c.skeleton-skeleton.ensures in
    let h = first_written 𝓣 s F small z fits k p same parting _ _ _ _ _ _ c.clear.ensures c.extend.ensures c.extend_first.ensures c.as_slice-end.ensures c.lead_in.ensures c.as_slice.ensures in (
      subst (Fails 𝓣 s l c.in-Some.failing) c.as_slice.ensures (c.in-Some.ensures looks ready h.read_fits),
      subst (Short 𝓣 (surveyed s) (norm_in s) (first_in s) F z) (sym h.tried) (whole_short 𝓣 s F small z fits),
    )

pub returns-in_err-front : goal.returns-in_err-front
returns-in_err-front g c = λ looks ready F parting small fits.
    let 𝓣 = g.T.Tally.group in
    let s = c.args.survey.now in
    let l = c.args.self.now in
    let z = c.args.input.now in
    let p = c.args.parting.now in
    let k = c.skeleton-skeleton.result.now in
    let same = c.skeleton-skeleton.ensures in
    let h = first_written 𝓣 s F small z fits k p same parting _ _ _ _ _ _ c.clear.ensures c.extend.ensures c.extend_first.ensures c.as_slice-end.ensures c.lead_in.ensures c.as_slice.ensures in
    let P : Input → Type 0 = λ v. Passes 𝓣 s l (firsts (first_in s) F.common ++ v) in
    let passes = subst (Passes 𝓣 s l) h.read (c.in_default.ensures looks ready h.read_fits) in
    let none = none_whole 𝓣 s F small z fits k p same parting c.as_slice-end.result.now h.end (c.in_err-front.ensures h.end_fits) in
    let all = none_turned 𝓣 s F small z fits P none passes in
    rw c.from_residual.ensures all

pub returns : goal.returns
returns g c = λ looks ready F parting small fits.
    let 𝓣 = g.T.Tally.group in
    let s = c.args.survey.now in
    let l = c.args.self.now in
    let z = c.args.input.now in
    let p = c.args.parting.now in
    let k = c.skeleton-skeleton.result.now in
    let same = c.skeleton-skeleton.ensures in
    let h = first_written 𝓣 s F small z fits k p same parting _ _ _ _ _ _ c.clear.ensures c.extend.ensures c.extend_first.ensures c.as_slice-end.ensures c.lead_in.ensures c.as_slice.ensures in
    let P : Input → Type 0 = λ v. Passes 𝓣 s l (firsts (first_in s) F.common ++ v) in
    let passes = subst (Passes 𝓣 s l) h.read (c.in_default.ensures looks ready h.read_fits) in
    let n = c.in_ok-front.front.length in
    let front = c.in_ok-front.ensures h.end_fits in
    let cuts = cuts_whole 𝓣 s F small z fits k p same parting c.as_slice-end.result.now n h.end front.cuts in
    let rest = read_back c.as_slice-end.result.now n front.within c.get.result _ c.unwrap_or.result c.unwrap_or.ensures c.get.ensures.lookup ∙ ap (drop n) h.end in
    let turned = turned_written 𝓣 s F small z fits k p same parting n _ _ _ _ _ cuts c.clear-2.ensures c.extend_first-2.ensures c.extend_first-3.ensures rest c.extend-2.ensures in
    let read = c.as_slice-2.ensures ∙ turned in
    match_map c.failing-2.result (λ i. one_turned 𝓣 s F small z fits P n cuts passes (subst (Passes 𝓣 s l) read i))
    (λ f i. (subst (Fails 𝓣 s l f) c.as_slice-2.ensures i, subst (Short 𝓣 (surveyed s) (norm_in s) (first_in s) F z) (sym turned) (turned_short 𝓣 s F small z fits n cuts)))
    (c.failing-2.ensures looks ready (subst (λ v. length v ≤ most) (sym read) (turned_fits 𝓣 s F small z fits n cuts)))
