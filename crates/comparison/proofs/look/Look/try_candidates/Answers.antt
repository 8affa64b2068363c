use Rattle.std.proofs.Common.{[], ◌∷◌, ◌++◌, List, subst}
use Rattle.std.specs.List.{AllByRecursion}
use Rattle.grammar.specs.Meaning.{Word, Input}
use Rattle.norm.specs.Norms.{firsts}
use Rattle.survey.specs.Surveyed.{surveyed, norm_in, first_in}
use Rattle.witness.specs.Alike.{cut}
use Rattle.witness.specs.Forks.{row_word, from_front, completed}
use Rattle.witness.proofs.Cuts.{all_both}
use Rattle.comparison.specs.Trying.{Passes}
use Rattle.comparison.proofs.Completing.{match_map}
use Rattle.comparison.proofs.look.Look.try_candidates.Goals as goal

pub returns : goal.returns
returns g c = λ looks ready F parting row small fits.
    let 𝓣 = g.T.Tally.group in
    let s = c.args.survey.now in
    let z = c.args.input.now in
    let P : Input → Type 0 = λ v. Passes 𝓣 s c.args.self.now (firsts (first_in s) F.common ++ v) in
    let b : Input → List Input = completed 𝓣 (surveyed s) (norm_in s) (first_in s) F in
    let fronts : Word → List Input = λ w. from_front b (cut (surveyed s) w z) in
    let one = c.in_default.ensures looks ready F parting small fits in
    let two = subst (λ w. AllByRecursion P (fronts w)) row (c.in_default-try_front.ensures looks ready F parting small fits) in
    match_map c.try_front-2.result
    (λ h. let three = subst (λ A. AllByRecursion P (fronts (A ∷ []))) parting.later h in
    all_both P (b z) (fronts (row_word 𝓣 (surveyed s) (norm_in s) (first_in s) F) ++ fronts (F.later ∷ [])) one
    (all_both P (fronts (row_word 𝓣 (surveyed s) (norm_in s) (first_in s) F)) (fronts (F.later ∷ [])) two three))
    (λ f h. h) (c.try_front-2.ensures looks ready F parting small fits)
