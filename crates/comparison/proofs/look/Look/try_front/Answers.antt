use Rattle.std.proofs.Common.{◌≤◌, ◌++◌, length, ap, ◌∙◌, arith, length-take}
use Rattle.grammar.specs.Meaning.{Input}
use Rattle.norm.specs.Norms.{firsts}
use Rattle.survey.specs.Surveyed.{first_in}
use Rattle.walk.specs.Inputs.{letters, most}
use Rattle.comparison.specs.Trying.{Passes}
use Rattle.comparison.proofs.Completing.{match_map, front_all, front_short}
use Rattle.comparison.proofs.Ranges.{read_front}
use Rattle.comparison.proofs.look.Look.try_front.Goals as goal

pub returns : goal.returns
returns g c = λ looks ready F parting small fits.
    let 𝓣 = g.T.Tally.group in
    let s = c.args.survey.now in
    let z = c.args.input.now in
    let n = c.in_ok-front.front.length in
    let P : Input → Type 0 = λ v. Passes 𝓣 s c.args.self.now (firsts (first_in s) F.common ++ v) in
    let front = c.in_ok-front.ensures (let room : length z ≤ most = omega arith in room) in
    let is = read_front z n front.within c.get.result _ c.unwrap_or-front.result c.unwrap_or-front.ensures c.get.ensures.lookup in
    let size = ap length is ∙ length-take n z in
    let short : length c.unwrap_or-front.result.now ≤ length z = omega arith in
    match_map c.try_completed.result
    (front_all 𝓣 s F small P c.args.word.now z c.unwrap_or-front.result.now n front.cuts is)
    (λ f h. (h.0, front_short 𝓣 s F small z c.unwrap_or-front.result.now (letters c.try_completed.new.bench.tried) short h.1))
    (c.try_completed.ensures looks ready F parting small (omega arith))
