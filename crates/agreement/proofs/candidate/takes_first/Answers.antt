use Rattle.survey.specs.Surveyed.{surveyed, first_in}
use Rattle.agreement.proofs.ShortRuns.{word_fits, taken_test}
use Rattle.agreement.proofs.candidate.takes_first.Goals as goal

pub returns : goal.returns
returns g c = λ known few.
    let 𝓣 = g.T.Tally.group in
    let s = c.args.survey.now in
    let first = c.first_input-first.ensures known in
    taken_test 𝓣 (surveyed s) c.args.word.now c.first_input-first.result.now (first_in s c.args.symbol) c.taken.result c.is_some.result first
    (c.taken.ensures (word_fits 𝓣 s c.args.symbol known c.first_input-first.result.now first c.args.word.now few)) c.is_some.ensures
