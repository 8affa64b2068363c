use Rattle.std.proofs.Common.{ap, ap₂, ◌∙◌, [], ◌∷◌}
use Rattle.grammar.specs.Takes.{takes}
use Rattle.rows.specs.Sheets.{difference}
use Rattle.survey.specs.Surveyed.{surveyed}
use Rattle.agreement.proofs.ShortRuns.{symbol_fits, word_fits}
use Rattle.agreement.proofs.offsets.offset.Goals as goal

pub returns : goal.returns
returns g c = λ known few.
    let 𝓣 = g.T.Tally.group in
    let s = c.args.survey.now in
    let A = c.args.symbol in
    let first = c.first_input-first.ensures known in
    let own = c.taken.ensures (symbol_fits 𝓣 s A known c.first_input-first.result.now first) ∙ ap (takes 𝓣 (surveyed s) (A ∷ [])) first in
    let other = c.taken-2.ensures (word_fits 𝓣 s A known c.first_input-first.result.now first c.args.word.now few) ∙ ap (takes 𝓣 (surveyed s) c.args.word.now) first in
    c.difference.ensures ∙ ap₂ (difference 𝓣) own other
