use Rattle.std.proofs.Common.{sym, ap, ◌∙◌}
use Rattle.norm.specs.Tabled.{held}
use Rattle.sheet.specs.Rowed.{shown}
use Rattle.survey.specs.Surveyed.{surveyed}
use Rattle.agreement.specs.Works.{rows_over}
use Rattle.comparison.specs.Turning.{row_sides}
use Rattle.comparison.proofs.GivenPair.{view_row, row_of}
use Rattle.comparison.proofs.RowSides.{own_side, other_side}
use Rattle.comparison.proofs.tracing.row_sides.Goals as goal

pub returns-clause-one : goal.returns-clause-one
returns-clause-one g c = λ ready.
    let 𝓣 = g.T.Tally.group in
    let s = c.args.survey.now in
    let V = shown c.args.rows in
    let A = c.args.symbol in
    let x = held c.in-Some.row.now in
    let row = view_row 𝓣 s V A x (sym c.in-Some.ensures) in
    own_side 𝓣 s V c.args.work.now ready A c.args.letter (row_of 𝓣 s V A x) row c.zero.result c.zero.ensures _ c.side_by.ensures
    ∙ sym (ap (λ o. (row_sides 𝓣 (surveyed s) (rows_over 𝓣 s V) A c.args.letter o).0) row)

pub returns-clause-two : goal.returns-clause-two
returns-clause-two g c = λ ready.
    let 𝓣 = g.T.Tally.group in
    let s = c.args.survey.now in
    let V = shown c.args.rows in
    let A = c.args.symbol in
    let x = held c.in-Some.row.now in
    let m = row_of 𝓣 s V A x in
    let row = view_row 𝓣 s V A x (sym c.in-Some.ensures) in
    other_side 𝓣 s V c.args.work.now ready A c.args.letter m row c.as_slice.result.now c.as_slice.ensures c.offset.result (c.offset.ensures m.tally (ready.works.offsets A m row)) _ c.side_by-2.ensures
    ∙ sym (ap (λ o. (row_sides 𝓣 (surveyed s) (rows_over 𝓣 s V) A c.args.letter o).1) row)
