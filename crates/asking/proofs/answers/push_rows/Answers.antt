use Rattle.std.proofs.Common.{◌≡◌, ◌++◌, ◌∙◌, sym, ap, vec_items, arith}
use mathlib.Core.List.{append-nil}
use Rattle.std.specs.Option.{option_map}
use Rattle.rows.specs.Sheets.{weighed}
use Rattle.survey.specs.Surveyed.{surveyed, first_in}
use Rattle.comparer.specs.Comparers.{rows_of, row_read}
use Rattle.asking.specs.Texts.{line_text, rows_text}
use Rattle.asking.proofs.Lines.{no_lines, line_on}
use Rattle.asking.proofs.answers.push_rows.Goals as goal

pub loop-symbol-init : goal.loop-symbol-init
loop-symbol-init g c = λ few s over ranked.
    let old = vec_items c.args.text.now in
    sym (append-nil old) ∙ ap (λ x. old ++ x) (sym (no_lines _))

pub loop-symbol-preserved : goal.loop-symbol-preserved
loop-symbol-preserved g c = λ few s over ranked.
    let A = c.loop-symbol.symbol in
    let numbers = g.T.FileTally.numbers in
    let D = weighed g.T.Tally.group (surveyed s) (first_in s) (rows_of c.args.comparer.now) in
    let told = ap (λ o. line_text c.args.labels.now numbers A o) (c.row.ensures.over s over ranked) in
    line_on (λ B. line_text c.args.labels.now numbers B (D B)) (vec_items c.args.text.now) (vec_items c.loop-symbol.text) (vec_items c.push_told.new.text)
    (line_text c.args.labels.now numbers A (option_map row_read c.row.result)) A (c.loop-symbol.invariant few s over ranked) told (c.in_ok-push_told.ensures few)

pub returns : goal.returns
returns g c = λ few s over ranked.
    let all : c.loop-symbol.symbol ≡ 32 = omega arith in
    let D = weighed g.T.Tally.group (surveyed s) (first_in s) (rows_of c.args.comparer.now) in
    c.loop-symbol.invariant few s over ranked ∙ ap (λ n. vec_items c.args.text.now ++ rows_text c.args.labels.now g.T.FileTally.numbers D n) all
