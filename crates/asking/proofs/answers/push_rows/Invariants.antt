use Rattle.std.proofs.Common.{◌≡◌, ◌≤◌, ◌++◌, length, vec_items}
use Rattle.rows.specs.Sheets.{Ranked, weighed}
use Rattle.survey.specs.Surveyed.{surveyed, norm_in, first_in}
use Rattle.survey.specs.declared.table.Survey.{Survey}
use Rattle.comparer.specs.Comparers.{rows_of, Over}
use Rattle.asking.specs.Texts.{rows_text}
use Rattle.asking.proofs.answers.push_rows.Given as goal

abbrev pub invariant-loop-symbol : goal.invariant-loop-symbol
invariant-loop-symbol g l =
    length g.T.FileTally.kinds ≤ 255 → (s : Survey g.row.T.Denot) → Over l.comparer s → Ranked s.skeleton.words.count (norm_in s) (rows_of l.comparer) →
    vec_items l.text ≡ vec_items l.fn.text ++ rows_text l.labels g.T.FileTally.numbers (weighed g.T.Tally.group (surveyed s) (first_in s) (rows_of l.comparer)) l.symbol
