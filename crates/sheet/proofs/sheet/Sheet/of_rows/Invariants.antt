use Rattle.std.proofs.Common.{◌≡◌, List}
use Rattle.layout.specs.Contents.{FileRow, All, joined, row_bytes}
use Rattle.sheet.specs.Rowed.{shows, Fits}
use Rattle.sheet.proofs.OneByOne.{Rest}
use Rattle.sheet.proofs.sheet.Sheet.of_rows.Given as goal

abbrev pub invariant-loop-row : goal.invariant-loop-row
invariant-loop-row l = (rs : List FileRow) → All Fits rs → l.fn.section.bytes.now ≡ joined row_bytes rs → Rest rs l.row-iterator.bytes.now (shows l.sheet)
