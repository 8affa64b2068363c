use Rattle.std.proofs.Common.{length, eqb-true, sym, ◌∙◌}
use Rattle.layout.proofs.Law.{rows_law}
use Rattle.sheet.proofs.OneByOne.{legal_fit}
use Rattle.sheet.proofs.Ended.{all_read}
use Rattle.sheet.proofs.candidates.candidate_rows.Goals as goal

pub returns-clause-value : goal.returns-clause-value
returns-clause-value c =
    let read = c.in_ok-section.ensures.value in
    let n = c.args.count in
    let bs = c.args.bytes.now in
    let legal = (rows_law (length bs) n bs read.items c.in_ok-section.left.now).0 read.reads in
    (read.items, all_read n bs read.items c.in_ok-section.left.now (eqb-true (length c.in_ok-section.left.now) 0 (sym c.is_empty.ensures ∙ c.if-not-is_empty.false)) read.reads, λ few. c.of_rows.ensures read.items (legal_fit n read.items few legal.0.each) read.bytes)
