use Rattle.sheet.proofs.Cut.{front_kept}
use Rattle.sheet.proofs.row.row_of.Goals as goal

pub returns : goal.returns
returns c = front_kept c.args.word.now c.copy_from_slice.new.self _ c.min.result c.min.ensures c.copy_from_slice.ensures.after
