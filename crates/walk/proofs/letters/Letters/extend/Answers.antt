use Rattle.walk.proofs.Buffers.{added}
use Rattle.walk.proofs.letters.Letters.extend.Goals as goal

pub returns : goal.returns
returns c =
    let s = c.args.self.now in
    added 16384 s.len c.min-count.result s.bytes c.args.input.now c.copy_from_slice.new.self s.room s.within c.min-count.ensures c.copy_from_slice.ensures.after
