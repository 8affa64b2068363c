use Rattle.std.proofs.Common.{arith, ◌∙◌}
use Rattle.listing.proofs.FrontRead.{as_long, one_more}
use Rattle.listing.proofs.front.read_front.Goals as goal

pub loop-len-preserved : goal.loop-len-preserved
loop-len-preserved g c =
    let a = c.loop-len.len in
    let n = c.in_ok-count.count in
    let xs = c.loop-len.buffer in
    let ys = c.read.new.buf in
    let here = c.loop-len.invariant.0 in
    let read = c.in_ok-count.ensures.bound.0 in
    let long = as_long a n xs ys here (omega arith) read in
    let more = one_more a n xs ys here (omega arith) read (g.R.Read.remaining c.args.reader.now) (g.R.Read.remaining c.loop-len.reader) (g.R.Read.remaining c.read.new.self) c.loop-len.invariant.2 c.in_ok-count.ensures.bytes.0 in
    (omega (arith, long, read), long ∙ c.loop-len.invariant.1, more)
