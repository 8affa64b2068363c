use Rattle.std.proofs.Common.{length-take, length, drop, ◌≡◌, ◌++◌, ℕ, take, subst, arith}
use Rattle.listing.specs.Listed.{Listed}
use Rattle.listing.proofs.Inputs.{input_listed}
use Rattle.listing.proofs.input.list_input.Goals as goal

pub returns-clause-whole : goal.returns-clause-whole
returns-clause-whole g c =
    let told = c.list_file.ensures in
    let n = c.in_ok-len.len in
    let within = c.in_ok-len.ensures.within in
    let same : c.min.result ≡ n = omega (arith, c.min.ensures, within) in
    input_listed (λ u. c.list_file.result ≡ length u) (λ u. c.list_file.new.out ≡ u ++ drop (length u) c.args.out.now) c.read_front.new.buffer n (omega arith) within told.0
    (subst (λ (k : ℕ). Listed (take k c.read_front.new.buffer) told.0) same told.1) told.2 told.3
    (g.R.Read.remaining c.args.reader.now) (g.R.Read.remaining c.read_front.new.reader) c.in_ok-len.ensures.front c.in_ok-len.ensures.all

pub returns-clause-read : goal.returns-clause-read
returns-clause-read g c =
    let told = c.list_file.ensures in
    let n = c.in_ok-len.len in
    let within = c.in_ok-len.ensures.within in
    let same : c.min.result ≡ n = omega (arith, c.min.ensures, within) in
    let read = take n c.read_front.new.buffer in
    (read, told.0, omega (arith, length-take n c.read_front.new.buffer), c.in_ok-len.ensures.front, subst (λ (k : ℕ). Listed (take k c.read_front.new.buffer) told.0) same told.1, told.2, told.3)
