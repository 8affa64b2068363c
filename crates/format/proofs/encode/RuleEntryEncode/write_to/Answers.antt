use Rattle.std.proofs.Common.{◌^◌, ◌<◌, length, arith}
use Rattle.format.proofs.Writes.{puts_then}
use Rattle.format.proofs.encode.RuleEntryEncode.write_to.Goals as goal

pub returns : goal.returns
returns c =
    let room : length c.args.to.now.out.now < 2 ^ 64 = omega arith in
    puts_then room (puts_then room c.put.ensures c.put_all.ensures) c.put_counted.ensures
