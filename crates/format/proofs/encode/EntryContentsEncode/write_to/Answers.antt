use Rattle.std.proofs.Common.{◌%◌, length, ◌∙◌, arith}
use Rattle.format.proofs.Low.{two_same, puts_entries}
use Rattle.format.proofs.Writes.{puts_as}
use Rattle.format.proofs.encode.EntryContentsEncode.write_to.Goals as goal

pub returns : goal.returns
returns g c =
    let count = c.to_be_bytes.ensures ∙ two_same (length c.args.self.now.rules.now % 65536) (omega arith) in
    puts_entries g.R.Entry.rule c.args.self.now (omega arith) c.put_counted.ensures c.put_counted-2.ensures (puts_as count c.put.ensures) c.put_rules.ensures c.put-2.ensures c.put_all.ensures
