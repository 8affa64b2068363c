use Rattle.std.proofs.Common.{◌∙◌, ap, arith}
use Rattle.format.specs.Lent.{contents_by, low_encode, filled_len, filled}
use Rattle.format.proofs.Low.{canonical}
use Rattle.format.proofs.Writes.{no_room, room}
use Rattle.format.proofs.encode.encode_entries_into.Goals as goal

pub returns-then-needed-out : goal.returns-then-needed-out
returns-then-needed-out g c =
    let C = contents_by g.R.Entry.rule c.args.contents.now in
    let o = c.args.out.now in
    let none = no_room (low_encode C) o c.put_contents-needed.ensures c.if-needed-out.true in
    record {
      value = λ h. none.0 ∙ ap (λ bs. filled_len bs o) (canonical C h).written;
      out = λ h. none.1 ∙ ap (λ bs. filled bs o) (canonical C h).written;
      low_value = none.0;
      low_out = none.1;
      law = canonical C;
    }

pub returns : goal.returns
returns g c =
    let C = contents_by g.R.Entry.rule c.args.contents.now in
    let o = c.args.out.now in
    let all = room (low_encode C) o c.put_contents-needed.ensures (omega arith) c.if-needed-out.false c.put_contents.ensures in
    record {
      value = λ h. all.0 ∙ ap (λ bs. filled_len bs o) (canonical C h).written;
      out = λ h. all.1 ∙ ap (λ bs. filled bs o) (canonical C h).written;
      low_value = all.0;
      low_out = all.1;
      law = canonical C;
    }
