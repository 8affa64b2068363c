use Rattle.std.proofs.Common.{[], ◌<◌, length, get_or, sym, ◌∙◌, arith}
use Rattle.std.proofs.lemmas.Option.{slice_get-get_or}
use Rattle.layout.specs.Contents.{four}
use Rattle.writing.proofs.WrittenItems.{item_written, wrote_as}
use Rattle.writing.proofs.WrittenRules.{four_written}
use Rattle.writing.proofs.rules.numbers_into.Goals as goal
use Rattle.writing.proofs.rules.numbers_into.Goals.{in-Some, in_default}

pub loop-place-preserved : goal.loop-place-preserved
loop-place-preserved g c =
    let ns = g.T.FileTally.numbers c.args.tally.now in
    let i = c.loop-place.place in
    elim c.match-number.branch [
      | in-Some w ↦ wrote_as w.at-is w.out-is (item_written four [] ns i w.in-Some.number (sym (w.in-Some.ensures (omega arith))) (omega arith) c.loop-place.invariant (four_written w.in-Some.number (omega arith) w.to_be_bytes.ensures w.put-at.ensures))
      | in_default w ↦
          let there : i < length ns = omega (arith, c.kind_count-place-end.ensures, g.T.FileTally.lossless.size c.args.tally.now) in
          absurd (w.in_default.not-Some (get_or ns i 0) (c.number.ensures (omega arith) ∙ slice_get-get_or ns i 0 there))
    ]
