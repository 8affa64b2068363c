use Rattle.std.proofs.Common.{List, ℕ, [], ◌∷◌, ◌++◌, ◌<◌, length, get_or, sym, ◌∙◌, subst, arith}
use Rattle.std.proofs.lemmas.Option.{slice_get-get_or}
use Rattle.layout.proofs.Ordered.{byte, joined_bytes}
use Rattle.format.specs.Lent.{Wrote}
use Rattle.writing.proofs.WrittenItems.{item_written, items_all, wrote_as}
use Rattle.writing.proofs.writing.kinds_into.Goals as goal
use Rattle.writing.proofs.writing.kinds_into.Goals.{in-Some, in_default}

pub loop-place-preserved : goal.loop-place-preserved
loop-place-preserved g c = λ few.
    let ks = g.T.FileTally.kinds in
    let i = c.loop-place.place in
    elim c.match-kind.branch [
      | in-Some w ↦ wrote_as w.at-is w.out-is (item_written byte (length ks ∷ []) ks i w.in-Some.kind (sym (w.in-Some.ensures (omega arith))) (omega arith) (c.loop-place.invariant few) w.put-at-in-Some.ensures)
      | in_default w ↦
          let there : i < length ks = omega arith in
          absurd (w.in_default.not-Some (get_or ks i 0) (c.kind.ensures (omega arith) ∙ slice_get-get_or ks i 0 there))
    ]

pub returns : goal.returns
returns g c = λ few.
    let ks = g.T.FileTally.kinds in
    subst (λ (bs : List ℕ). Wrote c.args.out.now c.args.start ((length ks ∷ []) ++ bs) c.loop-place.at c.loop-place.out) (joined_bytes ks)
    (items_all byte (length ks ∷ []) ks c.loop-place.place (omega arith) (c.loop-place.invariant few))
