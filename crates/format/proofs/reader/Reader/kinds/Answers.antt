use Rattle.std.proofs.Common.{[], sym, refl, ◌∙◌}
use Rattle.std.proofs.lemmas.Result.{err_from_is_err_and}
use Rattle.layout.specs.Reading.{many, kind}
use Rattle.layout.proofs.Steps.{then_ok}
use Rattle.format.proofs.Fields.{single_kind, bytewise_more}
use Rattle.format.proofs.Items.{on_more, on_wrong}
use Rattle.format.proofs.reader.Reader.kinds.Goals as goal

pub loop-preserved : goal.loop-preserved
loop-preserved c =
    let w = c.loop.invariant in
    let got = c.in_ok-kind.ensures w.items w.known.1 in
    let read = sym got.read in
    on_more w c.loop-test.true read got.total (bytewise_more _ w.items _ _ _ w.known.0 (single_kind c.loop.self.total w.items c.loop.self.left.now _ read), refl)

pub returns-in_err-kind : goal.returns-in_err-kind
returns-in_err-kind c =
    let p = err_from_is_err_and c.from_residual-in_err-kind.result c.from_residual-in_err-kind.ensures.1 in
    let w = c.loop.invariant in
    let t = c.args.self.now.total in
    let got = c.in_err-kind.ensures w.items w.known.1 in
    record {
      read = rw (p.1, p.2) (sym (then_ok _ (λ n. many t (kind t) n []) _ _ (sym c.in_ok-count.ensures.read) ∙ on_wrong w c.loop-test.true (sym got.read)));
      total = got.total ∙ w.same;
    }
