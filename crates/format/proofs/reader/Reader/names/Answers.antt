use Rattle.std.proofs.Common.{[], reverse, sym, ap, ◌∙◌}
use mathlib.Core.List.{reverse-reverse}
use Rattle.std.proofs.lemmas.Result.{err_from_is_err_and}
use Rattle.layout.specs.Reading.{many, name}
use Rattle.layout.proofs.Steps.{then_ok}
use Rattle.format.proofs.Fields.{single_name, bytewise_more, front_of}
use Rattle.format.proofs.Items.{on_more, on_wrong}
use Rattle.format.proofs.reader.Reader.names.Goals as goal

pub loop-preserved : goal.loop-preserved
loop-preserved c =
    let w = c.loop.invariant in
    let t = c.loop.self.total in
    let left = c.loop.self.left.now in
    let before = ap reverse (c.read_of.ensures.value ∙ front_of _ _ left w.known) ∙ reverse-reverse w.items in
    let read = sym (c.in_ok-name.ensures.read ∙ ap (λ xs. name t xs left) before) in
    on_more w c.loop-test.true read c.in_ok-name.ensures.total (bytewise_more _ w.items _ _ _ w.known (single_name t w.items left _ read))

pub returns-in_err-name : goal.returns-in_err-name
returns-in_err-name c =
    let p = err_from_is_err_and c.from_residual-in_err-name.result c.from_residual-in_err-name.ensures.1 in
    let w = c.loop.invariant in
    let t = c.args.self.now.total in
    let left = c.loop.self.left.now in
    let before = ap reverse (c.read_of.ensures.value ∙ front_of _ _ left w.known) ∙ reverse-reverse w.items in
    let read = sym (c.in_err-name.ensures.read ∙ ap (λ xs. name c.loop.self.total xs left) before) in
    record {
      read = rw (p.1, p.2) (sym (then_ok _ (λ n. many t (name t) n []) _ _ (sym c.in_ok-count.ensures.read) ∙ on_wrong w c.loop-test.true read));
      total = c.in_err-name.ensures.total ∙ w.same;
    }
