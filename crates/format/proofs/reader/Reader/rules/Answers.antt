use Rattle.std.proofs.Common.{ℕ, [], reverse, Some, Option, sym, ap, ◌∙◌, arith}
use Rattle.std.proofs.lemmas.Result.{err_from_is_err_and}
use Rattle.layout.specs.Reading.{many, rule}
use Rattle.layout.proofs.Steps.{then_ok}
use Rattle.format.specs.Views.{rule_head}
use Rattle.format.proofs.Fields.{few_rules, rules_in, front_of}
use Rattle.format.proofs.Items.{on_more, on_wrong, on_all, seen_ok, seen_err}
use Rattle.format.proofs.reader.Reader.rules.Goals as goal

pub loop-preserved : goal.loop-preserved
loop-preserved c =
    let w = c.loop.invariant in
    let item = rule c.loop.self.total c.args.count c.args.kinds w.items c.loop.self.left.now in
    let got = c.in_ok-rule.ensures w.items w.known in
    let read = seen_ok rule_head item _ _ got.read in
    on_more w c.loop-test.true read.1 got.total (ap {B = Option (ℕ × ℕ)} Some read.2)

pub returns-in_err-rule : goal.returns-in_err-rule
returns-in_err-rule c =
    let p = err_from_is_err_and c.from_residual-in_err-rule.result c.from_residual-in_err-rule.ensures.1 in
    let w = c.loop.invariant in
    let t = c.args.self.now.total in
    let item = rule c.loop.self.total c.args.count c.args.kinds w.items c.loop.self.left.now in
    let got = c.in_err-rule.ensures w.items w.known in
    let read = seen_err rule_head item _ got.read in
    record {
      read = rw (p.1, p.2) (then_ok _ (λ n. many t (rule t c.args.count c.args.kinds) n []) _ _ (sym c.in_ok-size.ensures.read) ∙ on_wrong w c.loop-test.true read);
      total = got.total ∙ w.same;
    }

pub returns : goal.returns
returns c =
    let w = c.loop.invariant in
    let t = c.args.self.now.total in
    let s = c.rule_count.new.self.left.now in
    let size = sym c.in_ok-size.ensures.read in
    let whole = on_all w (omega arith) in
    let few = few_rules t c.args.self.now.left.now _ size in
    let body = rules_in t c.args.count c.args.kinds _ s _ _ few c.read_of.ensures.bytes whole.0 whole.1 in
    record {
      read = record {
        items = reverse w.items;
        reads = then_ok _ (λ n. many t (rule t c.args.count c.args.kinds) n []) _ _ size ∙ whole.0;
        count = sym whole.1;
        bytes = c.read_of.ensures.value ∙ front_of s _ c.loop.self.left.now body;
      };
      total = w.same;
    }
