use Rattle.std.proofs.Common.{◌≡◌, [], ◌++◌, reverse, sym, refl, ◌∙◌, arith}
use Rattle.layout.specs.Contents.{joined, row_bytes}
use Rattle.layout.specs.Reading.{many, row}
use Rattle.layout.proofs.Sections.{rows_sound}
use Rattle.layout.proofs.Steps.{then_ok}
use Rattle.format.proofs.Fields.{single_within, front_of}
use Rattle.format.proofs.Items.{on_more, on_all}
use Rattle.format.proofs.reader.Reader.rows.Goals as goal

pub loop-preserved : goal.loop-preserved
loop-preserved c =
    let w = c.loop.invariant in
    let got = c.in_ok-row.ensures w.items w.known in
    on_more w c.loop-test.true (sym got.read) got.total refl

pub returns : goal.returns
returns c =
    let w = c.loop.invariant in
    let t = c.args.self.now.total in
    let bs = c.args.self.now.left.now in
    let s = c.count_within.new.self.left.now in
    let size = sym c.in_ok-size.ensures.read in
    let whole = on_all w (omega arith) in
    let reads = then_ok _ (λ n. many t (row t c.args.count) n []) _ _ size ∙ whole.0 in
    let used = sym (single_within t 0 31 bs _ size) ∙ (rows_sound t bs c.args.count _ reads).1 in
    let body : s ≡ joined row_bytes (reverse w.items) ++ c.loop.self.left.now = cc in
    record {
      read = record {
        items = reverse w.items;
        reads = reads;
        count = sym whole.1;
        bytes = c.read_of.ensures.value ∙ front_of s _ c.loop.self.left.now body;
      };
      total = w.same;
    }
