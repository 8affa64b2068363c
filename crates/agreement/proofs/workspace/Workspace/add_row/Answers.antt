use Rattle.std.proofs.Common.{◌==◌, cond, length, refl, ap, ap₂, ◌∙◌, arith}
use Rattle.grammar.specs.Meaning.{Weighted}
use Rattle.agreement.specs.Forms.{puts}
use Rattle.agreement.proofs.Grown.{grown_works, row_symbol}
use Rattle.agreement.proofs.Untouched.{one_set}
use Rattle.agreement.proofs.workspace.Workspace.add_row.Goals as goal

pub returns-then-symbol-lt32 : goal.returns-then-symbol-lt32
returns-then-symbol-lt32 g c = λ n norm D E within ranked grown works.
    let 𝓣 = g.T.Tally.group in
    let A = c.args.symbol in
    let w = c.args.word.now in
    let m : Weighted g.row.T.Denot = record { word = w; tally = c.args.offset } in
    grown_works 𝓣 n norm within D E ranked A m grown c.args.self.now _ (puts 𝓣 c.set.new.self) works
    (λ room C.
    let new = c.replace-normal.ensures (omega arith) in
    c.set.ensures c.if-symbol-lt32.true C
    ∙ ap₂ (λ (x y : Weighted g.row.T.Denot). cond (C == A) x y)
    (c.shortened.ensures (let size = ap (λ (x : Weighted g.row.T.Denot). length x.word) new in omega arith) ∙ ap₂ (λ x y. record { word = x; tally = y }) (ap (λ (x : Weighted g.row.T.Denot). x.word) new) (c.add.ensures ∙ ap (λ (x : Weighted g.row.T.Denot). 𝓣.add c.args.offset x.tally) new))
    (c.plain-row.ensures C))
    (c.refill.ensures (one_set 𝓣 A _ _ _ c.plain-row.ensures (c.set.ensures c.if-symbol-lt32.true))) refl

pub returns-else-symbol-lt32 : goal.returns-else-symbol-lt32
returns-else-symbol-lt32 g c = λ n norm D E within ranked grown works.
    let m : Weighted g.row.T.Denot = record { word = c.args.word.now; tally = c.args.offset } in
    absurd (let l = row_symbol g.T.Tally.group n norm within D E ranked c.args.symbol m grown in let f = within.few in let k = c.if-symbol-lt32.false in omega arith)
