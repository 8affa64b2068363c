use Rattle.std.proofs.Common.{◌≡◌, Decides, ap₂, subst, ◌∙◌}
use lib.Pointwise.{pointwise}
use lib.Dec.{eqb}
use Rattle.agreement.proofs.Sides.{even_yes}
use Rattle.agreement.proofs.agreeing.is_even.Goals as goal

pub returns-then-eq : goal.returns-then-eq
returns-then-eq g c =
    even_yes _ _ c.args.own.now.sum _ c.eq-then-eq.result (c.if-eq.ensures ∙ ap₂ (pointwise eqb) c.word.ensures c.word-2.ensures)
    (subst (λ t. Decides c.eq-then-eq.result (c.args.own.now.sum ≡ t)) c.add.ensures (g.met.T.Tally.equal c.args.own.now.sum c.add.result c.eq-then-eq.result c.eq-then-eq.ensures))
