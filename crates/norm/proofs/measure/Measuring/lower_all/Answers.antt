use Rattle.std.proofs.Common.{ap, ◌∙◌, subst, inl, inr, arith}
use Rattle.norm.specs.Words.{body}
use Rattle.norm.specs.Ruled.{rules_of}
use Rattle.norm.specs.Measured.{measure, Best}
use Rattle.norm.proofs.Weights.{each_from_places}
use Rattle.norm.proofs.Lowering.{passing_on}
use Rattle.norm.proofs.measure.Measuring.lower_all.Goals as goal
use Rattle.norm.proofs.measure.Measuring.lower_all.Goals.{then-best-self, else-best-self}

pub loop-symbol-preserved : goal.loop-symbol-preserved
loop-symbol-preserved c =
    let m = c.args.self.now in
    let t = m.words.now in
    let l = c.loop-symbol in
    let b = c.best_rule-best in
    let j = c.if-best-self in
    let best = subst (λ ws. Best 64 (rules_of ws) (measure l.self.measures) l.symbol b.result.measure b.result.letter) l.invariant.0 b.ensures in (
      elim j.branch [ then-best-self w ↦ ap (λ s. s.words.now) w.self-is ∙ l.invariant.0 | else-best-self w ↦ ap (λ s. s.words.now) w.self-is ∙ l.invariant.0 ],
      passing_on 64 t.count (rules_of t) (λ A a. each_from_places _ (body (rules_of t A a)) (t.known A a)) m.measures
          l.symbol b.result.measure l.self.measures j.self.measures l.fell j.fell l.invariant.1 (omega arith) b.result.letter best
          (elim j.branch [
            | then-best-self w ↦ inl (w.if-best-self.true, ap (λ s. s.measures) w.self-is, w.fell-is)
            | else-best-self w ↦ inr (w.if-best-self.false, ap (λ s. s.measures) w.self-is, w.fell-is)
          ]),
    )
