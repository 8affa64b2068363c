use Rattle.std.proofs.Common.{◌<◌, length, refl, sym, ap, ◌∙◌, arith}
use Rattle.std.specs.List.{list_any}
use Rattle.std.proofs.Math.Dec.{eqb}
use Rattle.agreement.specs.Forms.{puts}
use Rattle.agreement.proofs.Untouched.{form_refilled, form_left}
use Rattle.agreement.proofs.forms.Forms.refill.Goals.{then-contains, else-contains}
use Rattle.agreement.proofs.forms.Forms.refill.Goals as goal

pub loop-form-preserved : goal.loop-form-preserved
loop-form-preserved g c =
    let 𝓣 = g.T.Tally.group in
    let A = c.args.symbol in
    let σ = puts 𝓣 c.args.by.now in
    let os = c.args.self.now.forms in
    let small : c.loop-form.form-index < length os = let r = c.args.self.now.room in let l = c.loop-form-test.true in omega arith in
    elim c.if-contains.branch [
      | then-contains w ↦ form_refilled 𝓣 A σ os c.loop-form.form-items _ c.loop-form.form-index c.form-item.result w.refilled.result small c.loop-form.invariant w.form-items-is (λ but. w.refilled.ensures)
      | else-contains w ↦ form_left 𝓣 A σ os c.loop-form.form-items _ c.loop-form.form-index c.form-item.result _ small c.loop-form.invariant w.form-items-is refl
          (ap (list_any (λ y. eqb y A)) (sym c.word.ensures) ∙ sym c.contains.ensures.value ∙ w.if-contains.false)
    ]
