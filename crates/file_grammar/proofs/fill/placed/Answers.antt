use Rattle.std.proofs.Common.{◌≤◌, length, drop, sym, refl, ap, ◌∙◌, arith, length-drop, ltb-false, ltb-true}
use Rattle.file_grammar.proofs.Placing.{passed_none, passed_more, passed_all}
use Rattle.file_grammar.proofs.fill.placed.Goals as goal

pub loop-left-init : goal.loop-left-init
loop-left-init c = (refl, λ rs few h. passed_none c.args.kinds c.args.bytes.now rs h)

pub loop-left-preserved : goal.loop-left-preserved
loop-left-preserved c =
    let l = c.loop-left in
    let long : 2 ≤ length l.left.now = omega (arith, ltb-false) in (
      c.type_inv.places,
      λ rs few h.
          passed_more c.args.kinds c.args.bytes.now rs h few l.left.now l.place l.places l.invariant.0 long (l.invariant.1 rs few h)
          c.size.result c.size.ensures c.rest-left.result.now (c.rest-left.ensures ∙ sym (ap (λ n. drop n l.left.now) c.size.ensures))
          c.saturating_add-place.result c.saturating_add-place.ensures c.put.new.places c.put.ensures,
    )

pub loop-left-smaller : goal.loop-left-smaller
loop-left-smaller c = let cut = ap length c.rest-left.ensures ∙ length-drop _ c.loop-left.left.now in omega (arith, ltb-false)

pub returns : goal.returns
returns c =
    let l = c.loop-left in
    λ rs few h. passed_all c.args.kinds c.args.bytes.now rs h l.left.now l.place l.places (l.invariant.1 rs few h) (omega (arith, ltb-true))
