use Rattle.std.proofs.Common.{subst}
use Rattle.agreement.specs.Agreeing.{Side}
use Rattle.agreement.proofs.Sides.{sides_meet}
use Rattle.agreement.proofs.agreeing.meet.Goals as goal

pub returns-in-Some-Some : goal.returns-in-Some-Some
returns-in-Some-Some g c = λ D p q l r.
    let 𝓣 = g.T.Tally.group in
    sides_meet 𝓣 D c.args.offset c.in-Some-Some.own c.in-Some-Some.other p q c.is_even.result
    (subst (λ o. Side 𝓣 D o p) c.in-Some-Some.is-0 l) (subst (λ o. Side 𝓣 D o q) c.in-Some-Some.is-1 r) c.is_even.ensures
