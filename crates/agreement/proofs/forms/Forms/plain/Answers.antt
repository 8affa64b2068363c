use Rattle.std.proofs.Common.{◌≡◌, [], ◌∷◌, rules}
use Rattle.agreement.specs.Forms.{form_of}
use Rattle.agreement.proofs.FromFn.{from_fn_gives}
use Rattle.agreement.proofs.Grown.{plain_puts}
use Rattle.agreement.proofs.forms.Forms.plain.Goals as goal

pub returns : goal.returns
returns g c = plain_puts g.T.Tally.group (record { forms = c.from_fn.result; room = c.from_fn.ensures.items.long })
    (λ A l. from_fn_gives _ _ 32 (λ i y. form_of y ≡ record { word = i ∷ []; tally = g.T.Tally.group.zero }) (λ i y q l k. search rules) c.from_fn.result c.from_fn.ensures.items A l)
