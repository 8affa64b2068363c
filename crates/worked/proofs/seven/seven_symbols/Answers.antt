use Rattle.std.proofs.Common.{◌≡◌, List, ◌∷◌, refl, ◌∙◌, ap₂}
use Rattle.worked.proofs.Examples.{examples}
use Rattle.worked.proofs.seven.seven_symbols.Goals as goal

more : {X : Type 0} {x y : X} {xs ys : List X} → x ≡ y → xs ≡ ys → x ∷ xs ≡ y ∷ ys
more {X = X} e d = ap₂ {C = List X} (λ x xs. x ∷ xs) e d

pub returns : goal.returns
returns c =
    let same =
    more c.record.ensures (more c.record-2.ensures (more c.record-3.ensures (more c.record-4.ensures
    (more c.record-5.ensures (more c.record-6.ensures (more c.record-7.ensures (more c.record-8.ensures
    (more c.record-9.ensures (more c.record-10.ensures (more c.record-11.ensures (more c.record-12.ensures refl))))))))))) in
    record { count = c.new.ensures.count; records = c.new.ensures.records ∙ c.in_ok-records.ensures.items ∙ same; examples = examples }

pub returns-in_err-records-clause-examples : goal.returns-in_err-records-clause-examples
returns-in_err-records-clause-examples c = examples
