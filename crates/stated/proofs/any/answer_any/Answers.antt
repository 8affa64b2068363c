use Rattle.std.proofs.Common.{◌≡◌, [], ◌∷◌, Err, rules}
use Rattle.layout.specs.Reading.{checked}
use Rattle.layout.specs.declared.fault.Fault.TheVariants.{Kinds}
use Rattle.layout.proofs.Any.{one_fits}
use Rattle.format.proofs.Items.{bytes_of}
use Rattle.stated.proofs.Answered.{as_stated, tried_more, tried_last}
use Rattle.stated.proofs.any.answer_any.Goals as goal

-- the six others were refused for their kinds
pub returns : goal.returns
returns c =
    let bs = c.args.bytes.now in
    let none : Type 0 = checked [] bs ≡ Err Kinds in
    let foot : Type 0 = checked (1 ∷ []) bs ≡ Err Kinds in
    let last : Type 0 = checked (2 ∷ []) bs ≡ Err Kinds in
    let odd : Type 0 = checked (3 ∷ []) bs ≡ Err Kinds in
    let foot_last : Type 0 = checked (1 ∷ 2 ∷ []) bs ≡ Err Kinds in
    let foot_odd : Type 0 = checked (1 ∷ 3 ∷ []) bs ≡ Err Kinds in
    let two_by = tried_more bs none foot _ c.check_as.result c.or_else.result c.check_as.ensures.any c.or_else.ensures in
    let two = two_by (λ e. search rules) in
    let three_by = tried_more bs (none × foot) last _ c.or_else.result c.or_else-2.result two c.or_else-2.ensures in
    let three = three_by (λ e. search rules) in
    let four_by = tried_more bs ((none × foot) × last) odd _ c.or_else-2.result c.or_else-3.result three c.or_else-3.ensures in
    let four = four_by (λ e. search rules) in
    let five_by = tried_more bs (((none × foot) × last) × odd) foot_last _ c.or_else-3.result c.or_else-4.result four c.or_else-4.ensures in
    let five = five_by (λ e. search rules) in
    let six_by = tried_more bs ((((none × foot) × last) × odd) × foot_last) foot_odd _ c.or_else-4.result c.or_else-5.result five c.or_else-5.ensures in
    let six = six_by (λ e. search rules) in
    let seven_by = tried_last bs (((((none × foot) × last) × odd) × foot_last) × foot_odd) _ c.or_else-5.result c.unwrap_or_else.result six c.unwrap_or_else.ensures in
    seven_by (λ p e.
    as_stated (2 ∷ 3 ∷ []) bs c.unwrap_or_else.result (search rules)
    (one_fits bs (bytes_of bs (λ i. (c.type_inv.bytes i).fits)) p.0.0.0.0.0 p.0.0.0.0.1 p.0.0.0.1 p.0.0.1 p.0.1 p.1))
