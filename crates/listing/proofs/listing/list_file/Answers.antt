use Rattle.std.proofs.Common.{◌≡◌, ◌<◌, ◌≤◌, [], ◌∷◌, Result, refl, sym, ap, subst, arith, length, slice_index}
use borrow.Author.Tests.{ltb-true, ltb-false}
use Rattle.layout.specs.Contents.{Contents}
use Rattle.layout.specs.declared.fault.Fault.{Fault}
use Rattle.listing.specs.Texts.{refusal_text}
use Rattle.listing.specs.Listed.{Told, for_none, for_foot, for_last, for_odd, for_foot_last, for_foot_odd, for_last_odd}
use Rattle.listing.proofs.Parts.{filled}
use Rattle.listing.proofs.Files.{no_kind, one_kind, two_kinds, legal, encoded, kinds_known, listed_as}
use Rattle.listing.proofs.listing.list_file.Goals as goal

pub returns-in-Err : goal.returns-in-Err
returns-in-Err c =
    let k = c.from.result in
    let fits = filled c.args.out.now c.refusal_into.new.out (refusal_text k) c.refusal_into.result c.refusal_into.ensures.wrote (omega (arith, c.refusal_into.ensures.short, c.told-out)) (omega (arith, c.told-out)) in
    (refusal_text k, subst (λ (o : Result Contents Fault). Told o (refusal_text k)) (sym c.in-Err.ensures.value) (ap refusal_text c.from.ensures), fits.0, fits.1)

pub returns-in-empty : goal.returns-in-empty
returns-in-empty c =
    let bs = c.args.bytes.now in
    let v = c.in-Ok.file in
    let value = c.in-Ok.ensures.value in
    let law = c.in-Ok.ensures.law in
    let t = c.opened_into.ensures value.0 value.2.names (c.open.ensures value.0 (legal bs v value law) value.2 (encoded bs v value law)) in
    (t.0, listed_as bs v value law [] t.0 (no_kind v.kinds.now c.in-empty.len_below) (for_none refl t.1), t.2, t.3)

pub returns-in-1 : goal.returns-in-1
returns-in-1 c =
    let bs = c.args.bytes.now in
    let v = c.in-Ok.file in
    let value = c.in-Ok.ensures.value in
    let law = c.in-Ok.ensures.law in
    let t = c.opened_into-in-1.ensures value.0 value.2.names (c.open-in-1.ensures value.0 (legal bs v value law) value.2 (encoded bs v value law)) in
    (t.0, listed_as bs v value law (1 ∷ []) t.0 (one_kind v.kinds.now 1 c.in-1.len_at_least c.in-1.len_below (omega arith)) (for_foot refl t.1), t.2, t.3)

pub returns-in-2 : goal.returns-in-2
returns-in-2 c =
    let bs = c.args.bytes.now in
    let v = c.in-Ok.file in
    let value = c.in-Ok.ensures.value in
    let law = c.in-Ok.ensures.law in
    let t = c.opened_into-in-2.ensures value.0 value.2.names (c.open-in-2.ensures value.0 (legal bs v value law) value.2 (encoded bs v value law)) in
    (t.0, listed_as bs v value law (2 ∷ []) t.0 (one_kind v.kinds.now 2 c.in-2.len_at_least c.in-2.len_below (omega arith)) (for_last refl t.1), t.2, t.3)

pub returns-in-3 : goal.returns-in-3
returns-in-3 c =
    let bs = c.args.bytes.now in
    let v = c.in-Ok.file in
    let value = c.in-Ok.ensures.value in
    let law = c.in-Ok.ensures.law in
    let t = c.opened_into-in-3.ensures value.0 value.2.names (c.open-in-3.ensures value.0 (legal bs v value law) value.2 (encoded bs v value law)) in
    (t.0, listed_as bs v value law (3 ∷ []) t.0 (one_kind v.kinds.now 3 c.in-3.len_at_least c.in-3.len_below (omega arith)) (for_odd refl t.1), t.2, t.3)

pub returns-in-1-2 : goal.returns-in-1-2
returns-in-1-2 c =
    let bs = c.args.bytes.now in
    let v = c.in-Ok.file in
    let value = c.in-Ok.ensures.value in
    let law = c.in-Ok.ensures.law in
    let t = c.opened_into-in-1-2.ensures value.0 value.2.names (c.open-in-1-2.ensures value.0 (legal bs v value law) value.2 (encoded bs v value law)) in
    (t.0, listed_as bs v value law (1 ∷ 2 ∷ []) t.0 (two_kinds v.kinds.now 1 2 c.in-1-2.len_at_least c.in-1-2.len_below (omega arith) (omega arith)) (for_foot_last refl t.1), t.2, t.3)

pub returns-in-1-3 : goal.returns-in-1-3
returns-in-1-3 c =
    let bs = c.args.bytes.now in
    let v = c.in-Ok.file in
    let value = c.in-Ok.ensures.value in
    let law = c.in-Ok.ensures.law in
    let t = c.opened_into-in-1-3.ensures value.0 value.2.names (c.open-in-1-3.ensures value.0 (legal bs v value law) value.2 (encoded bs v value law)) in
    (t.0, listed_as bs v value law (1 ∷ 3 ∷ []) t.0 (two_kinds v.kinds.now 1 3 c.in-1-3.len_at_least c.in-1-3.len_below (omega arith) (omega arith)) (for_foot_odd refl t.1), t.2, t.3)

pub returns-in_default : goal.returns-in_default
returns-in_default c =
    let bs = c.args.bytes.now in
    let v = c.in-Ok.file in
    let value = c.in-Ok.ensures.value in
    let law = c.in-Ok.ensures.law in
    let known = kinds_known bs v value law in
    let both : length v.kinds.now ≡ 2 = elim c.in_default.branch [
      | goal.in_default-via-then-this-lt2+in_default-1 w ↦ grind arith
      | goal.in_default-via-else-this-lt2+then-this-lt3+in-1+in_default-1 w ↦ omega (arith, ltb-true, ltb-false)
      | goal.in_default-via-else-this-lt2+then-this-lt3+in_default-1 w ↦ omega (arith, ltb-true, ltb-false)
      | goal.in_default-via-else-this-lt2+else-this-lt3 w ↦ omega (arith, ltb-true, ltb-false)
    ] in
    let low : 1 ≤ slice_index v.kinds.now 0 = known.first_low (omega arith) in
    let rise : slice_index v.kinds.now 0 < slice_index v.kinds.now 1 = known.rise (omega arith) in
    let top : slice_index v.kinds.now 1 ≤ 3 = known.second_high (omega arith) in
    let above : 1 < slice_index v.kinds.now 0 = elim c.in_default.branch [
      | goal.in_default-via-then-this-lt2+in_default-1 w ↦ grind arith
      | goal.in_default-via-else-this-lt2+then-this-lt3+in-1+in_default-1 w ↦ grind arith
      | goal.in_default-via-else-this-lt2+then-this-lt3+in_default-1 w ↦ grind arith
      | goal.in_default-via-else-this-lt2+else-this-lt3 w ↦ omega (arith, ltb-true, ltb-false)
    ] in
    let t = c.opened_into-in_default.ensures value.0 value.2.names (c.open-in_default.ensures value.0 (legal bs v value law) value.2 (encoded bs v value law)) in
    (t.0, listed_as bs v value law (2 ∷ 3 ∷ []) t.0 (two_kinds v.kinds.now 2 3 (omega arith) (omega arith) (omega arith) (omega arith)) (for_last_odd refl t.1), t.2, t.3)
