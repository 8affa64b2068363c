use Rattle.std.proofs.Common.{◌&&◌, eqb, sym, ap, ◌∙◌, ap₂, arith}
use Rattle.std.specs.List.{slice_get}
use Rattle.std.specs.Option.{option_eq}
use Rattle.format.proofs.Kinship.{other_count, first_two, looked_up}
use Rattle.format.proofs.file_tally.has_kinds.Goals as goal

pub returns-then-kind_count-kinds : goal.returns-then-kind_count-kinds
returns-then-kind_count-kinds g c = λ few. sym (other_count g.T.FileTally.kinds c.args.kinds.now (λ e. omega arith))

pub returns-then-eq : goal.returns-then-eq
returns-then-eq g c = λ few.
    let bs = c.args.kinds.now in
    let first = c.eq.ensures ∙ ap₂ (option_eq eqb) (c.kind.ensures (omega arith)) (c.copied.ensures ∙ c.first.ensures.value) in
    let is = c.get.ensures.lookup in
    let second = c.eq-then-eq.ensures ∙ ap₂ (option_eq eqb) (c.kind-then-eq.ensures (omega arith)) (c.copied-then-eq.ensures ∙ looked_up _ c.get.result bs 1 is.3 is.1) in
    ap (λ t. t && c.eq-then-eq.result) (sym c.if-eq.true) ∙ ap₂ ◌&&◌ first second ∙ first_two g.T.FileTally.kinds bs (omega arith) few

pub returns-else-eq : goal.returns-else-eq
returns-else-eq g c = λ few.
    let bs = c.args.kinds.now in
    let first = c.eq.ensures ∙ ap₂ (option_eq eqb) (c.kind.ensures (omega arith)) (c.copied.ensures ∙ c.first.ensures.value) in
    let other = sym first ∙ c.if-eq.false in
    c.if-eq.false ∙ sym (ap (λ t. t && option_eq eqb (slice_get g.T.FileTally.kinds 1) (slice_get bs 1)) other) ∙ first_two g.T.FileTally.kinds bs (omega arith) few
