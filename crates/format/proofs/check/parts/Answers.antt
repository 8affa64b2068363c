use Rattle.std.proofs.Common.{length, sym, refl, ap, ◌∙◌, rules}
use Rattle.std.proofs.lemmas.Result.{err_from_is_err_and}
use Rattle.layout.specs.Reading.{value_of, ended}
use Rattle.layout.proofs.Sections.{names_sound}
use Rattle.format.proofs.Stages.{contents, at_rules, at_rows, at_end, rules_wrong, rows_wrong, ended_more, ended_all}
use Rattle.format.proofs.check.parts.Goals as goal

pub overflow_cast-count : goal.overflow_cast-count
overflow_cast-count g c =
    let few = (names_sound (length c.args.bytes.now) c.args.bytes.now _ (sym c.in_ok-names.ensures.read)).0.few in
    search rules

pub returns-in_err-rules : goal.returns-in_err-rules
returns-in_err-rules g c =
    let p = err_from_is_err_and c.from_residual-in_err-rules.result c.from_residual-in_err-rules.ensures.1 in
    let named = c.in_ok-names.ensures in
    let kinded = c.in_ok-kinds.ensures in
    let at = at_rules named.read named.total kinded.read c.has_kinds.ensures c.if-not-has_kinds.false in
    rw (p.1, p.2) (ap value_of (rules_wrong at (kinded.total ∙ named.total) c.in_err-rules.ensures.read))

pub returns-in_err-rows : goal.returns-in_err-rows
returns-in_err-rows g c =
    let p = err_from_is_err_and c.from_residual-in_err-rows.result c.from_residual-in_err-rows.ensures.1 in
    let named = c.in_ok-names.ensures in
    let kinded = c.in_ok-kinds.ensures in
    let ruled = c.in_ok-rules.ensures in
    let total = kinded.total ∙ named.total in
    let at = at_rules named.read named.total kinded.read c.has_kinds.ensures c.if-not-has_kinds.false in
    rw (p.1, p.2) (ap value_of (rows_wrong (at_rows at total ruled.read.reads) (ruled.total ∙ total) c.in_err-rows.ensures.read))

pub returns-in_err-end : goal.returns-in_err-end
returns-in_err-end g c =
    let p = err_from_is_err_and c.from_residual-in_err-end.result c.from_residual-in_err-end.ensures.1 in
    let named = c.in_ok-names.ensures in
    let kinded = c.in_ok-kinds.ensures in
    let ruled = c.in_ok-rules.ensures in
    let rowed = c.in_ok-rows.ensures in
    let total = kinded.total ∙ named.total in
    let at = at_rules named.read named.total kinded.read c.has_kinds.ensures c.if-not-has_kinds.false in
    let end = at_end (at_rows at total ruled.read.reads) (ruled.total ∙ total) rowed.read.reads in
    let left = c.rows.new.self.left.now in
    let ends = c.in_err-end.ensures ∙ ap (λ t. value_of (ended t {X = Unit {0}} tt left)) (rowed.total ∙ ruled.total ∙ total) in
    rw (p.1, p.2) (ap value_of (end.goes ∙ ended_more _ _ left ends))

pub returns : goal.returns
returns g c =
    let named = c.in_ok-names.ensures in
    let kinded = c.in_ok-kinds.ensures in
    let ruled = c.in_ok-rules.ensures in
    let rowed = c.in_ok-rows.ensures in
    let total = kinded.total ∙ named.total in
    let at = at_rules named.read named.total kinded.read c.has_kinds.ensures c.if-not-has_kinds.false in
    let end = at_end (at_rows at total ruled.read.reads) (ruled.total ∙ total) rowed.read.reads in
    let left = c.rows.new.self.left.now in
    let ends = c.in_ok-end.ensures ∙ ap (λ t. value_of (ended t {X = Unit {0}} tt left)) (rowed.total ∙ ruled.total ∙ total) in (
      contents _ _ ruled.read.items rowed.read.items,
      ap value_of (end.goes ∙ ended_all _ _ left ends),
      record {
        names = refl;
        kinds = refl;
        rule_count = ruled.read.count;
        rules = ruled.read.bytes;
        row_count = rowed.read.count;
        rows = rowed.read.bytes;
      },
    )
