use Rattle.std.proofs.Common.{◌≡◌, sym, ◌∙◌, subst}
use borrow.Author.Tests.{clash}
use Rattle.grammar.specs.WordStacks.{held}
use Rattle.norm.specs.Norms.{Earlier}
use Rattle.norm.specs.Skeletons.{norm_at}
use Rattle.rows.specs.Sheets.{Normal}
use Rattle.survey.specs.Surveyed.{norm_in}
use Rattle.agreement.specs.Works.{rows_over}
use Rattle.comparison.specs.Treating.{pair_of, ForkAt, unlike_norms, agrees, unlike_sums, later_one, later_two}
use Rattle.comparison.proofs.Treated.{one_earlier, sums_alike, forms_same, fork_known}
use Rattle.comparison.proofs.treating.treat.Goals as goal

pub returns-then-norm_of : goal.returns-then-norm_of
returns-then-norm_of g c = λ V ready able.
    let s = c.args.survey.now in
    unlike_norms (λ e. c.if-norm_of.true ((sums_alike g.T.Tally.group s c.skeleton-skeleton.result.now (pair_of c.args.pair.now) _ _ able c.skeleton-skeleton.ensures c.norm_of.ensures c.norm_of-2.ensures).1 e))

pub returns-then-eq : goal.returns-then-eq
returns-then-eq g c = λ V ready able.
    let 𝓣 = g.T.Tally.group in
    let s = c.args.survey.now in
    let P = pair_of c.args.pair.now in
    let even = (sums_alike 𝓣 s c.skeleton-skeleton.result.now P _ _ able c.skeleton-skeleton.ensures c.norm_of.ensures c.norm_of-2.ensures).0 c.if-norm_of.false in
    let one = c.normal_form-one.ensures s V ready able.known_one able.small_one in
    let two = c.normal_form-two.ensures s V ready able.known_two able.small_two in
    let x = held c.normal_form-one.result.word in
    let y = held c.normal_form-two.result.word in
    let same : x ≡ y = forms_same 𝓣 s V c.args.work.now ready P able even x y _ _ one two (rw (c.word.ensures, c.word-2.ensures) at c.in_default.ensures) in
    let sums = (g.met.T.Tally.equal c.add.result c.add-in_default.result c.eq.result c.eq.ensures).0 c.if-eq.true in
    agrees y _ _ even (subst (λ z. Normal 𝓣 (rows_over 𝓣 s V) P.one z c.normal_form-one.result.sum) same one) two (sym c.add.ensures ∙ sums ∙ c.add-in_default.ensures)

pub returns-in_default : goal.returns-in_default
returns-in_default g c = λ V ready able.
    let 𝓣 = g.T.Tally.group in
    let s = c.args.survey.now in
    let P = pair_of c.args.pair.now in
    let even = (sums_alike 𝓣 s c.skeleton-skeleton.result.now P _ _ able c.skeleton-skeleton.ensures c.norm_of.ensures c.norm_of-2.ensures).0 c.if-norm_of.false in
    let one = c.normal_form-one.ensures s V ready able.known_one able.small_one in
    let two = c.normal_form-two.ensures s V ready able.known_two able.small_two in
    let x = held c.normal_form-one.result.word in
    let y = held c.normal_form-two.result.word in
    let same : x ≡ y = forms_same 𝓣 s V c.args.work.now ready P able even x y _ _ one two (rw (c.word.ensures, c.word-2.ensures) at c.in_default.ensures) in
    unlike_sums y _ _ even (subst (λ z. Normal 𝓣 (rows_over 𝓣 s V) P.one z c.normal_form-one.result.sum) same one) two
    (λ e. clash (sym c.if-eq.false ∙ (g.met.T.Tally.equal c.add.result c.add-in_default.result c.eq.result c.eq.ensures).1 (c.add.ensures ∙ e ∙ sym c.add-in_default.ensures)))

pub returns-then-earlier : goal.returns-then-earlier
returns-then-earlier g c = λ V ready able.
    let 𝓣 = g.T.Tally.group in
    let s = c.args.survey.now in
    let P = pair_of c.args.pair.now in
    let even = (sums_alike 𝓣 s c.skeleton-skeleton.result.now P _ _ able c.skeleton-skeleton.ensures c.norm_of.ensures c.norm_of-2.ensures).0 c.if-norm_of.false in
    let one = c.normal_form-one.ensures s V ready able.known_one able.small_one in
    let two = c.normal_form-two.ensures s V ready able.known_two able.small_two in
    let x = held c.normal_form-one.result.word in
    let y = held c.normal_form-two.result.word in
    let fork : ForkAt x y c.in-Some.a c.in-Some.b = rw (c.word.ensures, c.word-2.ensures) at c.in-Some.ensures in
    let known = fork_known 𝓣 s V c.args.work.now ready P able even x y _ _ one two c.in-Some.a c.in-Some.b fork in
    let sooner = subst (λ k. Earlier (norm_at k) c.in-Some.a c.in-Some.b) c.skeleton-skeleton.ensures (c.earlier.ensures.0 c.if-earlier.true) in
    later_two x y _ _ c.in-Some.a c.in-Some.b c.mend.result even one two fork sooner (c.mend.ensures known.1 known.0)

pub returns-else-earlier : goal.returns-else-earlier
returns-else-earlier g c = λ V ready able.
    let 𝓣 = g.T.Tally.group in
    let s = c.args.survey.now in
    let P = pair_of c.args.pair.now in
    let even = (sums_alike 𝓣 s c.skeleton-skeleton.result.now P _ _ able c.skeleton-skeleton.ensures c.norm_of.ensures c.norm_of-2.ensures).0 c.if-norm_of.false in
    let one = c.normal_form-one.ensures s V ready able.known_one able.small_one in
    let two = c.normal_form-two.ensures s V ready able.known_two able.small_two in
    let x = held c.normal_form-one.result.word in
    let y = held c.normal_form-two.result.word in
    let fork : ForkAt x y c.in-Some.a c.in-Some.b = rw (c.word.ensures, c.word-2.ensures) at c.in-Some.ensures in
    let known = fork_known 𝓣 s V c.args.work.now ready P able even x y _ _ one two c.in-Some.a c.in-Some.b fork in
    let sooner = one_earlier (norm_in s) c.in-Some.a c.in-Some.b fork.apart
    (λ h. clash (sym c.if-earlier.false ∙ c.earlier.ensures.1 (subst (λ k. Earlier (norm_at k) c.in-Some.a c.in-Some.b) (sym c.skeleton-skeleton.ensures) h))) in
    later_one x y _ _ c.in-Some.a c.in-Some.b c.mend-else-earlier.result even one two fork sooner (c.mend-else-earlier.ensures known.0 known.1)
