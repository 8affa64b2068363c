use Rattle.std.proofs.Common.{◌≤◌, length, take, ◌∷◌, sym, ap, ◌∙◌, subst, take_all}
use borrow.Author.Tests.{clash}
use Rattle.norm.specs.Norms.{Taken}
use Rattle.survey.specs.Surveyed.{surveyed, first_in}
use Rattle.comparison.specs.Treating.{cannot_read, other_norm, misses_first, row}
use Rattle.comparison.proofs.Mending.{weighs_alike, weighed_short}
use Rattle.comparison.proofs.treating.mend.Goals as goal

pub returns-in_default : goal.returns-in_default
returns-in_default g c = λ known_A known_B. cannot_read (c.in_default.ensures known_A known_B)

pub returns-then-norm_of-norm : goal.returns-then-norm_of-norm
returns-then-norm_of-norm g c = λ known_A known_B.
    let e = c.in-Some.ensures known_A known_B in
    other_norm e.0 e.1 (λ h. c.if-norm_of-norm.true ((weighs_alike g.T.Tally.group c.args.survey.now c.args.later c.args.earlier known_A known_B _ e.0.word _ _ _
    c.skeleton-skeleton.ensures (c.word-word.ensures ∙ e.2) c.norm_of.ensures c.norm.ensures).1 h))

pub returns-then-not-takes_first : goal.returns-then-not-takes_first
returns-then-not-takes_first g c = λ known_A known_B.
    let 𝓣 = g.T.Tally.group in
    let s = c.args.survey.now in
    let e = c.in-Some.ensures known_A known_B in
    let word = c.word-word.ensures ∙ e.2 in
    let weighs = (weighs_alike 𝓣 s c.args.later c.args.earlier known_A known_B _ e.0.word _ _ _ c.skeleton-skeleton.ensures word c.norm_of.ensures c.norm.ensures).0 c.if-norm_of-norm.false in
    let short = weighed_short 𝓣 s c.args.later c.args.earlier known_A known_B e.0 e.1 weighs in
    let takes = c.takes_first.ensures known_A (subst (λ x. length x ≤ 64) (sym word) short) in
    misses_first e.0 e.1 weighs (λ t. clash (sym c.if-not-takes_first.true ∙ takes.1 (subst (λ x. Taken 𝓣 (surveyed s) x (first_in s c.args.later)) (sym word) t)))

pub returns : goal.returns
returns g c = λ known_A known_B.
    let 𝓣 = g.T.Tally.group in
    let s = c.args.survey.now in
    let e = c.in-Some.ensures known_A known_B in
    let word = c.word-word.ensures ∙ e.2 in
    let weighs = (weighs_alike 𝓣 s c.args.later c.args.earlier known_A known_B _ e.0.word _ _ _ c.skeleton-skeleton.ensures word c.norm_of.ensures c.norm.ensures).0 c.if-norm_of-norm.false in
    let short = weighed_short 𝓣 s c.args.later c.args.earlier known_A known_B e.0 e.1 weighs in
    let takes = c.takes_first.ensures known_A (subst (λ x. length x ≤ 64) (sym word) short) in
    row e.0 c.row_of.result e.1 weighs (subst (λ x. Taken 𝓣 (surveyed s) x (first_in s c.args.later)) word (takes.0 c.if-not-takes_first.false))
    (c.row_of.ensures ∙ ap (take 64) word ∙ take_all 64 (c.args.earlier ∷ e.0.word) short)
