use Rattle.std.proofs.Common.{◌≡◌, sym, subst}
use Rattle.std.proofs.lemmas.Result.{err_from_is_err_and}
use Rattle.norm.specs.declared.rule_words.RuleWords.{RuleWords}
use Rattle.survey.specs.Laws.{TakenUp}
use Rattle.survey.proofs.Holding.{surveys}
use Rattle.survey.proofs.Verdicts.{exact_ok, exact_err, unnormed_refused}
use Rattle.survey.proofs.surveying.survey.Goals as goal

pub returns-in_err-skeleton-clause-value : goal.returns-in_err-skeleton-clause-value
returns-in_err-skeleton-clause-value g c =
    let M = g.G.Grammar.meaning c.args.g.now in
    let t = c.in_ok-words.words in
    let p = err_from_is_err_and c.from_residual-in_err-skeleton.result c.from_residual-in_err-skeleton.ensures.1 in
    rw (p.1, p.2) (unnormed_refused 32 64 g.G.T.Tally.group M t.count t.words c.in_ok-words.ensures c.in_err-skeleton.field-0.0 c.in_err-skeleton.ensures)

pub returns-clause-value : goal.returns-clause-value
returns-clause-value g c =
    let M = g.G.Grammar.meaning c.args.g.now in
    let t = c.in_ok-words.words in
    let s = c.in_ok-skeleton.skeleton in
    let same : s.words ≡ t = c.in_ok-skeleton.ensures in
    let up : TakenUp 32 M s.words.count s.words.words = subst (λ (w : RuleWords). TakenUp 32 M w.count w.words) (sym same) c.in_ok-words.ensures in
    surveys _ g.G.T.Tally.group M up (λ A a d h l. c.rule_tallies-tallies.ensures.each A a d h l)

pub returns-in_err-words-clause-exact : goal.returns-in_err-words-clause-exact
returns-in_err-words-clause-exact g c =
    let p = err_from_is_err_and c.from_residual.result c.from_residual.ensures.1 in
    rw (p.1, p.2) (exact_err 32 64 g.G.T.Tally.group (g.G.Grammar.meaning c.args.g.now) c.in_err-words.field-0.0 c.in_err-words.ensures)

pub returns-in_err-skeleton-clause-exact : goal.returns-in_err-skeleton-clause-exact
returns-in_err-skeleton-clause-exact g c =
    let M = g.G.Grammar.meaning c.args.g.now in
    let t = c.in_ok-words.words in
    let p = err_from_is_err_and c.from_residual-in_err-skeleton.result c.from_residual-in_err-skeleton.ensures.1 in
    rw (p.1, p.2) (exact_err 32 64 g.G.T.Tally.group M _ (unnormed_refused 32 64 g.G.T.Tally.group M t.count t.words c.in_ok-words.ensures c.in_err-skeleton.field-0.0 c.in_err-skeleton.ensures))

pub returns-clause-exact : goal.returns-clause-exact
returns-clause-exact g c = exact_ok 32 64 g.G.T.Tally.group (g.G.Grammar.meaning c.args.g.now) _ (returns-clause-value g c).accepted
