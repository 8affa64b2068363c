use Rattle.std.proofs.Common.{◌≡◌, ◌≤◌, Some, ap, ◌∙◌, subst}
use Rattle.grammar.proofs.Options.{none_some, some_same}
use Rattle.grammar.specs.Meaning.{Below}
use Rattle.grammar.specs.Takes.{step}
use Rattle.norm.specs.Norms.{norms}
use Rattle.survey.specs.Surveyed.{surveyed, norm_in}
use Rattle.agreement.specs.Works.{rows_over}
use Rattle.agreement.specs.Agreeing.{Side}
use Rattle.sheet.specs.Rowed.{shown}
use Rattle.agreement.proofs.Sides.{row_word, own_known, own_small, other_small, sides_agree}
use Rattle.agreement.proofs.workspace.Workspace.agrees.Goals as goal

pub returns-in_default-clause-row : goal.returns-in_default-clause-row
returns-in_default-clause-row g c = λ ready m row. absurd (none_some (c.in_default.ensures ∙ row_word g.T.Tally.group c.args.survey.now (shown c.args.rows) c.args.self.now ready c.args.symbol m row))

pub returns-clause-row : goal.returns-clause-row
returns-clause-row g c = λ ready m row.
    let 𝓣 = g.T.Tally.group in
    let s = c.args.survey.now in
    let V = shown c.args.rows in
    let w = c.args.self.now in
    let A = c.args.symbol in
    let x = c.as_slice.result.now in
    -- the word that was read is the row's
    let is : x ≡ m.word = some_same (ap Some c.as_slice.ensures ∙ c.in-Some.ensures ∙ row_word 𝓣 s V w ready A m row) in
    let known = (ready.ranked A m.word (row_word 𝓣 s V w ready A m row)).below in
    let other = subst (λ y. Below s.skeleton.words.count y → norms (norm_in s) y ≤ 64 → Side 𝓣 (rows_over 𝓣 s V) c.side-other.result (step (surveyed s) y c.args.letter)) is (c.side-other.ensures V ready) in
    sides_agree 𝓣 s V w ready A c.args.letter m row c.side-own.result c.side-other.result c.offset.result c.meet.result c.meet.ensures
    (c.side-own.ensures V ready (own_known 𝓣 s V w ready A c.args.letter m row) (own_small 𝓣 s V w ready A c.args.letter m row))
    (other known (other_small 𝓣 s V w ready A c.args.letter m row))
    (c.offset.ensures m.tally (ready.works.offsets A m row))
