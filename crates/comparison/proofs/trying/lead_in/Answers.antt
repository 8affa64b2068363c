use Rattle.std.proofs.Common.{take, ◌++◌, ap, ◌∙◌}
use Rattle.norm.specs.Norms.{firsts}
use Rattle.norm.specs.Skeletons.{first_at}
use Rattle.walk.specs.Inputs.{most}
use Rattle.comparison.proofs.Completing.{take_over}
use Rattle.comparison.proofs.trying.lead_in.Goals as goal

pub returns : goal.returns
returns c = λ known small.
    let first = firsts (first_at c.args.skeleton.now) c.args.word.now in
    let written = c.extend_first.ensures known small ∙ ap (λ l. take most (l ++ first)) c.clear.ensures in
    c.extend.ensures ∙ ap (λ l. take most (l ++ c.args.end.now)) written ∙ take_over most first c.args.end.now
