-- A list of arguments without the option at an end is too short for it, or has other texts there. Assumes nothing.
use Rattle.std.proofs.Common.{rules, ◌∙◌, []}
use Rattle.asking.proofs.Options.{behind, without, few}
use Rattle.asking.proofs.arguments.Arguments.parse.Goals as goal
use Rattle.asking.proofs.arguments.Arguments.parse.Goals.{in_default-via-then-words-lt2, in_default-via-in-len2-up-2+else-eq-2}

pub returns-in-len2-up-2 : goal.returns-in-len2-up-2
returns-in-len2-up-2 c =
    c.of_four-in-len2-up-2.ensures ∙ behind (λ w. w.now) (record { ref_ptr = (0, 0); now = [] }) c.args.words.now c.if-eq.ensures c.if-eq-2.ensures

pub returns-in_default : goal.returns-in_default
returns-in_default c =
    c.of_four-in_default.ensures ∙ elim c.in_default-1.branch [
      | in_default-via-then-words-lt2 w ↦ few (λ w. w.now) c.args.words.now (search rules)
      | in_default-via-in-len2-up-2+else-eq-2 w ↦ without (λ w. w.now) (record { ref_ptr = (0, 0); now = [] }) c.args.words.now w.if-eq.ensures w.if-eq-2.ensures
    ]
