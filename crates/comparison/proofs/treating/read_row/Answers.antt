use Rattle.std.proofs.Common.{option_map, sym, ap, ◌∙◌}
use Rattle.grammar.specs.WordStacks.{held}
use Rattle.grammar.specs.Meaning.{Weighted}
use Rattle.survey.specs.Surveyed.{run_of}
use Rattle.comparison.proofs.Mending.{read_is, pushed}
use Rattle.comparison.proofs.treating.read_row.Goals as goal

pub returns-in_err-run : goal.returns-in_err-run
returns-in_err-run g c = λ known_A known_B.
    let read = sym (read_is g.T.Tally.group c.args.survey.now c.args.later c.args.earlier known_A known_B c.first_input-first.result.now (c.first_input-first.ensures known_B) c.run.result c.run.ensures) in
    rw c.from_residual.ensures (read ∙ ap (option_map run_of) c.in_err-run.was)

pub returns : goal.returns
returns g c = λ known_A known_B.
    let read = sym (read_is g.T.Tally.group c.args.survey.now c.args.later c.args.earlier known_A known_B c.first_input-first.result.now (c.first_input-first.ensures known_B) c.run.result c.run.ensures) ∙ ap (option_map run_of) c.in_ok-run.was in
    let m : Weighted g.row.T.Denot = run_of c.in_ok-run.run' in
    (m, read, pushed g.T.Tally.group c.args.survey.now c.args.later c.args.earlier known_A known_B m read (held c.push.new.self) c.push.ensures)
