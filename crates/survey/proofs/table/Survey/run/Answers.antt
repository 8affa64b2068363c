use Rattle.std.proofs.Common.{◌≡◌, ◌≤◌, [], ◌++◌, length, get_or, sym, ap, ◌∙◌, append-nil, arith, length-take, ltb-false}
use Rattle.std.proofs.lemmas.List.{nil_from_length}
use Rattle.grammar.specs.Meaning.{Weighted, tally_of}
use Rattle.grammar.specs.WordStacks as stacks
use Rattle.norm.specs.Tabled.{held}
use Rattle.survey.specs.Surveyed.{surveyed}
use Rattle.grammar.proofs.Held.{fits}
use Rattle.survey.proofs.Runs.{along_none, along_empty, along_stuck, along_more, along_all}
use Rattle.survey.proofs.Weighing.{rule_some, rule_none}
use Rattle.survey.proofs.table.Survey.run.Goals as goal

pub loop-letter-init : goal.loop-letter-init
loop-letter-init g c =
    let w = c.args.word.now in
    let fresh = c.new-left.ensures in
    let none = ap length fresh in
    along_none g.T.Tally.group (surveyed c.args.self.now) w c.args.input.now (stacks.held c.push_word.new.self) c.zero-tally.result
    (λ h. fits 512 w (stacks.held c.new-left.result) _ c.push_word.ensures (omega arith) ∙ ap (λ x. w ++ x) fresh ∙ append-nil w) c.zero-tally.ensures

pub returns-in_err-symbol : goal.returns-in_err-symbol
returns-in_err-symbol g c = λ h.
    let l = c.loop-letter in
    let none : stacks.held l.left ≡ [] = nil_from_length (stacks.held l.left) (let i = ltb-false 0 (length (stacks.held l.left)) (sym c.in_err-symbol.ensures.test) in omega arith) in
    rw c.from_residual.ensures (along_empty g.T.Tally.group (surveyed c.args.self.now) c.args.word.now c.args.input.now l.letter-index (stacks.held l.left) l.tally l.invariant (omega arith) none h)

pub returns-in_err-rule : goal.returns-in_err-rule
returns-in_err-rule g c = λ h.
    let l = c.loop-letter in
    let s = c.args.self.now in
    let a = get_or c.args.input.now l.letter-index 0 in
    let A = c.in_ok-symbol.symbol in
    rw c.from_residual-in_err-rule.ensures
    (along_stuck g.T.Tally.group (surveyed s) c.args.word.now c.args.input.now l.letter-index A (stacks.held l.left) (stacks.held c.pop.new.self) l.tally l.invariant (omega arith)
    c.in_ok-symbol.ensures.word (rule_none s A a (sym c.in_err-rule.ensures)) h)

pub loop-letter-preserved : goal.loop-letter-preserved
loop-letter-preserved g c =
    let 𝓣 = g.T.Tally.group in
    let l = c.loop-letter in
    let s = c.args.self.now in
    let a = get_or c.args.input.now l.letter-index 0 in
    let A = c.in_ok-symbol.symbol in
    let v = c.in_ok-rule.rule in
    let found = rule_some s A a (held v) (sym c.in_ok-rule.ensures) in
    let m : Weighted g.row.T.Denot = record { word = held v; tally = found.0 } in
    let within = v.within in
    let short : length (held v) ≤ 4 = simp length-take (omega arith) in
    let r = stacks.held c.pop.new.self in
    let slice = c.as_slice.ensures in
    let size = ap length slice in
    along_more 𝓣 (surveyed s) c.args.word.now c.args.input.now l.letter-index A (stacks.held l.left) r (stacks.held c.push_word-in-loop-letter.new.self) l.tally c.add-tally.result m l.invariant (omega arith)
    c.in_ok-symbol.ensures.word found.2 short (λ h. fits 512 c.as_slice.result.now r _ c.push_word-in-loop-letter.ensures (omega arith) ∙ ap (λ x. x ++ r) slice)
    (c.add-tally.ensures ∙ ap (𝓣.add l.tally) (c.rule_tally.ensures ∙ ap (tally_of 𝓣.zero) found.2))

pub returns : goal.returns
returns g c = λ h.
    let l = c.loop-letter in
    along_all g.T.Tally.group (surveyed c.args.self.now) c.args.word.now c.args.input.now l.letter-index (stacks.held l.left) l.tally l.invariant (omega arith) h
