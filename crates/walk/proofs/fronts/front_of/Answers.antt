use Rattle.std.proofs.Common.{◌≡◌, ◌+◌, ◌≤◌, ◌++◌, length, get_or, refl, ap, ◌∙◌, append-nil, arith, length-append, rules}
use Rattle.grammar.specs.Meaning.{Word, word_of}
use Rattle.grammar.specs.WordStacks.{held}
use Rattle.grammar.proofs.Held.{fits}
use Rattle.walk.specs.Inputs.{most}
use Rattle.walk.proofs.Runs.{cut_too_long, cut_no_rule, cut_stuck, run_begun, run_more, run_stuck, run_ends}
use Rattle.walk.proofs.fronts.front_of.Goals as goal

pub returns-then-word-input : goal.returns-then-word-input
returns-then-word-input g c = λ m. cut_too_long g.G.T.Tally.group (g.G.Grammar.meaning c.args.g.now) c.args.input.now c.args.word.now c.if-word-input.true

pub loop-length-init : goal.loop-length-init
loop-length-init g c = λ m.
    let w = c.args.word.now in
    let none : length (held c.new-left.result) ≡ 0 = ap length c.new-left.ensures in
    let put = fits most w (held c.new-left.result) _ c.push_word.ensures (omega arith) in
    let whole = put ∙ ap (λ x. w ++ x) c.new-left.ensures ∙ append-nil w in
    run_begun g.G.T.Tally.group (g.G.Grammar.meaning c.args.g.now) w c.args.input.now _ _ c.zero-tally.ensures whole c.if-word-input.false

pub returns-in_default : goal.returns-in_default
returns-in_default g c = λ m.
    run_ends g.G.T.Tally.group (g.G.Grammar.meaning c.args.g.now) c.args.word.now c.args.input.now _ _ _ _ (c.loop-length.invariant m) (search rules) refl

pub returns-then-not-has_rule : goal.returns-then-not-has_rule
returns-then-not-has_rule g c = λ m.
    let M = g.G.Grammar.meaning c.args.g.now in
    let s = c.args.input.now in
    let a = get_or s c.loop-length.length 0 in
    let stuck = λ (r : Word) (e : length r + c.loop-length.length + 1 ≡ length s). cut_no_rule g.G.T.Tally.group M c.in-Some.symbol a _ _ r c.in-Some.ensures.word (search rules) in
    run_stuck g.G.T.Tally.group M c.args.word.now s _ a _ _ (c.loop-length.invariant m) c.loop-length-test.true refl stuck

pub returns-then-rule_len-len : goal.returns-then-rule_len-len
returns-then-rule_len-len g c = λ m.
    let M = g.G.Grammar.meaning c.args.g.now in
    let s = c.args.input.now in
    let a = get_or s c.loop-length.length 0 in
    let stuck = λ (r : Word) (e : length r + c.loop-length.length + 1 ≡ length s). cut_stuck g.G.T.Tally.group M c.in-Some.symbol a _ _ r c.in-Some.ensures.word (omega arith) in
    run_stuck g.G.T.Tally.group M c.args.word.now s _ a _ _ (c.loop-length.invariant m) c.loop-length-test.true refl stuck

pub loop-length-preserved : goal.loop-length-preserved
loop-length-preserved g c = λ m.
    let M = g.G.Grammar.meaning c.args.g.now in
    let s = c.args.input.now in
    let A = c.in-Some.symbol in
    let a = get_or s c.loop-length.length 0 in
    let w : Word = word_of (M.rule A a) in
    let rest : Word = held c.pop.new.self in
    let put = fits most w rest _ c.push_rule.ensures (omega arith) in
    let few : length (held c.push_rule.new.self) + (c.loop-length.length + 1) ≤ length s = omega (arith, ap length put, length-append w rest) in
    run_more g.G.T.Tally.group M c.args.word.now s _ A a _ _ _ rest _ _ (c.loop-length.invariant m) c.loop-length-test.true refl c.in-Some.ensures.word (search rules) put c.rule_tally.ensures c.add-tally.ensures few

pub returns : goal.returns
returns g c = λ m.
    let run = c.loop-length.invariant m in
    run_ends g.G.T.Tally.group (g.G.Grammar.meaning c.args.g.now) c.args.word.now c.args.input.now _ _ _ _ run (omega (arith, run.few)) (omega (arith, run.few))
