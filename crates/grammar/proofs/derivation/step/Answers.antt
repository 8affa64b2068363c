use Rattle.std.proofs.Common.{◌≤◌, length, ap, arith, length-append, rules}
use Rattle.grammar.specs.Meaning.{Word, word_of}
use Rattle.grammar.specs.WordStacks.{held}
use Rattle.grammar.specs.Laws.{max_input}
use Rattle.grammar.proofs.Held.{fits}
use Rattle.grammar.proofs.Runs.{stuck_long, stepped}
use Rattle.grammar.proofs.derivation.step.Goals as goal

pub returns-then-rule_len-len : goal.returns-then-rule_len-len
returns-then-rule_len-len g c = λ room s e.
    let M = g.G.Grammar.meaning c.args.g.now in
    stuck_long g.G.T.Tally.group M c.in_ok-symbol.symbol c.args.letter (held c.pop.new.self) _ s c.in_ok-symbol.ensures.word (omega arith)

pub returns : goal.returns
returns g c = λ room.
    let M = g.G.Grammar.meaning c.args.g.now in
    let A = c.in_ok-symbol.symbol in
    let w : Word = word_of (M.rule A c.args.letter) in
    let rest : Word = held c.pop.new.self in
    let put = fits max_input w rest _ c.push_rule.ensures (omega arith) in
    let few : length (held c.push_rule.new.self) ≤ c.args.left = omega (arith, ap length put, length-append w rest) in
    (stepped g.G.T.Tally.group M A c.args.letter rest _ _ _ c.in_ok-symbol.ensures.word (search rules) put c.rule_tally.ensures, few)
