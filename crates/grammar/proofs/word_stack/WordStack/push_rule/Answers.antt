use Rattle.std.proofs.Common.{arith, rules}
use Rattle.grammar.specs.Meaning.{Word, word_of}
use Rattle.grammar.specs.WordStacks.{held}
use Rattle.grammar.proofs.Held.{held_few, put_none, put_more}
use Rattle.grammar.proofs.word_stack.WordStack.push_rule.Goals as goal

pub loop-at-init : goal.loop-at-init
loop-at-init g c =
    let w : Word = word_of ((g.G.Grammar.meaning c.args.g.now).rule c.args.symbol c.args.letter) in
    put_none g.row.N w (held c.args.self.now) c.rule_len-at.result (search rules)

pub loop-at-preserved : goal.loop-at-preserved
loop-at-preserved g c =
    let w : Word = word_of ((g.G.Grammar.meaning c.args.g.now).rule c.args.symbol c.args.letter) in
    let s = c.args.self.now in
    put_more g.row.N w (held s) _ _ c.loop-at.at _ 255 (search rules) (search rules) (held_few g.row.N s.cells s.top s.room) c.loop-at.invariant c.rule_symbol.ensures c.push.ensures

pub returns : goal.returns
returns g c = c.loop-at.invariant.full (omega arith)
