use Rattle.std.proofs.Common.{◌-◌, length, get_or, Some, None, refl, arith, rules}
use Rattle.grammar.proofs.Takes.{too_long, word_laws}
use Rattle.grammar.proofs.Leftmost.{takes_derives}
use Rattle.grammar.proofs.Runs.{ran_more, ran_stuck, ran_all, derived_long, derived_short}
use Rattle.grammar.proofs.derivation.derive.Goals as goal

pub returns-then-input-gt-MAX_INPUT : goal.returns-then-input-gt-MAX_INPUT
returns-then-input-gt-MAX_INPUT g c =
    let 𝓣 = g.G.T.Tally.group in
    let M = g.G.Grammar.meaning c.args.g.now in
    record { value = derived_long 𝓣 M c.args.word.now c.args.input.now c.if-input-gt-MAX_INPUT.true; derivation = takes_derives 𝓣; words = word_laws 𝓣 }

pub returns-then-word-input : goal.returns-then-word-input
returns-then-word-input g c =
    let 𝓣 = g.G.T.Tally.group in
    let M = g.G.Grammar.meaning c.args.g.now in
    let w = c.args.word.now in
    let s = c.args.input.now in
    record { value = derived_short 𝓣 M w s None (search rules) (too_long 𝓣 M s w c.if-word-input.true); derivation = takes_derives 𝓣; words = word_laws 𝓣 }

pub returns-in_default : goal.returns-in_default
returns-in_default g c =
    let 𝓣 = g.G.T.Tally.group in
    let M = g.G.Grammar.meaning c.args.g.now in
    let w = c.args.word.now in
    let s = c.args.input.now in
    let i = c.loop-i.i in
    let none = ran_stuck 𝓣 M w s i (get_or s i 0) (length s - i - 1) _ _ c.loop-i.invariant c.loop-i-test.true refl (omega arith) (c.in_default.ensures (omega arith)) in
    record { value = derived_short 𝓣 M w s None (search rules) none; derivation = takes_derives 𝓣; words = word_laws 𝓣 }

pub loop-i-preserved : goal.loop-i-preserved
loop-i-preserved g c =
    let 𝓣 = g.G.T.Tally.group in
    let M = g.G.Grammar.meaning c.args.g.now in
    let s = c.args.input.now in
    let i = c.loop-i.i in
    ran_more 𝓣 M c.args.word.now s i (get_or s i 0) (length s - i - 1) _ _ _ _ _ c.loop-i.invariant c.loop-i-test.true refl (omega arith) (c.in-Some.ensures (omega arith)) c.add-sum.ensures

pub returns : goal.returns
returns g c =
    let 𝓣 = g.G.T.Tally.group in
    let M = g.G.Grammar.meaning c.args.g.now in
    let w = c.args.word.now in
    let s = c.args.input.now in
    record { value = derived_short 𝓣 M w s (Some c.loop-i.sum) (search rules) (ran_all 𝓣 M w s c.loop-i.i _ _ c.loop-i.invariant (search rules)); derivation = takes_derives 𝓣; words = word_laws 𝓣 }
