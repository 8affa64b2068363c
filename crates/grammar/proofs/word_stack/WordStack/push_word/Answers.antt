use Rattle.std.proofs.Common.{◌≡◌, ℕ, ◌-◌, ◌<◌, [], ◌∷◌, ◌++◌, length, get_or, ap, ◌∙◌, subst, arith}
use Rattle.std.proofs.lemmas.List.{length-reverse, get_or-reverse, length_push}
use Rattle.std.proofs.lemmas.Iterator.Adapters.{YieldsList-from_rev_slice}
use Rattle.std.proofs.lemmas.Iterator.Consumers.{YieldsList-turn}
use Rattle.grammar.specs.WordStacks.{held}
use Rattle.grammar.proofs.Held.{Put, held_few, put_none, put_more}
use Rattle.grammar.proofs.word_stack.WordStack.push_word.Goals as goal

pub loop-symbol-init : goal.loop-symbol-init
loop-symbol-init g c = put_none g.row.N c.args.word.now (held c.args.self.now) _ (omega arith)

pub loop-symbol-preserved : goal.loop-symbol-preserved
loop-symbol-preserved g c =
    let N = g.row.N in
    let s = c.args.self.now in
    let w = c.args.word.now in
    let n : ℕ = length c.loop-symbol.yielded in
    let A : ℕ = c.in-Some.symbol.now in
    let t = YieldsList-turn (YieldsList-from_rev_slice w cc) c.loop-symbol.yielded _ c.loop-symbol.yielded_by _ _ c.in-Some.symbol c.in-Some.is c.next.ensures.steps in
    let more : n < length w = rw length-reverse at t.0 in
    let place : length w - 1 - n ≡ length w - n - 1 = omega arith in
    let read : A ≡ get_or w (length w - n - 1) A = t.1 ∙ get_or-reverse w n A more ∙ ap (λ k. get_or w k A) place in
    let less : length w - n - 1 ≡ length w - length (c.loop-symbol.yielded ++ (c.in-Some.symbol ∷ [])) = omega (arith, length_push c.loop-symbol.yielded c.in-Some.symbol) in
    subst (λ k. Put N w (held s) k (held c.push.new.self)) less
    (put_more N w (held s) _ _ (length w - n) A A (omega arith) (omega arith) (held_few N s.cells s.top s.room) c.loop-symbol.invariant read c.push.ensures)
