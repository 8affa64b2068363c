use Rattle.std.proofs.Common.{◌≡◌, ℕ, ◌+◌, ◌<◌, ◌≤◌, List, ◌∷◌, ◌++◌, length, set, Some, Option, sym, ap, ◌∙◌, subst, append-nil, arith}
use Rattle.grammar.specs.Meaning.{Word}
use Rattle.grammar.specs.WordStacks.{held}
use Rattle.norm.specs.Words.{body}
use Rattle.norm.specs.Skeletons.{rule_words, letter_at}
use Rattle.norm.specs.declared.skeleton.Skeleton.{Skeleton}
use Rattle.grammar.proofs.Held.{fits}
use Rattle.norm.proofs.Spelling.{long_enough, Spelt, spelt_none, spelt_room, spelt_more, spelt_all}
use Rattle.norm.proofs.skeleton.Skeleton.spell.Goals as goal

-- one letter on, as the loop has it
on : (k : Skeleton) (w : Word) (n i A a : ℕ) (x r v y : Word) (out : List ℕ) → Spelt k w n i x out → i < n → n ≤ 512 → x ≡ A ∷ r → a ≡ letter_at k A → Some v ≡ rule_words k A a →
    (length v + length r ≤ 512 → y ≡ v ++ r) → Spelt k w n (i + 1) y (set out i a)
on k w n i A a x r v y out s h few popped read found pushed =
    let t : Spelt k w n i (A ∷ r) out = subst (λ z. Spelt k w n i z out) popped s in
    let is : v ≡ body (rule_words k A (letter_at k A)) = ap body (found ∙ ap (rule_words k A) read) in
    let room = spelt_room k w n i A r out t in
    let long = ap length is in
    let next = spelt_more k w n i A r out t h in
    subst (λ z. Spelt k w n (i + 1) z (set out i a)) (sym (pushed (omega arith) ∙ ap (λ u. u ++ r) is))
    (subst (λ b. Spelt k w n (i + 1) (body (rule_words k A (letter_at k A)) ++ r) (set out i b)) (sym read) next)

pub loop-cell-init : goal.loop-cell-init
loop-cell-init c = λ b e l.
    let k = c.args.self.now in
    let w = c.args.word.now in
    let out = c.args.out.now in
    let fresh = c.new-left.ensures in
    let none = ap length fresh in
    let few = long_enough k w b in
    let put : held c.push_word.new.self ≡ w = fits 512 w (held c.new-left.result) _ c.push_word.ensures (omega arith) ∙ ap (λ x. w ++ x) fresh ∙ append-nil w in
    subst (λ x. Spelt k w (length out) 0 x out) (sym put) (spelt_none k w (length out) out b e (let z : length out ≡ length out = omega arith in z))

pub loop-cell-preserved : goal.loop-cell-preserved
loop-cell-preserved c = λ b e l.
    let i = c.loop-cell in
    let found = c.in-Some-word.ensures in
    on c.args.self.now c.args.word.now (length c.args.out.now) i.cell-index c.in-Some.symbol c.letter-letter.result (held i.left) (held c.pop.new.self) c.as_slice.result.now
    (held c.push_word-in-loop-cell.new.self) i.out (i.invariant b e l) (omega arith) l c.in-Some.ensures.word c.letter-letter.ensures (ap {B = Option Word} Some c.as_slice.ensures ∙ found) (λ room. fits 512 c.as_slice.result.now (held c.pop.new.self) _ c.push_word-in-loop-cell.ensures room)

pub returns : goal.returns
returns c = λ b e l.
    let i = c.loop-cell in
    spelt_all c.args.self.now c.args.word.now (length c.args.out.now) i.cell-index (held i.left) i.out (i.invariant b e l) (omega arith)
