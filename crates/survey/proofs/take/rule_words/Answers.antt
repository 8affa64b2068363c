use Rattle.std.proofs.Common.{◌≡◌, ℕ, ◌≤◌, List, Option, subst, arith}
use Rattle.std.proofs.lemmas.Result.{err_from_is_err_and}
use Rattle.grammar.specs.Meaning.{Meaning, WellFormed}
use Rattle.norm.specs.declared.short_word.ShortWord.{ShortWord}
use Rattle.survey.specs.Refusals.{Sized, Fine, BadRule}
use Rattle.survey.specs.Laws.{TakenUp}
use Rattle.survey.proofs.Filling.{Filled, placed_more, placed_next, filled_bad, taken_up, known_places}
use Rattle.survey.proofs.take.rule_words.Goals as goal

-- a count that is neither none nor too great
sized : {T : Type 0} (M : Meaning T) (k : ℕ) → k ≡ M.count → ¬ (k ≡ 0) → k ≤ 32 → Sized 32 M
sized M k e some few = record { some = omega arith; few = omega arith }

pub returns-in_err-word : goal.returns-in_err-word
returns-in_err-word g c =
    let M = g.G.Grammar.meaning c.args.g.now in
    let n = c.count-count in
    let A = c.loop-symbol.symbol in
    let a = c.loop-letter.letter in
    let p = err_from_is_err_and c.from_residual.result c.from_residual.ensures.1 in
    let f = c.in_err-word.field-0.0 in
    let bad : BadRule M.count M A a f = subst (λ x. BadRule x M A a f) n.ensures c.in_err-word.ensures in
    rw (p.1, p.2)
    (filled_bad M (g.G.Grammar.wellformed c.args.g.now) 32 64 g.G.T.Tally.group (sized M n.result n.ensures c.if-count-eq0.false c.if-count-gt-MAX_SYMBOLS.false) c.loop-letter.words A a c.loop-letter.invariant f bad)

pub loop-letter-preserved : goal.loop-letter-preserved
loop-letter-preserved g c =
    let M = g.G.Grammar.meaning c.args.g.now in
    let A = c.loop-symbol.symbol in
    let a = c.loop-letter.letter in
    let o = c.in_ok-word.ensures in
    let more = placed_more _ c.loop-letter.words A a c.in_ok-word.word c.loop-letter.invariant (omega arith) (omega arith, omega arith) (o.0, subst (λ x. Fine x M A a) c.count-count.ensures o.1) in
    rw c.index_of.ensures more

pub loop-symbol-preserved : goal.loop-symbol-preserved
loop-symbol-preserved g c = placed_next _ c.loop-letter.words c.loop-symbol.symbol c.loop-letter.letter (omega arith) c.loop-letter.invariant

-- the table is filled
whole : {T : Type 0} (M : Meaning T) (k e : ℕ) (ws : List (Option (ShortWord 4))) → WellFormed M → k ≡ M.count → ¬ (k ≡ 0) → k ≤ 32 → k ≤ e → e ≤ k → Filled M ws e 65 → TakenUp 32 M k ws
whole M k e ws F c some few long short f = taken_up M F 32 k c (sized M k c some few) ws (subst (λ x. Filled M ws x 65) (let d : e ≡ k = omega arith in d) f)

pub invariant_of-result : goal.invariant_of-result
invariant_of-result g c =
    let M = g.G.Grammar.meaning c.args.g.now in
    let n = c.count-count in
    let l = c.loop-symbol in
    let t = whole M n.result l.symbol l.words (g.G.Grammar.wellformed c.args.g.now) n.ensures c.if-count-eq0.false c.if-count-gt-MAX_SYMBOLS.false c.loop-symbol-test.false l.auto.symbol-end l.invariant in
    record { few = omega arith; room = l.invariant.size; known = known_places 32 M n.result l.words t }

pub returns : goal.returns
returns g c =
    let M = g.G.Grammar.meaning c.args.g.now in
    let n = c.count-count in
    let l = c.loop-symbol in
    whole M n.result l.symbol l.words (g.G.Grammar.wellformed c.args.g.now) n.ensures c.if-count-eq0.false c.if-count-gt-MAX_SYMBOLS.false c.loop-symbol-test.false l.auto.symbol-end l.invariant
