use Rattle.std.proofs.Common.{◌≡◌, ◌≤◌, length, take, ◌∷◌, [], Decides, MatchOption, sym, subst, ◌∙◌}
use Rattle.std.proofs.lemmas.Bool.{eqb-true}
use Rattle.grammar.specs.Meaning.{Weighted}
use Rattle.survey.specs.Surveyed.{surveyed}
use Rattle.witness.specs.Alike.{TrueOn, TrueOnFront, cut}
use Rattle.walk.proofs.TrueFronts.{Found, own_alone, other_alone, tested}
use Rattle.walk.proofs.blaming.untrue_front.Goals as goal
use Rattle.walk.proofs.blaming.untrue_front.Goals.{then-own-other, else-own-other}

pub returns-in-None-Some : goal.returns-in-None-Some
returns-in-None-Some g c = λ room.
    let 𝓣 = g.T.Tally.group in
    let M = surveyed c.args.survey.now in
    let A = c.args.symbol in
    let m : Weighted g.row.T.Denot = record { word = c.args.row.now; tally = c.args.offset } in
    let own = subst (Found 𝓣 M c.args.input.now (A ∷ [])) c.in-None-Some.is-0 (c.front_of-own.ensures room) in
    let other = subst (Found 𝓣 M c.args.input.now m.word) c.in-None-Some.is-1 (c.front_of-other.ensures room) in
    (other.within, other_alone 𝓣 M c.args.input.now A m c.in-None-Some.other.length c.in-None-Some.other.tally other own)

pub returns-in-Some-None : goal.returns-in-Some-None
returns-in-Some-None g c = λ room.
    let 𝓣 = g.T.Tally.group in
    let M = surveyed c.args.survey.now in
    let A = c.args.symbol in
    let m : Weighted g.row.T.Denot = record { word = c.args.row.now; tally = c.args.offset } in
    let own = subst (Found 𝓣 M c.args.input.now (A ∷ [])) c.in-Some-None.is-0 (c.front_of-own.ensures room) in
    let other = subst (Found 𝓣 M c.args.input.now m.word) c.in-Some-None.is-1 (c.front_of-other.ensures room) in
    (own.within, own_alone 𝓣 M c.args.input.now A m c.in-Some-None.own.length c.in-Some-None.own.tally own other)

pub returns-after-own-other : goal.returns-after-own-other
returns-after-own-other g c = λ room.
    let 𝓣 = g.T.Tally.group in
    let M = surveyed c.args.survey.now in
    let s = c.args.input.now in
    let A = c.args.symbol in
    let m : Weighted g.row.T.Denot = record { word = c.args.row.now; tally = c.args.offset } in
    let f = c.in-Some-Some.own in
    let h = c.in-Some-Some.other in
    let own = subst (Found 𝓣 M s (A ∷ [])) c.in-Some-Some.is-0 (c.front_of-own.ensures room) in
    let other = subst (Found 𝓣 M s m.word) c.in-Some-Some.is-1 (c.front_of-other.ensures room) in
    let even : Decides c.if-own-other.even ((f.length ≡ h.length) × (f.tally ≡ 𝓣.add m.tally h.tally)) = elim c.if-own-other.branch [
      | then-own-other w ↦
          let tallies = g.met.T.Tally.equal f.tally w.add.result w.eq-even.result w.eq-even.ensures in
          (λ e. (w.if-own-other.true, tallies.0 (sym w.even-is ∙ e) ∙ w.add.ensures), λ e. w.even-is ∙ tallies.1 (e.1 ∙ sym w.add.ensures))
      | else-own-other w ↦ (λ e. absurd (w.if-own-other.false (eqb-true f.length h.length (sym w.even-is ∙ e))), λ e. absurd (w.if-own-other.false e.0))
    ] in
    subst (λ o. MatchOption o (TrueOnFront 𝓣 M A m (cut M (A ∷ []) s) × TrueOnFront 𝓣 M A m (cut M m.word s)) (λ n. (n ≤ length s) × (¬ TrueOn 𝓣 M A m (take n s)))) (sym c.then_some.ensures)
    (tested 𝓣 M s A m f.length h.length f.tally h.tally own other c.if-own-other.even even)
