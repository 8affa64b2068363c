use Rattle.std.proofs.Common.{rules}
use Rattle.walk.specs.Inputs.{letters}
use Rattle.comparison.proofs.Goings.{ended_since, ended_same, ended_found, ended_view, ended_right}
use Rattle.comparison.proofs.deciding.decide.Goals as goal

pub returns-clause-right : goal.returns-clause-right
returns-clause-right g c = λ some ranked self given_x given_y.
    let 𝓣 = g.T.Tally.group in
    let s = c.args.survey.now in
    let x = c.args.one.now in
    let y = c.args.two.now in
    let S = c.args.sheet.now in
    let U = c.turns.new.guard.sheet.now in
    let t = letters c.turns.new.found in
    let ended = ended_since 𝓣 s x y S U t c.turns.result c.new-guard.ensures.sheet c.turns.ensures.ended ranked given_x given_y in
    ended_right 𝓣 s x y S U t c.turns.result some self ended

pub returns-clause-same : goal.returns-clause-same
returns-clause-same g c = λ ranked given_x given_y e.
    let 𝓣 = g.T.Tally.group in
    let s = c.args.survey.now in
    let x = c.args.one.now in
    let y = c.args.two.now in
    let S = c.args.sheet.now in
    let U = c.turns.new.guard.sheet.now in
    let t = letters c.turns.new.found in
    let ended = ended_since 𝓣 s x y S U t c.turns.result c.new-guard.ensures.sheet c.turns.ensures.ended ranked given_x given_y in
    ended_same 𝓣 s x y S U t _ _ c.turns.result (search rules) c.turns.new.guard.kept c.turns.new.guard.saved (search rules) (search rules) (search rules) ended e

pub returns-clause-view : goal.returns-clause-view
returns-clause-view g c = λ ranked given_x given_y e.
    let 𝓣 = g.T.Tally.group in
    let s = c.args.survey.now in
    let x = c.args.one.now in
    let y = c.args.two.now in
    let S = c.args.sheet.now in
    let U = c.turns.new.guard.sheet.now in
    let t = letters c.turns.new.found in
    let ended = ended_since 𝓣 s x y S U t c.turns.result c.new-guard.ensures.sheet c.turns.ensures.ended ranked given_x given_y in
    ended_view 𝓣 s x y S U t _ _ c.turns.result (search rules) c.turns.new.guard.kept c.turns.new.guard.saved (search rules) (search rules) (search rules) ended e

pub returns-clause-found : goal.returns-clause-found
returns-clause-found g c = λ ranked given_x given_y e.
    let 𝓣 = g.T.Tally.group in
    let s = c.args.survey.now in
    let x = c.args.one.now in
    let y = c.args.two.now in
    let S = c.args.sheet.now in
    let U = c.turns.new.guard.sheet.now in
    let t = letters c.turns.new.found in
    let ended = ended_since 𝓣 s x y S U t c.turns.result c.new-guard.ensures.sheet c.turns.ensures.ended ranked given_x given_y in
    ended_found 𝓣 s x y S U t c.turns.result ended e
