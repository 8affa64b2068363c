use Rattle.std.proofs.Common.{◌≤◌, length, sym, refl, subst, arith}
use borrow.Author.Tests.{false-ltb}
use Rattle.grammar.specs.WordStacks.{held}
use Rattle.sheet.specs.Rowed.{shown}
use Rattle.walk.specs.Inputs.{most}
use Rattle.walk.proofs.Walking.{Able, Answer, start, ended, over, stuck, kept, blamed, put}
use Rattle.walk.proofs.Lookups.{read_short, read_is}
use Rattle.walk.proofs.blaming.blamed.Goals as goal

pub loop-init : goal.loop-init
loop-init g c = (
  omega arith,
  λ able. start g.T.Tally.group c.args.survey.now (shown c.args.rows) c.args.work.now c.args.word.now c.args.input.now able (held c.new-left.result) (held c.push_word.new.self) c.new-left.ensures c.push_word.ensures,
)

pub returns-in_err-symbol : goal.returns-in_err-symbol
returns-in_err-symbol g c = λ ready known small short.
    let 𝓣 = g.T.Tally.group in
    let s = c.args.survey.now in
    let V = shown c.args.rows in
    let w = c.args.work.now in
    let x = c.args.word.now in
    let t = c.args.input.now in
    let able : Able 𝓣 s V w x t = record { ready = ready; known = known; small = small; short = short } in
    subst (Answer 𝓣 s V x t) (sym c.from_residual.ensures) (ended 𝓣 s V w x t able (held c.loop.left) c.loop.rest.now c.loop.counter (c.loop.invariant.1 able) (false-ltb _ _ c.in_err-symbol.ensures.test))

pub returns-in_err-front : goal.returns-in_err-front
returns-in_err-front g c = λ ready known small short.
    let 𝓣 = g.T.Tally.group in
    let s = c.args.survey.now in
    let V = shown c.args.rows in
    let w = c.args.work.now in
    let x = c.args.word.now in
    let t = c.args.input.now in
    let able : Able 𝓣 s V w x t = record { ready = ready; known = known; small = small; short = short } in
    let room : length c.loop.rest.now ≤ most = let l = c.loop.invariant.0 in omega arith in
    subst (Answer 𝓣 s V x t) (sym c.from_residual-in_err-front.ensures)
    (stuck 𝓣 s V w x t able c.in_ok-symbol.symbol (held c.pop.new.self) (held c.loop.left) c.loop.rest.now c.loop.counter c.in_ok-symbol.ensures.word (c.loop.invariant.1 able)
    c.in_default.ensures (c.in_err-front.ensures room))

pub loop-preserved-in_default : goal.loop-preserved-in_default
loop-preserved-in_default g c = (
  let short = read_short c.loop.rest.now c.in_ok-front.front.length c.get.result _ c.get.ensures.lookup refl c.unwrap_or-rest.result c.unwrap_or-rest.ensures in
      let l = c.loop.invariant.0 in
      omega arith,
  λ able.
      let room : length c.loop.rest.now ≤ most = let l = c.loop.invariant.0 in let m = able.short in omega arith in
      let front = c.in_ok-front.ensures room in
      kept g.T.Tally.group c.args.survey.now (shown c.args.rows) c.args.work.now c.args.word.now c.args.input.now able
      c.in_ok-symbol.symbol (held c.pop.new.self) (held c.loop.left) c.loop.rest.now c.loop.counter c.in_ok-symbol.ensures.word (c.loop.invariant.1 able)
      c.in_default.ensures c.in_ok-front.front.length c.in_ok-front.front.tally c.unwrap_or-rest.result.now front
      (read_is c.loop.rest.now c.in_ok-front.front.length c.get.result _ c.get.ensures.lookup refl front.within c.unwrap_or-rest.result c.unwrap_or-rest.ensures),
)

pub returns-in-Some-untrue_front : goal.returns-in-Some-untrue_front
returns-in-Some-untrue_front g c = λ ready known small short.
    let able : Able g.T.Tally.group c.args.survey.now (shown c.args.rows) c.args.work.now c.args.word.now c.args.input.now = record { ready = ready; known = known; small = small; short = short } in
    let room : length c.loop.rest.now ≤ most = let l = c.loop.invariant.0 in omega arith in
    blamed g.T.Tally.group c.args.survey.now (shown c.args.rows) c.args.work.now c.args.word.now c.args.input.now able
    c.in_ok-symbol.symbol (held c.pop.new.self) (held c.loop.left) c.loop.rest.now c.loop.counter c.in_ok-symbol.ensures.word (c.loop.invariant.1 able)
    c.as_slice-row.result.now _ c.offset.result c.as_slice-row.ensures c.in-Some.ensures c.offset.ensures
    c.in-Some-untrue_front.length (c.in-Some-untrue_front.ensures room).1

pub loop-preserved : goal.loop-preserved
loop-preserved g c = (
  c.loop.invariant.0,
  λ able.
      let room : length c.loop.rest.now ≤ most = let l = c.loop.invariant.0 in let m = able.short in omega arith in
      let true_row = c.in_default-untrue_front.ensures room in
      put g.T.Tally.group c.args.survey.now (shown c.args.rows) c.args.work.now c.args.word.now c.args.input.now able
      c.in_ok-symbol.symbol (held c.pop.new.self) (held c.loop.left) c.loop.rest.now c.loop.counter c.in_ok-symbol.ensures.word (c.loop.invariant.1 able)
      c.as_slice-row.result.now _ c.offset.result c.as_slice-row.ensures c.in-Some.ensures c.offset.ensures
      (held c.push_word-in-loop.new.self) true_row.0 true_row.1 c.push_word-in-loop.ensures,
)

pub returns : goal.returns
returns g c = λ ready known small short.
    let 𝓣 = g.T.Tally.group in
    let s = c.args.survey.now in
    let V = shown c.args.rows in
    let w = c.args.work.now in
    let x = c.args.word.now in
    let t = c.args.input.now in
    let able : Able 𝓣 s V w x t = record { ready = ready; known = known; small = small; short = short } in
    over 𝓣 s V w x t able (held c.loop.left) c.loop.rest.now c.loop.counter (c.loop.invariant.1 able) (omega arith)
