use Rattle.std.proofs.Common.{◌≡◌, ◌+◌, ◌≤◌, cond, ltb, length, Ok, Err, ap, ◌∙◌}
use Rattle.tally.specs.Group.{Group}
use Rattle.tally.specs.Makes.{foot_group}
use Rattle.grammar.specs.Meaning.{Word, Input, Meaning, WellFormed}
use Rattle.grammar.specs.Laws.{derived, max_input}
use Rattle.grammar.specs.Twinned.{twinned, raised}
use Rattle.grammar.proofs.Twins.{second_takes}
use Rattle.worked.specs.Reading.{in_millimetres}
use Rattle.worked.proofs.runs.outcome_in_second.Goals as goal

-- a run of a raised word over a twin is a run of the word over its second grammar
derived_second : {T : Type 0} (𝓣 : Group T) (M N : Meaning T) → WellFormed N → M.count + N.count ≤ 255 → (w v : Word) (s : Input) → v ≡ raised M.count w →
    derived 𝓣 (twinned M N) v s ≡ derived 𝓣 N w s
derived_second 𝓣 M N f few w v s e =
    ap (λ x. derived 𝓣 (twinned M N) x s) e ∙ ap (λ o. cond (ltb max_input (length s)) (Err (record { letters = length s })) (Ok o)) (second_takes 𝓣 M N f few s w)

pub returns : goal.returns
returns g c = λ few.
    let M = g.G.Grammar.meaning c.args.twin.now.first in
    let N = g.H.Grammar.meaning c.args.twin.now.second in
    let raised_word = c.deref.ensures.value ∙ c.in_ok-raised.ensures ∙ ap (λ n. raised n c.args.word.now) c.count.ensures in
    c.outcome_of.ensures ∙ ap in_millimetres (derived_second foot_group M N (g.H.Grammar.wellformed c.args.twin.now.second) few c.args.word.now _ c.args.input.now raised_word)
