use Rattle.std.proofs.Common.{◌≡◌, ◌+◌, ◌≤◌, ◌∙◌, ap, length, Ok, arith}
use Rattle.std.proofs.lemmas.Result.{err_from_is_err_and}
use Rattle.file_grammar.specs.Filed.{held}
use Rattle.file_grammar.specs.Tabled.{tabled}
use Rattle.layout.proofs.Steps.{ok_same}
use Rattle.asking.specs.declared.outcome.Answered.{Answered}
use Rattle.asking.proofs.OverTwins.{file_closed, refuses, answers, tells_of, same_twin, same_law}
use Rattle.asking.proofs.both.ask_files.Goals as goal

pub returns-in_err-outcome-clause-answers : goal.returns-in_err-outcome-clause-answers
returns-in_err-outcome-clause-answers g c = λ d e legal_d legal_e shows_d shows_e.
    let made = g.T.FileTally.made in
    let M = held made (Ok d) in
    let N = held made (Ok e) in
    let m : tabled made c.new-twin.result.first.table ≡ M = ap (λ f. tabled made f.table) c.new-twin.ensures.first ∙ c.of_file.ensures d legal_d shows_d in
    let n : tabled made c.new-twin.result.second.table ≡ N = ap (λ f. tabled made f.table) c.new-twin.ensures.second ∙ c.of_file-2.ensures e legal_e shows_e in
    let value = same_twin g.T.Tally.group M N _ _ m n c.new-comparer.result c.new-comparer.ensures.value in
    let few : length d.names + length e.names ≤ 255 = omega (arith, legal_d.few, legal_e.few) in
    let p = err_from_is_err_and c.from_residual.result c.from_residual.ensures.1 in
    rw (p.1, p.2) (refuses g.T.Tally.group M N few c.args.one.now c.args.two.now (length c.args.out.now) c.new-comparer.result value c.ask.result c.ask.ensures.without c.ask.ensures.fault c.in_err-outcome.field-0.0 c.in_err-outcome.was)

pub returns-clause-answers : goal.returns-clause-answers
returns-clause-answers g c = λ d e legal_d legal_e shows_d shows_e.
    let made = g.T.FileTally.made in
    let M = held made (Ok d) in
    let N = held made (Ok e) in
    let m : tabled made c.new-twin.result.first.table ≡ M = ap (λ f. tabled made f.table) c.new-twin.ensures.first ∙ c.of_file.ensures d legal_d shows_d in
    let n : tabled made c.new-twin.result.second.table ≡ N = ap (λ f. tabled made f.table) c.new-twin.ensures.second ∙ c.of_file-2.ensures e legal_e shows_e in
    let value = same_twin g.T.Tally.group M N _ _ m n c.new-comparer.result c.new-comparer.ensures.value in
    let few : length d.names + length e.names ≤ 255 = omega (arith, legal_d.few, legal_e.few) in
    answers g.T.Tally.group M N few c.args.one.now c.args.two.now (length c.args.out.now) c.new-comparer.result value c.ask.result c.ask.ensures.without c.ask.ensures.fault
    c.ask.new.out c.ask.new.comparer c.ask.ensures.lawful c.new-comparer.ensures.begins c.ask.ensures.verdict c.in_ok-outcome.outcome c.in_ok-outcome.was

pub returns-in_err-outcome-clause-refused : goal.returns-in_err-outcome-clause-refused
returns-in_err-outcome-clause-refused g c = λ f e. (c.ask.ensures.refused c.in_err-outcome.field-0.0 c.in_err-outcome.was).1

pub returns-clause-own : goal.returns-clause-own
returns-clause-own g c = λ d e legal_d legal_e shows_d shows_e w below is.
    let made = g.T.FileTally.made in
    let law = same_law g.T.Tally.group (held made (Ok d)) (held made (Ok e)) _ _ (c.of_file.ensures d legal_d shows_d) (c.of_file-2.ensures e legal_e shows_e) c.new-twin.ensures.law in
    let few : length d.names + length e.names ≤ 255 = omega (arith, legal_d.few, legal_e.few) in
    tells_of g.T.Tally.group (held made (Ok d)) (held made (Ok e)) few c.args.one.now c.args.two.now law (file_closed made d legal_d) below w is _ c.ask.new.out c.in_ok-outcome.outcome
    (returns-clause-answers g c d e legal_d legal_e shows_d shows_e).told

pub returns-clause-untouched : goal.returns-clause-untouched
returns-clause-untouched g c = λ a e same. c.ask.ensures.untouched (c.in_ok-outcome.was ∙ ap Ok (ap (λ (b : Answered _). b.outcome) (ok_same e) ∙ same))

pub returns-clause-shown : goal.returns-clause-shown
returns-clause-shown g c = λ a e n p q different. c.ask.ensures.shown n p q (c.in_ok-outcome.was ∙ ap Ok (ap (λ (b : Answered _). b.outcome) (ok_same e) ∙ different))
