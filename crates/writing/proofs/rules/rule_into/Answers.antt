use Rattle.std.proofs.Common.{◌≡◌, length, Option, Some, sym, ap, ◌∙◌, subst, ap₂, arith, length-take-le}
use Rattle.grammar.specs.Meaning.{Weighted, tally_of}
use Rattle.layout.specs.Contents.{joined, rule_bytes}
use Rattle.format.specs.Lent.{Wrote}
use Rattle.norm.specs.Tabled.{held}
use Rattle.norm.specs.Ruled.{rules_of}
use Rattle.survey.specs.Surveyed.{surveyed}
use Rattle.survey.proofs.Weighing.{rule_some}
use Rattle.writing.proofs.WrittenRules.{rule_for, rule_written}
use Rattle.writing.proofs.rules.rule_into.Goals as goal

pub returns : goal.returns
returns g c = λ few.
    let f = g.T.FileTally.numbers in
    let s = c.args.survey.now in
    let A = c.args.symbol in
    let a = c.args.letter in
    let x = c.in-Some.word in
    let t = c.rule_tally-tally.result in
    let w = c.as_slice.result.now in
    let rule = (surveyed s).rule A a in
    let found = rule_some s A a (held x) (sym (ap (λ k. rules_of k.words A a) c.skeleton.ensures) ∙ sym c.in-Some.ensures) in
    let tally : t ≡ found.0 = c.rule_tally-tally.ensures ∙ ap (tally_of g.T.Tally.group.zero) found.2 in
    let is : rule ≡ Some (record { word = w; tally = t }) = found.2 ∙ ap₂ (λ v u. Some (record { word = v; tally = u })) (sym c.as_slice.ensures) (sym tally) in
    let size : x.len ≡ length w = sym (ap length c.as_slice.ensures ∙ length-take-le x.len x.symbols (let h = x.within in let r = x.room in omega arith)) in
    subst (λ (o : Option (Weighted g.row.T.Denot)). Wrote c.args.out.now c.args.start (joined rule_bytes (rule_for f A a o)) c.put.result c.put.new.out) (sym is)
    (rule_written f A a x.len t w size (omega arith) c.put-head.ensures (c.numbers_into-numbers.ensures few) c.put-length.ensures c.put.ensures)
