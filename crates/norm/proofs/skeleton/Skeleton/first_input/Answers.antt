use Rattle.std.proofs.Common.{◌≡◌, ◌-◌, ◌≤◌, min, leb, ◌++◌, length, drop, sym, ap, ◌∙◌, arith}
use borrow.Rule.Slice.PartMut.{mid_of, post_of, Post-is, mid_len}
use Rattle.std.proofs.lemmas.Bool.{cond-true, le-leb}
use Rattle.norm.specs.Norms.{norms, firsts}
use Rattle.norm.specs.Certified.{spelled}
use Rattle.norm.specs.Skeletons.{rule_words, norm_at, letter_at, first_at}
use Rattle.norm.proofs.Spelling.{firsts_spelled}
use Rattle.norm.proofs.skeleton.Skeleton.first_input.Goals as goal

pub returns-clause-out : goal.returns-clause-out
returns-clause-out c = λ b.
    let k = c.args.self.now in
    let w = c.args.word.now in
    let out = c.args.out.now in
    let n = c.norm_of-norm.result in
    let sum = c.norm_of-norm.ensures in
    let small = c.if-norm-gt-WORD_CAPACITY.false in
    let room = c.if-norm-out.false in
    let is : n ≡ norms (norm_at k) w = omega arith in
    let fits : norms (norm_at k) w ≤ min 512 (length out) = omega arith in
    let part : length (mid_of 0 (n - 0) out) ≡ n = mid_len 0 n out room ∙ (let z : n - 0 ≡ n = omega arith in z) in
    let filled = c.spell.ensures b (sym is ∙ sym part) (omega arith) in
    let front : c.spell.new.out ≡ firsts (first_at k) w =
    filled ∙ ap (λ j. spelled (rule_words k) (letter_at k) j w) (part ∙ is) ∙ sym (firsts_spelled k w b) in
    ap (λ x. x ++ post_of 0 (n - 0) out) front ∙ ap (λ x. firsts (first_at k) w ++ x) (Post-is 0 n out (omega arith) ∙ ap (λ j. drop j out) is)
    ∙ sym (cond-true (leb (norms (norm_at k) w) (min 512 (length out))) _ _ (le-leb (norms (norm_at k) w) (min 512 (length out)) fits))
