use Rattle.std.proofs.Common.{sym, refl, ◌∙◌, arith}
use borrow.Author.Tests.{clash}
use Rattle.norm.specs.Skeletons.{norm_at}
use Rattle.comparison.proofs.Forks.{Halves, one_fits, two_fits, not_both, order_found, order_there, later_one_parts, later_two_parts}
use Rattle.comparison.proofs.fork.parting_of.Goals as goal

pub returns-in_err-common-clause-later_one : goal.returns-in_err-common-clause-later_one
returns-in_err-common-clause-later_one c = λ A B f o. let l = one_fits f (c.common_length-at.ensures A B f) in absurd (clash (c.in_err-common.ensures.lookup.1 (omega arith, omega arith)))

pub returns-in_err-common-clause-later_two : goal.returns-in_err-common-clause-later_two
returns-in_err-common-clause-later_two c = λ A B f o. let l = one_fits f (c.common_length-at.ensures A B f) in absurd (clash (c.in_err-common.ensures.lookup.1 (omega arith, omega arith)))

pub returns-in_err-a-clause-later_one : goal.returns-in_err-a-clause-later_one
returns-in_err-a-clause-later_one c = λ A B f o. let l = one_fits f (c.common_length-at.ensures A B f) in absurd (clash (c.in_err-a.ensures.variant.1 (let e = c.in_ok-get.ensures.lookup.0.3 in omega arith)))

pub returns-in_err-a-clause-later_two : goal.returns-in_err-a-clause-later_two
returns-in_err-a-clause-later_two c = λ A B f o. let l = one_fits f (c.common_length-at.ensures A B f) in absurd (clash (c.in_err-a.ensures.variant.1 (let e = c.in_ok-get.ensures.lookup.0.3 in omega arith)))

pub returns-in_err-get-2-clause-later_one : goal.returns-in_err-get-2-clause-later_one
returns-in_err-get-2-clause-later_one c = λ A B f o. let l = two_fits f (c.common_length-at.ensures A B f) in absurd (clash (c.in_err-get-2.ensures.lookup.1 (omega arith, omega arith)))

pub returns-in_err-get-2-clause-later_two : goal.returns-in_err-get-2-clause-later_two
returns-in_err-get-2-clause-later_two c = λ A B f o. let l = two_fits f (c.common_length-at.ensures A B f) in absurd (clash (c.in_err-get-2.ensures.lookup.1 (omega arith, omega arith)))

pub returns-in_err-b-clause-later_one : goal.returns-in_err-b-clause-later_one
returns-in_err-b-clause-later_one c = λ A B f o. let l = two_fits f (c.common_length-at.ensures A B f) in absurd (clash (c.in_err-b.ensures.variant.1 (let e = c.in_ok-get-2.ensures.lookup.0.3 in omega arith)))

pub returns-in_err-b-clause-later_two : goal.returns-in_err-b-clause-later_two
returns-in_err-b-clause-later_two c = λ A B f o. let l = two_fits f (c.common_length-at.ensures A B f) in absurd (clash (c.in_err-b.ensures.variant.1 (let e = c.in_ok-get-2.ensures.lookup.0.3 in omega arith)))

pub returns-then-earlier-clause-later_one : goal.returns-then-earlier-clause-later_one
returns-then-earlier-clause-later_one c = λ A B f o.
    let h : Halves c.args.one.now c.args.two.now c.common_length-at.result c.in_ok-common.common.now c.in_ok-a.one_end.now c.in_ok-b.two_end.now c.in_ok-a.a.now c.in_ok-b.b.now = record {
      front = c.in_ok-common.ensures.lookup.0.2;
      end_one = sym c.in_ok-a.ensures.cases.0 ∙ c.in_ok-get.ensures.lookup.0.2;
      end_two = sym c.in_ok-b.ensures.cases.0 ∙ c.in_ok-get-2.ensures.lookup.0.2;
    } in
    absurd (not_both (norm_at c.args.skeleton.now) A B (order_found f (c.common_length-at.ensures A B f) h (norm_at c.args.skeleton.now) (c.earlier.ensures.0 c.if-earlier.true)) o)

pub returns-then-earlier-clause-later_two : goal.returns-then-earlier-clause-later_two
returns-then-earlier-clause-later_two c = λ A B f o.
    let h : Halves c.args.one.now c.args.two.now c.common_length-at.result c.in_ok-common.common.now c.in_ok-a.one_end.now c.in_ok-b.two_end.now c.in_ok-a.a.now c.in_ok-b.b.now = record {
      front = c.in_ok-common.ensures.lookup.0.2;
      end_one = sym c.in_ok-a.ensures.cases.0 ∙ c.in_ok-get.ensures.lookup.0.2;
      end_two = sym c.in_ok-b.ensures.cases.0 ∙ c.in_ok-get-2.ensures.lookup.0.2;
    } in
    later_two_parts f (c.common_length-at.ensures A B f) h _ refl refl refl refl

pub returns-clause-later_one : goal.returns-clause-later_one
returns-clause-later_one c = λ A B f o.
    let h : Halves c.args.one.now c.args.two.now c.common_length-at.result c.in_ok-common.common.now c.in_ok-a.one_end.now c.in_ok-b.two_end.now c.in_ok-a.a.now c.in_ok-b.b.now = record {
      front = c.in_ok-common.ensures.lookup.0.2;
      end_one = sym c.in_ok-a.ensures.cases.0 ∙ c.in_ok-get.ensures.lookup.0.2;
      end_two = sym c.in_ok-b.ensures.cases.0 ∙ c.in_ok-get-2.ensures.lookup.0.2;
    } in
    later_one_parts f (c.common_length-at.ensures A B f) h _ refl refl refl refl

pub returns-clause-later_two : goal.returns-clause-later_two
returns-clause-later_two c = λ A B f o.
    let h : Halves c.args.one.now c.args.two.now c.common_length-at.result c.in_ok-common.common.now c.in_ok-a.one_end.now c.in_ok-b.two_end.now c.in_ok-a.a.now c.in_ok-b.b.now = record {
      front = c.in_ok-common.ensures.lookup.0.2;
      end_one = sym c.in_ok-a.ensures.cases.0 ∙ c.in_ok-get.ensures.lookup.0.2;
      end_two = sym c.in_ok-b.ensures.cases.0 ∙ c.in_ok-get-2.ensures.lookup.0.2;
    } in
    absurd (clash (sym c.if-earlier.false ∙ c.earlier.ensures.1 (order_there f (c.common_length-at.ensures A B f) h (norm_at c.args.skeleton.now) o)))
