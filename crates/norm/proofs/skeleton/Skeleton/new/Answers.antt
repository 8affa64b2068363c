use Rattle.std.proofs.Common.{ℕ, ◌<◌, ◌≤◌, subst, arith}
use Rattle.norm.specs.Ruled.{rules_of}
use Rattle.norm.specs.Measured.{norm_in, letter_in, Best, Reached, Settled, IsBarren, IsLong}
use Rattle.norm.specs.Measurings.{measured}
use Rattle.norm.specs.declared.rule_words.RuleWords.{RuleWords}
use Rattle.norm.proofs.Stored.{stored_counted}
use Rattle.norm.proofs.Settling.{table_norm, table_certified, is_barren, is_long}
use Rattle.norm.proofs.skeleton.Skeleton.new.Goals as goal

pub returns-in-Some : goal.returns-in-Some
returns-in-Some c =
    let s = c.settled-measuring in
    let t = s.result.words.now in
    subst (λ x. IsBarren x.count (rules_of x) c.in-Some.symbol) s.ensures.words
    (is_barren 64 t.count t.words t.known (measured s.result) s.ensures.reached s.ensures.settled c.best_rules-best_rules.result
    (λ A h. let few = t.few in c.best_rules-best_rules.ensures A (omega arith)) c.in-Some.symbol c.in-Some.ensures)

pub returns-in-Some-first_above : goal.returns-in-Some-first_above
returns-in-Some-first_above c =
    let s = c.settled-measuring in
    let t = s.result.words.now in
    subst (λ x. IsLong 64 x.count (rules_of x) c.in-Some-first_above.symbol) s.ensures.words
    (is_long 64 t.count t.words t.known (measured s.result) s.ensures.reached s.ensures.settled c.best_rules-best_rules.result
    (λ A h. let few = t.few in c.best_rules-best_rules.ensures A (omega arith)) c.in-Some-first_above.symbol c.in_default.ensures c.in-Some-first_above.ensures)

pub invariant_of-result : goal.invariant_of-result
invariant_of-result c =
    let s = c.settled-measuring in
    let t = c.args.words in
    let norm = measured s.result in
    let bs = c.best_rules-best_rules.result in
    let few = t.few in
    let lent = s.ensures.words in
    let reached : Reached 64 t.count (rules_of t) norm = subst (λ w. Reached 64 w.count (rules_of w) norm) lent s.ensures.reached in
    let settled : Settled 64 t.count (rules_of t) norm = subst (λ w. Settled 64 w.count (rules_of w) norm) lent s.ensures.settled in
    let best : (A : ℕ) → A < t.count → Best 64 (rules_of t) norm A (norm_in bs A) (letter_in bs A) = λ A h. subst (λ w. Best 64 (rules_of w) norm A (norm_in bs A) (letter_in bs A)) lent (c.best_rules-best_rules.ensures A (omega arith)) in
    let small : (A : ℕ) → A < t.count → norm A ≤ 64 = subst (λ (w : RuleWords). (A : ℕ) → A < w.count → norm A ≤ 64) lent c.in_default-first_above.ensures in
    let C = table_certified 64 t.count t.words t.known norm reached settled bs best in
    let within : (A : ℕ) → A < t.count → norm_in bs A ≤ 64 = λ A h. let e = table_norm 64 t.count t.words t.known norm reached settled bs best A h in let l = small A h in omega arith in
    record {
      small = within;
      below = C.below;
      there = λ A h. C.there A h (within A h);
      attained = λ A h. C.attained A h (within A h);
      earliest = λ A a e l. C.earliest A a (stored_counted t.count t.words A a e) e l;
    }
