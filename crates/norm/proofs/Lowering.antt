-- Measures that are lowered to what a best rule makes of them.
--
-- The idea: a measure is lowered only to what a rule makes of measures that are had, so it is had: inputs of the word's symbols, one behind the other, end the rule's word.
-- Where nothing falls any more, no rule makes less.
--
-- Assumes nothing.
use Rattle.std.proofs.Common.{◌≡◌, ℕ, zero, suc, ◌+◌, ◌<◌, ◌≤◌, Bool, true, false, ◌≢◌, ◌⊎◌, List, [], ◌∷◌, ◌++◌, length, get_or, set, replicate, Some, None, sum, Option, sym, refl, ap, ◌∙◌, subst, inl, inr, ⊎_elim, append_assoc, append-nil, arith, length-set, get_or-set_other, get_or-set_same, below_more}
use borrow.Author.Tests.{clash}
use Rattle.std.proofs.lemmas.List.{get_or_default}
use Rattle.std.proofs.lemmas.Bool.{cases_eq}
use Rattle.std.proofs.lemmas.List.Sums.{sum_by-set}
use Rattle.grammar.specs.Meaning.{Word, Input, Each, Below}
use Rattle.grammar.proofs.Options.{none_some}
use Rattle.norm.specs.Words.{Words, body, passed, reads, Lives}
use Rattle.norm.specs.Measured.{measure, makes, Best, Reached}
use Rattle.norm.proofs.Along.{along_each, along_less}

module _ (R : Words) where
  -- where x ends with s, what x and then y leave is what y leaves
  pub reads_behind : (s : Input) (x y : Word) (r : Input) → reads R x s ≡ Some [] → reads R (x ++ y) (s ++ r) ≡ reads R y r
  reads_behind [] [] y r e = refl
  reads_behind [] (A ∷ x) y r e = absurd (let z : ◌≡◌ {A = ℕ} 0 1 = cc in omega arith)
  reads_behind (a ∷ s) [] y r e = absurd (none_some e)
  reads_behind (a ∷ s) (A ∷ x) y r e = go (λ v d. reads_behind s (v ++ x) y r d) (R A a) e
    where
      go : ((v : Word) → reads R (v ++ x) s ≡ Some [] → reads R ((v ++ x) ++ y) (s ++ r) ≡ reads R y r) → (o : Option Word) →
          passed (λ v. reads R (v ++ x) s) o ≡ Some [] → passed (λ v. reads R (v ++ (x ++ y)) (s ++ r)) o ≡ reads R y r
      go ih None e = absurd (none_some e)
      go ih (Some v) e = rw (← append_assoc v x y) (ih v e)

  -- a word whose symbols take inputs takes one
  pub lives_word : (w : Word) → Each (Lives R) w → (s : Input) × (reads R w s ≡ Some [])
  lives_word [] e = ([], refl)
  lives_word (A ∷ w) e = let i = lives_word w e.1 in (e.0.0 ++ i.0, reads_behind e.0.0 (A ∷ []) w i.0 e.0.1 ∙ i.1)

  pub lives_rule : (A a : ℕ) (w : Word) → R A a ≡ Some w → Each (Lives R) w → Lives R A
  lives_rule A a w d e =
      let i = lives_word w e in
      (a ∷ i.0, ap (passed (λ v. reads R (v ++ []) i.0)) d ∙ ap (λ u. reads R u i.0) (append-nil w) ∙ i.1)

-- two facts of each symbol make a third
pub each_both : (P Q S : ℕ → Type 0) → ((A : ℕ) → P A → Q A → S A) → (w : Word) → Each P w → Each Q w → Each S w
each_both P Q S f [] p q = tt
each_both P Q S f (A ∷ w) p q = (f A p.0 q.0, each_both P Q S f w p.1 q.1)

pub makes_less : (v : ℕ) (norm less : ℕ → ℕ) → ((B : ℕ) → less B ≤ norm B) → (o : Option Word) → makes v less o ≤ makes v norm o
makes_less v norm less s None = omega arith
makes_less v norm less s (Some w) = along_less v norm less s 1 1 w (omega arith) (omega arith)

module _ (v n : ℕ) (R : Words) (known : (A a : ℕ) → Below n (body (R A a))) where
  -- what a rule makes within the scale is had
  makes_lives : (norm : ℕ → ℕ) → Reached v n R norm → (A a : ℕ) → makes v norm (R A a) ≤ suc v → Lives R A
  makes_lives norm r A a h = go (R A a) refl h
    where
      go : (o : Option Word) → R A a ≡ o → makes v norm o ≤ suc v → Lives R A
      go None d h = absurd (omega arith)
      go (Some w) d h =
          lives_rule R A a w d
          (each_both (λ B. B < n) (λ B. norm B ≤ suc v) (Lives R) (λ B p q. r.lives B p q) w (subst (λ o. Below n (body o)) d (known A a)) (along_each v norm 1 w h))

  pub lowered : (norm less : ℕ → ℕ) (A k l : ℕ) → Reached v n R norm → Best v R norm A k l → ((B : ℕ) → B ≢ A → less B ≡ norm B) → less A ≡ k → k ≤ norm A → Reached v n R less
  lowered norm less A k l r b other here h = record {
    limit = λ B. let x = r.limit B in let y = smaller B in omega arith;
    lives = λ B i j. ⊎_elim (λ e. at_lives B e j) (λ e. let d = other B e in r.lives B i (omega arith)) (cases_eq B A);
    made = λ B i j. ⊎_elim (λ e. at_made B e j) (λ e. let d = other B e in let m = r.made B i (omega arith) in let s = makes_less v norm less smaller (R B m.0) in let t = m.1 in (m.0, omega arith)) (cases_eq B A);
  }
    where
      smaller : (B : ℕ) → less B ≤ norm B
      smaller B = ⊎_elim (λ e. let d = ap less e in let f = ap norm e in omega arith) (λ e. let d = other B e in omega arith) (cases_eq B A)

      at_lives : (B : ℕ) → B ≡ A → less B ≤ suc v → Lives R B
      at_lives B e j =
          let d = ap less e in
          let m : k ≡ makes v norm (R A l) = b.made (omega arith) in
          subst (Lives R) (sym e) (makes_lives norm r A l (omega arith))

      at_made : (B : ℕ) → B ≡ A → less B ≤ suc v → (a : ℕ) × (makes v less (R B a) ≤ less B)
      at_made B e j =
          let d = ap less e in
          let m : k ≡ makes v norm (R A l) = b.made (omega arith) in
          let s : makes v less (R A l) ≤ makes v norm (R A l) = makes_less v norm less smaller (R A l) in
          let f : makes v less (R B l) ≡ makes v less (R A l) = ap (λ C. makes v less (R C l)) e in
          (l, omega arith)

-- one measure written
pub measure_same : (ms : List ℕ) (A k : ℕ) → A < length ms → measure (set ms A k) A ≡ k
measure_same ms A k h = get_or-set_same ms A k 66 h

pub measure_other : (ms : List ℕ) (A k B : ℕ) → B ≢ A → measure (set ms A k) B ≡ measure ms B
measure_other ms A k B h = get_or-set_other ms A B k 66 h

pub sum_falls : (ms : List ℕ) (A k : ℕ) → A < length ms → k < get_or ms A 0 → sum (set ms A k) < sum ms
sum_falls ms A k h l = let e = sum_by-set (λ x. x) ms A k 0 h in omega arith

-- In a pass over the symbols: the measures ms became ns by the symbols below i, and fell says whether one fell.
pub record Passing (v n : ℕ) (R : Words) (ms : List ℕ) (i : ℕ) (ns : List ℕ) (fell : Bool) : Type 0 where
  pub size : length ns ≡ 32
  pub keeps : Reached v n R (measure ms) → Reached v n R (measure ns)
  pub falls : fell ≡ true → sum ns < sum ms
  pub at_most : sum ns ≤ sum ms
  pub same : fell ≡ false → ns ≡ ms
  pub settled : fell ≡ false → (A : ℕ) → A < i → (a : ℕ) → measure ms A ≤ makes v (measure ms) (R A a)

module _ (v n : ℕ) (R : Words) (known : (A a : ℕ) → Below n (body (R A a))) (ms : List ℕ) where
  pub passing_keeps : (i k l : ℕ) (ns : List ℕ) (fell : Bool) → Passing v n R ms i ns fell → Best v R (measure ns) i k l → i < 32 → get_or ns i 0 ≤ k → Passing v n R ms (i + 1) ns fell
  passing_keeps i k l ns fell p b h le = record {
    size = p.size;
    keeps = p.keeps;
    falls = p.falls;
    at_most = p.at_most;
    same = p.same;
    settled = λ e. below_more (λ A. (a : ℕ) → measure ms A ≤ makes v (measure ms) (R A a)) i (p.settled e) (λ a. subst (λ q. measure q i ≤ makes v (measure q) (R i a)) (p.same e) (here a));
  }
    where
      here : (a : ℕ) → measure ns i ≤ makes v (measure ns) (R i a)
      here a = let d = get_or_default ns i 66 0 (let s = p.size in omega arith) in let u = b.under a in omega arith

  pub passing_falls : (i k l : ℕ) (ns : List ℕ) (fell : Bool) → Passing v n R ms i ns fell → Best v R (measure ns) i k l → i < 32 → k < get_or ns i 0 → Passing v n R ms (i + 1) (set ns i k) true
  passing_falls i k l ns fell p b h lt = record {
    size = length-set ns i k ∙ p.size;
    keeps = λ r. lowered v n R known (measure ns) (measure (set ns i k)) i k l (p.keeps r) b (λ B e. measure_other ns i k B e) (measure_same ns i k inside) (let d = get_or_default ns i 66 0 inside in omega arith);
    falls = λ _. less;
    at_most = let s = less in omega arith;
    same = λ e. absurd (clash (sym e));
    settled = λ e. absurd (clash (sym e));
  }
    where
      inside : i < length ns
      inside = let s = p.size in omega arith

      less : sum (set ns i k) < sum ms
      less = let s = sum_falls ns i k inside lt in let t = p.at_most in omega arith

  -- as the pass has them
  pub passing_on : (i k : ℕ) (ns ns' : List ℕ) (fell fell' : Bool) → Passing v n R ms i ns fell → i < 32 → (l : ℕ) → Best v R (measure ns) i k l →
      ((k < get_or ns i 0) × (ns' ≡ set ns i k) × (fell' ≡ true)) ⊎ ((get_or ns i 0 ≤ k) × (ns' ≡ ns) × (fell' ≡ fell)) → Passing v n R ms (i + 1) ns' fell'
  passing_on i k ns ns' fell fell' p h l b (inl w) = rw (w.1, w.2) (passing_falls i k l ns fell p b h w.0)
  passing_on i k ns ns' fell fell' p h l b (inr w) = rw (w.1, w.2) (passing_keeps i k l ns fell p b h w.0)

-- where nothing is measured
pub nothing : (n A : ℕ) → measure (replicate n 66) A ≡ 66
nothing zero A = refl
nothing (suc n) zero = refl
nothing (suc n) (suc A) = nothing n A

pub reached_none : (n k : ℕ) (R : Words) → Reached 64 n R (measure (replicate k 66))
reached_none n k R = record {
  limit = λ A. let e = nothing k A in omega arith;
  lives = λ A h l. let e = nothing k A in absurd (omega arith);
  made = λ A h l. let e = nothing k A in absurd (omega arith);
}
