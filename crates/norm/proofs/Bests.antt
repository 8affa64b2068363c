-- The best rule of a symbol, letter by letter. Assumes nothing.
use Rattle.std.proofs.Common.{◌≡◌, ℕ, suc, ◌+◌, ◌<◌, ◌≤◌, ltb, leb, List, None, Option, ⊎_elim, arith, below_more}
use Rattle.std.proofs.lemmas.Bool.{cases_lt, and_right, and_left, lt-leb, cond-false}
use Rattle.grammar.specs.Listed.{letter}
use Rattle.norm.specs.Words.{Words}
use Rattle.norm.specs.Tabled.{stored}
use Rattle.norm.specs.Measured.{makes, Best}
use Rattle.norm.specs.declared.short_word.ShortWord.{ShortWord}

-- there is no rule at a byte that is no letter
pub stored_low : (n : ℕ) (ws : List (Option (ShortWord 4))) (A a : ℕ) → a < 65 → stored n ws A a ≡ None
stored_low n ws A a h = cond-false _ _ _ (and_right (ltb A n) (letter a) (and_left (leb 65 a) (leb a 90) (lt-leb 65 a h)))

pub stored_high : (n : ℕ) (ws : List (Option (ShortWord 4))) (A a : ℕ) → 90 < a → stored n ws A a ≡ None
stored_high n ws A a h = cond-false _ _ _ (and_right (ltb A n) (letter a) (and_right (leb 65 a) (leb a 90) (lt-leb a 90 h)))

-- the best of the rules at bytes below e
pub record BestBelow (v : ℕ) (R : Words) (norm : ℕ → ℕ) (A e k l : ℕ) : Type 0 where
  pub limit : k ≤ suc (suc v)
  pub before : l ≤ e
  pub under : (a : ℕ) → a < e → k ≤ makes v norm (R A a)
  pub made : k ≤ suc v → k ≡ makes v norm (R A l)
  pub first : (a : ℕ) → a < l → k < makes v norm (R A a)

module _ (v : ℕ) (R : Words) (norm : ℕ → ℕ) (A : ℕ) where
  pub best_none : (e : ℕ) → ((a : ℕ) → a < e → R A a ≡ None) → BestBelow v R norm A e (suc (suc v)) 0
  best_none e none = record {
    limit = omega arith;
    before = omega arith;
    under = λ a h. rw (none a h) (omega arith);
    made = λ h. absurd (omega arith);
    first = λ a h. absurd (omega arith);
  }

  pub best_keeps : (e k l m : ℕ) → BestBelow v R norm A e k l → m ≡ makes v norm (R A e) → k ≤ m → BestBelow v R norm A (e + 1) k l
  best_keeps e k l m b d h = record {
    limit = b.limit;
    before = let x = b.before in omega arith;
    under = below_more (λ a. k ≤ makes v norm (R A a)) e b.under (omega arith);
    made = b.made;
    first = b.first;
  }

  pub best_takes : (e k l m : ℕ) → BestBelow v R norm A e k l → m ≡ makes v norm (R A e) → m < k → BestBelow v R norm A (e + 1) m e
  best_takes e k l m b d h = record {
    limit = let x = b.limit in omega arith;
    before = omega arith;
    under = below_more (λ a. m ≤ makes v norm (R A a)) e (λ a i. let x = b.under a i in omega arith) (omega arith);
    made = λ _. d;
    first = λ a i. let x = b.under a i in omega arith;
  }

  pub best_all : (e k l : ℕ) → ((a : ℕ) → e ≤ a → R A a ≡ None) → BestBelow v R norm A e k l → Best v R norm A k l
  best_all e k l none b = record {
    under = λ a. ⊎_elim (λ h. b.under a h) (λ h. let x = b.limit in rw (none a h) x) (cases_lt a e);
    made = b.made;
    first = b.first;
  }
