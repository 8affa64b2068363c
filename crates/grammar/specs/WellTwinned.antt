-- A twin's meaning is well-formed where its parts' meanings are. Assumes nothing.
use Rattle.std.specs.Prelude.{◌≡◌, ℕ, ◌+◌, ◌-◌, ◌<◌, ◌≤◌, min, Bool, true, false, cond, [], ◌∷◌, length, is_some, Some, None, Option, nat_lt, refl}
use Rattle.std.proofs.Common.{arith, ltb-true}
use Rattle.std.proofs.lemmas.List.{length-map}
use Rattle.grammar.specs.Meaning.{Word, Weighted, Meaning, Letter, word_of, Each, WellFormed}
use Rattle.grammar.specs.Twinned.{kept, raised, renamed, twinned}

pub kept_bytes : (n : ℕ) → n ≤ 255 → (w : Word) → Each (λ B. B ≤ 255) (kept n w)
kept_bytes n h [] = tt
kept_bytes n h (B ∷ w) = (at (nat_lt B n) refl, kept_bytes n h w)
  where
    at : (b : Bool) → nat_lt B n ≡ b → cond b B 255 ≤ 255
    at true e = omega (arith, ltb-true B n e)
    at false e = omega arith

pub raised_bytes : (n : ℕ) (w : Word) → Each (λ B. B ≤ 255) (raised n w)
raised_bytes n [] = tt
raised_bytes n (B ∷ w) = (omega arith, raised_bytes n w)

module _ {T : Type 0} where
  -- a renamed rule is there where the rule is, with a word of the same length
  pub renamed_some : (f : Word → Word) (o : Option (Weighted T)) → is_some (renamed f o) ≡ true → is_some o ≡ true
  renamed_some f (Some m) e = refl
  renamed_some f None e = e

  pub renamed_word : (P : Word → Type 0) → P [] → (f : Word → Word) (o : Option (Weighted T)) → P (f (word_of o)) → P (word_of (renamed f o))
  renamed_word P none f (Some m) h = h
  renamed_word P none f None h = none

  module _ (M N : Meaning T) (f : WellFormed M) (g : WellFormed N) where
    -- a rule of the twin is one of the first's, or one of the second's, or none
    abbrev pub ruled : Bool → Bool → ℕ → ℕ → Option (Weighted T)
    ruled b c A a = cond b (renamed (kept M.count) (M.rule A a)) (cond c (renamed (raised M.count) (N.rule (A - M.count) a)) None)

    pub ruled_counted : (b c : Bool) (A a : ℕ) → nat_lt A M.count ≡ b → nat_lt A (min 255 (M.count + N.count)) ≡ c → is_some (ruled b c A a) ≡ true → A < min 255 (M.count + N.count)
    ruled_counted true c A a d e h = omega (arith, ltb-true A M.count d, f.few)
    ruled_counted false true A a d e h = ltb-true A (min 255 (M.count + N.count)) e
    ruled_counted false false A a d e h = absurd (let z : ◌≡◌ {A = ℕ} 0 1 = cc in omega arith)

    pub ruled_lettered : (b c : Bool) (A a : ℕ) → is_some (ruled b c A a) ≡ true → Letter a
    ruled_lettered true c A a h = f.lettered A a (renamed_some (kept M.count) (M.rule A a) h)
    ruled_lettered false true A a h = g.lettered (A - M.count) a (renamed_some (raised M.count) (N.rule (A - M.count) a) h)
    ruled_lettered false false A a h = absurd (let z : ◌≡◌ {A = ℕ} 0 1 = cc in omega arith)

    pub ruled_word : (P : Word → Type 0) → P [] → ((A a : ℕ) → P (kept M.count (word_of (M.rule A a)))) → ((A a : ℕ) → P (raised M.count (word_of (N.rule A a)))) → (b c : Bool) (A a : ℕ) → P (word_of (ruled b c A a))
    ruled_word P none h k true c A a = renamed_word P none (kept M.count) (M.rule A a) (h A a)
    ruled_word P none h k false true A a = renamed_word P none (raised M.count) (N.rule (A - M.count) a) (k (A - M.count) a)
    ruled_word P none h k false false A a = none

    pub twinned_wellformed : WellFormed (twinned M N)
    twinned_wellformed = record {
      few = omega arith;
      counted = λ A a. ruled_counted (nat_lt A M.count) (nat_lt A (min 255 (M.count + N.count))) A a refl refl;
      lettered = λ A a. ruled_lettered (nat_lt A M.count) (nat_lt A (min 255 (M.count + N.count))) A a;
      short = λ A a. ruled_word (λ w. length w ≤ 255) (omega arith) (λ A a. simp length-map (f.short A a)) (λ A a. simp length-map (g.short A a)) (nat_lt A M.count) (nat_lt A (min 255 (M.count + N.count))) A a;
      bytes = λ A a. ruled_word (Each (λ B. B ≤ 255)) tt (λ A a. kept_bytes M.count f.few (word_of (M.rule A a))) (λ A a. raised_bytes M.count (word_of (N.rule A a))) (nat_lt A M.count) (nat_lt A (min 255 (M.count + N.count))) A a;
    }
