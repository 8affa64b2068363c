-- Where a twin's rules come from, and what its words take. Assumes nothing.
use Rattle.std.proofs.Common.{◌≡◌, ℕ, ◌+◌, ◌-◌, ◌<◌, ◌≤◌, min, Bool, true, false, cond, ltb, [], ◌∷◌, ◌++◌, map, length, get_or, is_some, Some, None, Option, sym, refl, ap, ◌∙◌, ap₂, arith, ltb-false, ltb-true, le-ltb, lt-ltb}
use lib.ListN.{length-map, get_or-map}
use Rattle.tally.specs.Group.{Group}
use Rattle.grammar.specs.Meaning.{Word, Input, Weighted, Meaning, word_of, Each, Below, WellFormed}
use Rattle.grammar.specs.Takes.{takes, behind, follow, shift}
use Rattle.grammar.specs.Twinned.{kept, raised, renamed, twinned, Closed, TwinLaw}

module _ {T : Type 0} (f : ℕ → ℕ) where
  pub renamed_length : (o : Option (Weighted T)) → length (word_of (renamed (map f) o)) ≡ length (word_of o)
  renamed_length (Some m) = length-map m.word f
  renamed_length None = refl

  -- beyond a word's end stands 255, renamed or not
  pub renamed_at : f 255 ≡ 255 → (o : Option (Weighted T)) (i : ℕ) → get_or (word_of (renamed (map f) o)) i 255 ≡ f (get_or (word_of o) i 255)
  renamed_at e (Some m) i = ap (get_or (map f m.word) i) (sym e) ∙ get_or-map f m.word i 255
  renamed_at e None i = sym e

pub kept_end : (n : ℕ) → ◌≡◌ {A = ℕ} (cond (ltb 255 n) 255 255) 255
kept_end n = at (ltb 255 n)
  where
    at : (b : Bool) → ◌≡◌ {A = ℕ} (cond b 255 255) 255
    at true = refl
    at false = refl

module _ {T : Type 0} (M N : Meaning T) (A a : ℕ) where
  pub first_rule : A < M.count → (twinned M N).rule A a ≡ renamed (kept M.count) (M.rule A a)
  first_rule h = rw (lt-ltb A M.count h)

  pub second_rule : M.count ≤ A → A < min 255 (M.count + N.count) → (twinned M N).rule A a ≡ renamed (raised M.count) (N.rule (A - M.count) a)
  second_rule h k = rw (le-ltb A M.count h, lt-ltb A (min 255 (M.count + N.count)) k)

  pub no_rule : M.count ≤ A → min 255 (M.count + N.count) ≤ A → (twinned M N).rule A a ≡ None
  no_rule h k = rw (le-ltb A M.count h, le-ltb A (min 255 (M.count + N.count)) k)

  -- what a part answers of a rule's length and symbols, with n for the first's count, is what the twin answers
  module _ (n : ℕ) (mid : n ≡ M.count) where
    pub first_length : A < n → (r : ℕ) → r ≡ length (word_of (M.rule A a)) → r ≡ length (word_of ((twinned M N).rule A a))
    first_length h r e = e ∙ sym (ap (λ o. length (word_of o)) (first_rule (omega arith)) ∙ renamed_length (λ B. cond (ltb B M.count) B 255) (M.rule A a))

    pub first_at : A < n → (i B r : ℕ) → B ≡ get_or (word_of (M.rule A a)) i 255 → r ≡ cond (ltb B n) B 255 → r ≡ get_or (word_of ((twinned M N).rule A a)) i 255
    first_at h i B r e d =
        let f : ℕ → ℕ = λ B. cond (ltb B M.count) B 255 in
        d ∙ rw (mid, e) (sym (ap (λ o. get_or (word_of o) i 255) (first_rule (omega arith)) ∙ renamed_at f (kept_end M.count) (M.rule A a) i))

    module _ (behind : n ≤ A) (within : A < min 255 (M.count + N.count)) where
      pub second_length : (r : ℕ) → r ≡ length (word_of (N.rule (A - n) a)) → r ≡ length (word_of ((twinned M N).rule A a))
      second_length r e = e ∙ rw mid (sym (ap (λ o. length (word_of o)) (second_rule (omega arith) within) ∙ renamed_length (λ B. min 255 (B + M.count)) (N.rule (A - M.count) a)))

      pub second_at : (i B r : ℕ) → B ≡ get_or (word_of (N.rule (A - n) a)) i 255 → r ≡ min 255 (B + n) → r ≡ get_or (word_of ((twinned M N).rule A a)) i 255
      second_at i B r e d =
          let f : ℕ → ℕ = λ B. min 255 (B + M.count) in
          d ∙ rw (e, mid) (sym (ap (λ o. get_or (word_of o) i 255) (second_rule (omega arith) within) ∙ renamed_at f (omega arith) (N.rule (A - M.count) a) i))

-- words of the first's symbols
pub kept_same : (n : ℕ) (w : Word) → Below n w → kept n w ≡ w
kept_same n [] h = refl
kept_same n (B ∷ w) h = ap₂ {C = Word} (λ x y. x ∷ y) (rw (lt-ltb B n h.0)) (kept_same n w h.1)

pub each_append : (P : ℕ → Type 0) (x y : Word) → Each P x → Each P y → Each P (x ++ y)
each_append P [] y h k = k
each_append P (B ∷ x) y h k = (h.0, each_append P x y h.1 k)

module _ {T : Type 0} (𝓣 : Group T) (M N : Meaning T) where
  pub first_takes : Closed M → (s : Input) (w : Word) → Below M.count w → takes 𝓣 (twinned M N) w s ≡ takes 𝓣 M w s
  first_takes closed [] [] h = refl
  first_takes closed [] (A ∷ r) h = refl
  first_takes closed (a ∷ s) [] h = refl
  first_takes closed (a ∷ s) (A ∷ r) h = ap (λ o. follow 𝓣 (λ x. takes 𝓣 (twinned M N) x s) (behind r o)) (first_rule M N A a h.0) ∙ at (λ w k. first_takes closed s w k) (M.rule A a) (closed A a)
    where
      at : ((w : Word) → Below M.count w → takes 𝓣 (twinned M N) w s ≡ takes 𝓣 M w s) → (o : Option (Weighted T)) → Below M.count (word_of o) →
          follow 𝓣 (λ x. takes 𝓣 (twinned M N) x s) (behind r (renamed (kept M.count) o)) ≡ follow 𝓣 (λ x. takes 𝓣 M x s) (behind r o)
      at ih None k = refl
      at ih (Some m) k = ap (shift 𝓣 m.tally) (ap (λ v. takes 𝓣 (twinned M N) (v ++ r) s) (kept_same M.count m.word k) ∙ ih (m.word ++ r) (each_append (λ B. B < M.count) m.word r k h.1))

  module _ (f : WellFormed N) (few : M.count + N.count ≤ 255) where
    -- the rule of a raised symbol
    pub raised_rule : (B a : ℕ) → (twinned M N).rule (min 255 (B + M.count)) a ≡ renamed (raised M.count) (N.rule B a)
    raised_rule B a = at (ltb B N.count) refl
      where
        gone : (o : Option (Weighted T)) → (is_some o ≡ true → ⊥) → renamed (raised M.count) o ≡ None
        gone None h = refl
        gone (Some m) h = absurd (h refl)

        at : (b : Bool) → ltb B N.count ≡ b → (twinned M N).rule (min 255 (B + M.count)) a ≡ renamed (raised M.count) (N.rule B a)
        at true e =
            let below = ltb-true B N.count e in
            let place : min 255 (B + M.count) - M.count ≡ B = omega arith in
            second_rule M N (min 255 (B + M.count)) a (omega arith) (omega arith) ∙ ap (λ C. renamed (raised M.count) (N.rule C a)) place
        at false e =
            let above = ltb-false B N.count e in
            no_rule M N (min 255 (B + M.count)) a (omega arith) (omega arith) ∙ sym (gone (N.rule B a) (λ h. let less = f.counted B a h in omega arith))

    pub raised_append : (n : ℕ) (x y : Word) → raised n x ++ raised n y ≡ raised n (x ++ y)
    raised_append n [] y = refl
    raised_append n (B ∷ x) y = ap {B = Word} (λ w. min 255 (B + n) ∷ w) (raised_append n x y)

    pub second_takes : (s : Input) (w : Word) → takes 𝓣 (twinned M N) (raised M.count w) s ≡ takes 𝓣 N w s
    second_takes [] [] = refl
    second_takes [] (B ∷ r) = refl
    second_takes (a ∷ s) [] = refl
    second_takes (a ∷ s) (B ∷ r) = ap (λ o. follow 𝓣 (λ x. takes 𝓣 (twinned M N) x s) (behind (raised M.count r) o)) (raised_rule B a) ∙ at (λ w. second_takes s w) (N.rule B a)
      where
        at : ((w : Word) → takes 𝓣 (twinned M N) (raised M.count w) s ≡ takes 𝓣 N w s) → (o : Option (Weighted T)) →
            follow 𝓣 (λ x. takes 𝓣 (twinned M N) x s) (behind (raised M.count r) (renamed (raised M.count) o)) ≡ follow 𝓣 (λ x. takes 𝓣 N x s) (behind r o)
        at ih None = refl
        at ih (Some m) = ap (shift 𝓣 m.tally) (ap (λ v. takes 𝓣 (twinned M N) v s) (raised_append M.count m.word r) ∙ ih (m.word ++ r))

  pub twin_law : WellFormed N → TwinLaw 𝓣 M N
  twin_law f = record {
    first = λ closed w h s. first_takes closed s w h;
    second = λ few w s. second_takes f few s w;
  }
