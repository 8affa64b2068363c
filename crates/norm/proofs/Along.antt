-- Measures along a word, symbol by symbol, and what they say of norms. Assumes nothing.
use Rattle.std.proofs.Common.{◌≡◌, ℕ, suc, ◌+◌, ◌<◌, ◌≤◌, min, Bool, true, false, cond, ltb, [], ◌∷◌, length, get_or, drop, refl, ◌∙◌, arith, ltb-false, ltb-true, le-ltb, lt-ltb}
use Rattle.std.proofs.lemmas.List.{at_drop_more, at_drop_all}
use Rattle.grammar.specs.Meaning.{Word, Each}
use Rattle.norm.specs.Norms.{norms}
use Rattle.norm.specs.Measured.{along}

module _ (v : ℕ) (norm : ℕ → ℕ) where
  -- one symbol on, in a loop over the word
  pub along_over : (k : ℕ) (w : Word) (i : ℕ) → i < length w → suc v < norm (get_or w i 0) → along v norm k (drop i w) ≡ suc (suc v)
  along_over k w i h over = at_drop_more (along v norm k) w i 0 h ∙ rw (lt-ltb (suc v) (norm (get_or w i 0)) over)

  pub along_more : (k : ℕ) (w : Word) (i : ℕ) → i < length w → norm (get_or w i 0) ≤ suc v → along v norm k (drop i w) ≡ along v norm (min (k + norm (get_or w i 0)) (suc v)) (drop (i + 1) w)
  along_more k w i h small = at_drop_more (along v norm k) w i 0 h ∙ rw (le-ltb (suc v) (norm (get_or w i 0)) small)

  pub along_all : (k : ℕ) (w : Word) (i : ℕ) → length w ≤ i → along v norm k (drop i w) ≡ k
  along_all k w i h = at_drop_all (along v norm k) w i h

  -- no more than the norms come to
  pub along_le : (k : ℕ) (w : Word) → along v norm k w ≤ k + norms norm w
  along_le k [] = omega arith
  along_le k (B ∷ w) = go (along_le (min (k + norm B) (suc v)) w) (ltb (suc v) (norm B)) refl
    where
      go : along v norm (min (k + norm B) (suc v)) w ≤ min (k + norm B) (suc v) + norms norm w → (b : Bool) → ltb (suc v) (norm B) ≡ b →
          cond b (suc (suc v)) (along v norm (min (k + norm B) (suc v)) w) ≤ k + (norm B + norms norm w)
      go ih true e = let h = ltb-true (suc v) (norm B) e in omega arith
      go ih false e = omega arith

  -- within the limit it is what the norms come to
  pub along_exact : (k : ℕ) (w : Word) → along v norm k w ≤ v → along v norm k w ≡ k + norms norm w
  along_exact k [] h = omega arith
  along_exact k (B ∷ w) h = go (along_exact (min (k + norm B) (suc v)) w) (ltb (suc v) (norm B)) h
    where
      go : (along v norm (min (k + norm B) (suc v)) w ≤ v → along v norm (min (k + norm B) (suc v)) w ≡ min (k + norm B) (suc v) + norms norm w) → (b : Bool) →
          cond b (suc (suc v)) (along v norm (min (k + norm B) (suc v)) w) ≤ v → cond b (suc (suc v)) (along v norm (min (k + norm B) (suc v)) w) ≡ k + (norm B + norms norm w)
      go ih true h = absurd (omega arith)
      go ih false h = let d = ih h in omega arith

  -- where it is no more than one past the limit, so is each symbol; and back
  pub along_each : (k : ℕ) (w : Word) → along v norm k w ≤ suc v → Each (λ B. norm B ≤ suc v) w
  along_each k [] h = tt
  along_each k (B ∷ w) h = go (along_each (min (k + norm B) (suc v)) w) (ltb (suc v) (norm B)) refl h
    where
      go : (along v norm (min (k + norm B) (suc v)) w ≤ suc v → Each (λ C. norm C ≤ suc v) w) → (b : Bool) → ltb (suc v) (norm B) ≡ b →
          cond b (suc (suc v)) (along v norm (min (k + norm B) (suc v)) w) ≤ suc v → (norm B ≤ suc v) × Each (λ C. norm C ≤ suc v) w
      go ih true e h = absurd (omega arith)
      go ih false e h = (ltb-false (suc v) (norm B) e, ih h)

  pub each_along : (k : ℕ) (w : Word) → k ≤ suc v → Each (λ B. norm B ≤ suc v) w → along v norm k w ≤ suc v
  each_along k [] h e = h
  each_along k (B ∷ w) h e = rw (le-ltb (suc v) (norm B) e.0) (each_along (min (k + norm B) (suc v)) w (omega arith) e.1)

  -- at most the last measure
  pub along_top : (k : ℕ) (w : Word) → k ≤ suc v → along v norm k w ≤ suc (suc v)
  along_top k [] h = omega arith
  along_top k (B ∷ w) h = go (along_top (min (k + norm B) (suc v)) w (omega arith)) (ltb (suc v) (norm B))
    where
      go : along v norm (min (k + norm B) (suc v)) w ≤ suc (suc v) → (b : Bool) → cond b (suc (suc v)) (along v norm (min (k + norm B) (suc v)) w) ≤ suc (suc v)
      go ih true = omega arith
      go ih false = ih

-- with smaller measures it is smaller
pub along_less : (v : ℕ) (norm less : ℕ → ℕ) → ((B : ℕ) → less B ≤ norm B) → (j k : ℕ) (w : Word) → j ≤ k → k ≤ suc v → along v less j w ≤ along v norm k w
along_less v norm less s j k [] h l = h
along_less v norm less s j k (B ∷ w) h l =
    let r = s B in
    go (along_less v norm less s (min (j + less B) (suc v)) (min (k + norm B) (suc v)) w (omega arith) (omega arith)) (ltb (suc v) (less B)) refl (ltb (suc v) (norm B)) refl
  where
    go : along v less (min (j + less B) (suc v)) w ≤ along v norm (min (k + norm B) (suc v)) w → (b : Bool) → ltb (suc v) (less B) ≡ b → (c : Bool) → ltb (suc v) (norm B) ≡ c →
        cond b (suc (suc v)) (along v less (min (j + less B) (suc v)) w) ≤ cond c (suc (suc v)) (along v norm (min (k + norm B) (suc v)) w)
    go ih true d true e = omega arith
    go ih true d false e = let p = ltb-true (suc v) (less B) d in let q = ltb-false (suc v) (norm B) e in let r = s B in absurd (omega arith)
    go ih false d true e = along_top v less (min (j + less B) (suc v)) w (omega arith)
    go ih false d false e = ih
