-- Where measures are had and no rule makes less of them, they are norms up to the limit, and tell what passes it.
--
-- The idea: what the best rule of a symbol makes is then just its measure. Up to the limit that is one more than the norms of the rule's word, so the measures are a certificate.
-- A symbol without a measure has only rules through such symbols, so no word with one of them ends.
--
-- Assumes nothing.
use Rattle.std.proofs.Common.{◌≡◌, ℕ, suc, ◌<◌, ◌≤◌, true, ◌⊎◌, List, [], ◌∷◌, ◌++◌, length, get_or, is_some, Some, None, Option, sym, refl, ap, subst, inl, inr, ⊎_elim, arith, ◌+◌, set, get_or-set_other, get_or-set_same, below_more}
use Rattle.std.proofs.lemmas.Bool.{cases_lt}
use Rattle.grammar.specs.Meaning.{Word, Input, Each, Below}
use Rattle.grammar.specs.Listed.{letter}
use Rattle.grammar.proofs.Options.{none_some}
use Rattle.norm.specs.Words.{Words, body, reads, Barren}
use Rattle.norm.specs.Norms.{norms}
use Rattle.norm.specs.Tabled.{stored}
use Rattle.norm.specs.Certified.{Certified, spelled}
use Rattle.norm.specs.Measured.{norm_in, letter_in, makes, Best, Reached, Settled, Within, Beyond, IsBarren, IsLong}
use Rattle.norm.specs.declared.best_rule.BestRule.{BestRule}
use Rattle.norm.specs.declared.short_word.ShortWord.{ShortWord}
use Rattle.norm.proofs.Along.{along_le, along_exact, along_top, each_along}
use Rattle.norm.proofs.Certificates as certificates
use Rattle.norm.proofs.Certificates.{ends_step, word_there}
use Rattle.norm.proofs.Stored.{stored_counted}
use Rattle.norm.proofs.Weights.{each_from_places, each_front, each_back}

-- a list that is filled in, one place on
pub filled_more : (P : ℕ → ℕ → Type 0) (xs : List ℕ) (i x : ℕ) → i < length xs → ((A : ℕ) → A < i → P A (get_or xs A 0)) → P i x → (A : ℕ) → A < i + 1 → P A (get_or (set xs i x) A 0)
filled_more P xs i x h below here =
    below_more (λ A. P A (get_or (set xs i x) A 0)) i
    (λ A l. subst (P A) (sym (get_or-set_other xs i A x 0 (λ e. omega arith))) (below A l))
    (subst (P i) (sym (get_or-set_same xs i x 0 h)) here)

makes_top : (v : ℕ) (norm : ℕ → ℕ) (o : Option Word) → makes v norm o ≤ suc (suc v)
makes_top v norm None = omega arith
makes_top v norm (Some w) = along_top v norm 1 w (omega arith)

makes_le : (v : ℕ) (norm : ℕ → ℕ) (o : Option Word) → is_some o ≡ true → makes v norm o ≤ suc (norms norm (body o))
makes_le v norm None e = absurd (let z : ◌≡◌ {A = ℕ} 0 1 = cc in omega arith)
makes_le v norm (Some w) e = let h = along_le v norm 1 w in omega arith

makes_exact : (v : ℕ) (norm : ℕ → ℕ) (o : Option Word) → makes v norm o ≤ v → (is_some o ≡ true) × (makes v norm o ≡ suc (norms norm (body o)))
makes_exact v norm None h = absurd (omega arith)
makes_exact v norm (Some w) h = let e = along_exact v norm 1 w h in (refl, omega arith)

module _ (v n : ℕ) (R : Words) (counted : (A a : ℕ) → is_some (R A a) ≡ true → A < n) (known : (A a : ℕ) → Below n (body (R A a)))
    (norm : ℕ → ℕ) (reached : Reached v n R norm) (settled : Settled v n R norm) where
  -- what a best rule makes is the measure
  best_norm : (A k l : ℕ) → A < n → Best v R norm A k l → k ≡ norm A
  best_norm A k l h b = ⊎_elim low high (cases_lt (suc v) k)
    where
      low : suc v < k → k ≡ norm A
      low c = at (cases_lt (suc v) (norm A))
        where
          at : (suc v < norm A) ⊎ (norm A ≤ suc v) → k ≡ norm A
          at (inl d) = let x = reached.limit A in let y = b.under 0 in let z = makes_top v norm (R A 0) in omega arith
          at (inr d) = let m = reached.made A h d in let x = m.1 in let y = b.under m.0 in absurd (omega arith)

      high : k ≤ suc v → k ≡ norm A
      high c =
          let e = b.made c in
          let s = settled A h l in
          let m = reached.made A h in
          at (cases_lt (suc v) (norm A))
        where
          at : (suc v < norm A) ⊎ (norm A ≤ suc v) → k ≡ norm A
          at (inl d) = let e = b.made c in let s = settled A h l in absurd (omega arith)
          at (inr d) = let e = b.made c in let s = settled A h l in let m = reached.made A h d in let x = m.1 in let y = b.under m.0 in omega arith

  module _ (letter : ℕ → ℕ) (best : (A : ℕ) → A < n → (k : ℕ) × Best v R norm A k (letter A)) where
    made : (A : ℕ) (h : A < n) → norm A ≤ suc v → norm A ≡ makes v norm (R A (letter A))
    made A h c = let b = best A h in let e = best_norm A b.0 (letter A) h b.1 in let m = b.1.made (omega arith) in omega arith

    pub certified : Certified v n R norm letter
    certified = record {
      below = λ A a e. let s = settled A (counted A a e) a in let l = makes_le v norm (R A a) e in omega arith;
      there = λ A h c. let m = made A h (omega arith) in (makes_exact v norm (R A (letter A)) (omega arith)).0;
      attained = λ A h c. let m = made A h (omega arith) in let x = (makes_exact v norm (R A (letter A)) (omega arith)).1 in omega arith;
      earliest = λ A a h e l.
          let b = best A h in
          let d = best_norm A b.0 (letter A) h b.1 in
          let f = b.1.first a l in
          let g = makes_le v norm (R A a) e in
          omega arith;
      known = known;
    }

    -- a norm within the limit is that of an input
    pub within : (A : ℕ) → A < n → norm A ≤ v → Within v R A
    within A h c =
        let one : norms norm (A ∷ []) ≡ norm A = omega arith in
        let s = certificates.spelled_ends v n R norm letter certified (norm A) (A ∷ []) (h, tt) (c, tt) one in
        let l = s.1 in
        (spelled R letter (norm A) (A ∷ []), s.0, omega arith)

    -- and beyond it that of none within
    pub beyond : (A : ℕ) → v < norm A → Beyond v R A
    beyond A h s e = let l = certificates.beyond v n R norm letter certified s (A ∷ []) e in omega arith

  -- a word that ends has measured symbols only
  live_reads : (s : Input) (w : Word) → reads R w s ≡ Some [] → Each (λ B. norm B ≤ suc v) w
  live_reads [] [] e = tt
  live_reads [] (A ∷ w) e = absurd (let z : ◌≡◌ {A = ℕ} 0 1 = cc in omega arith)
  live_reads (a ∷ s) [] e = absurd (none_some e)
  live_reads (a ∷ s) (A ∷ w) e =
      let f = ends_step R A a w s e in
      let i = live_reads s (f.0 ++ w) f.2 in
      let front = each_front (λ B. norm B ≤ suc v) f.0 w i in
      let h : norm A ≤ makes v norm (R A a) = settled A (counted A a (ap is_some f.1)) a in
      let m : makes v norm (R A a) ≤ suc v = subst (λ o. makes v norm o ≤ suc v) (sym f.1) (each_along v norm 1 f.0 (omega arith) front) in
      (omega arith, each_back (λ B. norm B ≤ suc v) f.0 w i)

  pub barren : (A : ℕ) → suc v < norm A → Barren R A
  barren A h s e = let l = (live_reads s (A ∷ []) e).0 in omega arith

-- norms that are the same at the symbols of a word
norms_same : (n : ℕ) (norm same : ℕ → ℕ) → ((A : ℕ) → A < n → same A ≡ norm A) → (w : Word) → Below n w → norms same w ≡ norms norm w
norms_same n norm same h [] b = refl
norms_same n norm same h (A ∷ w) b = let e = h A b.0 in let d = norms_same n norm same h w b.1 in omega arith

certified_same : (v n : ℕ) (R : Words) (norm same letter : ℕ → ℕ) → ((A a : ℕ) → is_some (R A a) ≡ true → A < n) → ((A : ℕ) → A < n → same A ≡ norm A) → Certified v n R norm letter → Certified v n R same letter
certified_same v n R norm same letter counted h C = record {
  below = λ A a e. let d = h A (counted A a e) in let k = body_same A a in let l = C.below A a e in omega arith;
  there = λ A l c. let d = h A l in C.there A l (omega arith);
  attained = λ A l c. let d = h A l in let k = body_same A (letter A) in let e = C.attained A l (omega arith) in omega arith;
  earliest = λ A a l e i. let d = h A l in let k = body_same A a in let j = C.earliest A a l e i in omega arith;
  known = C.known;
}
  where
    body_same : (A a : ℕ) → norms same (body (R A a)) ≡ norms norm (body (R A a))
    body_same A a = norms_same n norm same h (body (R A a)) (C.known A a)

-- the same for a table of words with its measures and best rules
module _ (v n : ℕ) (ws : List (Option (ShortWord 4))) (known : (A a k : ℕ) → k < length (body (stored n ws A a)) → get_or (body (stored n ws A a)) k 0 < n)
    (norm : ℕ → ℕ) (reached : Reached v n (stored n ws) norm) (settled : Settled v n (stored n ws) norm)
    (bs : List BestRule) (best : (A : ℕ) → A < n → Best v (stored n ws) norm A (norm_in bs A) (letter_in bs A)) where
  below : (A a : ℕ) → Below n (body (stored n ws A a))
  below A a = each_from_places (λ B. B < n) (body (stored n ws A a)) (known A a)

  least : (A : ℕ) → A < n → (k : ℕ) × Best v (stored n ws) norm A k (letter_in bs A)
  least A h = (norm_in bs A, best A h)

  pub table_norm : (A : ℕ) → A < n → norm_in bs A ≡ norm A
  table_norm A h = best_norm v n (stored n ws) (stored_counted n ws) below norm reached settled A (norm_in bs A) (letter_in bs A) h (best A h)

  pub table_certified : Certified v n (stored n ws) (norm_in bs) (letter_in bs)
  table_certified =
      certified_same v n (stored n ws) norm (norm_in bs) (letter_in bs) (stored_counted n ws) table_norm
      (certified v n (stored n ws) (stored_counted n ws) below norm reached settled (letter_in bs) least)

  pub is_barren : (A : ℕ) → (A < n) × (suc v < norm A) × ((B : ℕ) → B < A → norm B ≤ suc v) → IsBarren n (stored n ws) A
  is_barren A h = record {
    symbol = h.0;
    here = barren v n (stored n ws) (stored_counted n ws) below norm reached settled A h.1;
    before = λ B l. let m = h.0 in reached.lives B (omega arith) (h.2 B l);
  }

  pub is_long : (A : ℕ) → ((B : ℕ) → B < n → norm B ≤ suc v) → (A < n) × (v < norm A) × ((B : ℕ) → B < A → norm B ≤ v) → IsLong v n (stored n ws) A
  is_long A all h = record {
    symbol = h.0;
    live = λ B l. reached.lives B l (all B l);
    here = beyond v n (stored n ws) (stored_counted n ws) below norm reached settled (letter_in bs) least A h.1;
    before = λ B l. let m = h.0 in within v n (stored n ws) (stored_counted n ws) below norm reached settled (letter_in bs) least B (omega arith) (h.2 B l);
  }
