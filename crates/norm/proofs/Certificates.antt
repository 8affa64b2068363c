-- A certificate gives norms and first inputs.
--
-- The idea: no rule undercuts a norm, so no taken input is shorter than the norms of its word. Where norms are attained, following the least letter that attains them
-- uses up one of the norm with each letter, so it ends; and whoever takes another letter first, at the same length, took a later one.
--
-- Assumes nothing.
use Rattle.std.proofs.Common.{◌≡◌, ℕ, zero, suc, ◌<◌, ◌≤◌, true, ◌⊎◌, [], ◌∷◌, ◌++◌, length, is_some, Some, None, Option, refl, ap, ◌∙◌, subst, inl, inr, arith}
use Rattle.std.proofs.lemmas.Bool.{cases_order}
use Rattle.tally.specs.Group.{Group}
use Rattle.grammar.specs.Meaning.{Word, Input, Each, Below}
use Rattle.grammar.proofs.Options.{none_some}
use Rattle.norm.specs.Words.{Words, words_of, body, passed, reads}
use Rattle.norm.specs.Norms.{NoLater, norms}
use Rattle.norm.specs.Certified.{Certified, spelled}
use Rattle.norm.specs.Laws.{CertificateLaw}
use Rattle.norm.proofs.Bridges.{taken_reads, reads_taken}
use Rattle.norm.proofs.Weights.{norms_append, each_append, each_within}

-- the first step of a word that ends
pub ends_step : (R : Words) (A a : ℕ) (r : Word) (s : Input) → reads R (A ∷ r) (a ∷ s) ≡ Some [] → (w : Word) × (R A a ≡ Some w) × (reads R (w ++ r) s ≡ Some [])
ends_step R A a r s e = go (R A a) refl e
  where
    go : (o : Option Word) → R A a ≡ o → passed (λ v. reads R (v ++ r) s) o ≡ Some [] → (w : Word) × (R A a ≡ Some w) × (reads R (w ++ r) s ≡ Some [])
    go None d e = absurd (none_some e)
    go (Some w) d e = (w, d, e)

-- a word that is there
pub word_there : (R : Words) (A a : ℕ) → is_some (R A a) ≡ true → R A a ≡ Some (body (R A a))
word_there R A a e = go (R A a) e
  where
    go : (o : Option Word) → is_some o ≡ true → o ≡ Some (body o)
    go None e = absurd (let z : ◌≡◌ {A = ℕ} 0 1 = cc in omega arith)
    go (Some w) e = refl

module _ (v n : ℕ) (R : Words) (norm letter : ℕ → ℕ) (C : Certified v n R norm letter) where
  under : (A a : ℕ) (w : Word) → R A a ≡ Some w → norm A ≤ suc (norms norm w)
  under A a w e = subst (λ o. norm A ≤ suc (norms norm (body o))) e (C.below A a (ap is_some e))

  pub beyond : (s : Input) (w : Word) → reads R w s ≡ Some [] → norms norm w ≤ length s
  beyond [] [] e = omega arith
  beyond [] (A ∷ w) e = absurd (let z : ◌≡◌ {A = ℕ} 0 1 = cc in omega arith)
  beyond (a ∷ s) [] e = absurd (none_some e)
  beyond (a ∷ s) (A ∷ w) e =
      let f = ends_step R A a w s e in
      let l = beyond s (f.0 ++ w) f.2 in
      let b = under A a f.0 f.1 in
      let d = norms_append norm f.0 w in
      omega arith

  -- one letter of the input that is spelled: the word of its rule is known and weighs one less
  module _ (A : ℕ) (r : Word) (known : Below n (A ∷ r)) (small : Each (λ B. norm B ≤ v) (A ∷ r)) where
    abbrev after : Word
    after = body (R A (letter A)) ++ r

    after_known : Below n after
    after_known = each_append (λ B. B < n) (body (R A (letter A))) r (C.known A (letter A)) known.1

    after_small : Each (λ B. norm B ≤ v) after
    after_small =
        let e = C.attained A known.0 small.0 in
        let s = small.0 in
        each_append (λ B. norm B ≤ v) (body (R A (letter A))) r (each_within norm v (body (R A (letter A))) (omega arith)) small.1

    after_norms : norms norm (A ∷ r) ≡ suc (norms norm after)
    after_norms =
        let e = C.attained A known.0 small.0 in
        let d = norms_append norm (body (R A (letter A))) r in
        omega arith

  pub spelled_ends : (k : ℕ) (w : Word) → Below n w → Each (λ B. norm B ≤ v) w → norms norm w ≡ k → (reads R w (spelled R letter k w) ≡ Some []) × (length (spelled R letter k w) ≡ k)
  spelled_ends zero [] b h e = (refl, refl)
  spelled_ends zero (A ∷ r) b h e = let a = C.attained A b.0 h.0 in absurd (omega arith)
  spelled_ends (suc k) [] b h e = absurd (omega arith)
  spelled_ends (suc k) (A ∷ r) b h e =
      let d = after_norms A r b h in
      let i = spelled_ends k (after A r b h) (after_known A r b h) (after_small A r b h) (omega arith) in
      let l = i.1 in
      (ap (passed (λ u. reads R (u ++ r) (spelled R letter k (after A r b h)))) (word_there R A (letter A) (C.there A b.0 h.0)) ∙ i.0, omega arith)

  pub spelled_first : (k : ℕ) (w : Word) → Below n w → Each (λ B. norm B ≤ v) w → norms norm w ≡ k → (r : Input) → reads R w r ≡ Some [] → length r ≡ k → NoLater (spelled R letter k w) r
  spelled_first zero w b h e r t l = tt
  spelled_first (suc k) w b h e [] t l = absurd (omega arith)
  spelled_first (suc k) [] b h e (a ∷ r) t l = absurd (none_some t)
  spelled_first (suc k) (A ∷ x) b h e (a ∷ r) t l =
      let f = ends_step R A a x r t in
      let s = beyond r (f.0 ++ x) f.2 in
      let u = under A a f.0 f.1 in
      let d = norms_append norm f.0 x in
      let tight : norm A ≡ suc (norms norm f.0) = omega arith in
      go f.0 f.1 f.2 tight (cases_order (letter A) a) (λ g. spelled_first k (after A x b h) (after_known A x b h) (after_small A x b h) (let q = after_norms A x b h in omega arith) r g (omega arith))
    where
      go : (w : Word) → R A a ≡ Some w → reads R (w ++ x) r ≡ Some [] → norm A ≡ suc (norms norm w) → (letter A ≡ a) ⊎ ((letter A < a) ⊎ (a < letter A)) →
          (reads R (after A x b h) r ≡ Some [] → NoLater (spelled R letter k (after A x b h)) r) →
          (letter A < a) ⊎ ((letter A ≡ a) × NoLater (spelled R letter k (after A x b h)) r)
      go w d g tight (inr (inl c)) again = inl c
      go w d g tight (inr (inr c)) again =
          let z : norm A < suc (norms norm w) = subst (λ o. norm A < suc (norms norm (body o))) d (C.earliest A a b.0 (ap is_some d) c) in
          absurd (omega arith)
      go w d g tight (inl c) again =
          let is : body (R A (letter A)) ≡ w = ap (λ y. body (R A y)) c ∙ ap body d in
          inr (c, again (ap (λ y. reads R (y ++ x) r) is ∙ g))

pub certificate_law : {T : Type 0} (𝓣 : Group T) → CertificateLaw 𝓣
certificate_law 𝓣 = record {
  within = λ v M norm letter C w b h.
      let t = spelled_ends v M.count (words_of M) norm letter C (norms norm w) w b h refl in
      let l = t.1 in (
        record {
          taken = reads_taken 𝓣 M (spelled (words_of M) letter (norms norm w) w) w t.0;
          shortest = λ r k. let d = beyond v M.count (words_of M) norm letter C r w (taken_reads 𝓣 M r w k) in omega arith;
          earliest = λ r k e. spelled_first v M.count (words_of M) norm letter C (norms norm w) w b h refl r (taken_reads 𝓣 M r w k) (e ∙ l);
        },
        l,
      );
  beyond = λ v M norm letter C w s k. beyond v M.count (words_of M) norm letter C s w (taken_reads 𝓣 M s w k);
}
