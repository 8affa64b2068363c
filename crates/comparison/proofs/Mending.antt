-- A row that is read from a fork. Assumes nothing.
use Rattle.std.proofs.Common.{◌≡◌, ℕ, ◌+◌, ◌*◌, ◌-◌, ◌^◌, ◌<◌, ◌≤◌, min, length, ltb, if◌then◌else◌, option_map, [], ◌∷◌, ◌++◌, Some, None, Option, refl, ap, ◌∙◌, subst, lt-ltb, length-append, arith}
use Rattle.tally.specs.Group.{Group}
use Rattle.grammar.specs.Meaning.{Word, Input, Weighted, Below, word_of}
use Rattle.grammar.specs.Takes.{behind, step}
use Rattle.grammar.specs.Places.{index}
use Rattle.grammar.proofs.Options.{none_some, some_same}
use Rattle.std.specs.List.{slice_get}
use Rattle.norm.specs.Words.{ran, onward, raised}
use Rattle.norm.specs.Norms.{norms}
use Rattle.norm.specs.Skeletons.{norm_at, summed}
use Rattle.norm.specs.declared.skeleton.Skeleton.{Skeleton}
use Rattle.norm.proofs.Stored.{body_short}
use Rattle.survey.specs.Surveyed.{surveyed, words_in, norm_in, first_in, run_of}
use Rattle.survey.specs.WellSurveyed.{weighed_word}
use Rattle.survey.specs.declared.run.Run.{Run}
use Rattle.survey.specs.declared.table.Survey.{Survey}
use Rattle.survey.proofs.Holding.{laws_in, normed_in}
use Rattle.agreement.proofs.ShortRuns.{symbol_fits}

module _ {T : Type 0} (𝓣 : Group T) (s : Survey T) where
  pub rule_short : (A a : ℕ) → length (word_of ((surveyed s).rule A a)) ≤ 4
  rule_short A a = weighed_word (λ (x : Word). length x ≤ 4) (words_in s A a) (slice_get s.tallies (index A a)) (omega arith) (body_short s.skeleton.words.count s.skeleton.words.words A a)

  step_short : (w : Word) (a : ℕ) (m : Weighted T) → step (surveyed s) w a ≡ Some m → length m.word ≤ length w + 3
  step_short [] a m e = absurd (none_some e)
  step_short (A ∷ r) a m e = go ((surveyed s).rule A a) refl e
    where
      go : (o : Option (Weighted T)) → (surveyed s).rule A a ≡ o → behind r o ≡ Some m → length m.word ≤ length (A ∷ r) + 3
      go None d f = absurd (none_some f)
      go (Some k) d f =
          let is : length (k.word ++ r) ≡ length m.word = ap (λ (x : Weighted T). length x.word) (some_same f) in
          let small : length k.word ≤ 4 = subst (λ o. length (word_of o) ≤ 4) d (rule_short A a) in
          let split = length-append k.word r in
          omega arith

  -- a run leaves at most three symbols more for each letter
  pub run_short : (t : Input) (w : Word) (m : Weighted T) → ran 𝓣 (surveyed s) w t ≡ Some m → length m.word ≤ length w + 3 * length t
  run_short [] w m e = let h = ap (λ (x : Weighted T). length x.word) (some_same e) in omega arith
  run_short (a ∷ t) w m e = go (step (surveyed s) w a) refl e (λ k x. run_short t k.word x)
    where
      end : (k : Weighted T) (o : Option (Weighted T)) → ((x : Weighted T) → o ≡ Some x → length x.word ≤ length k.word + 3 * length t) → raised 𝓣 k.tally o ≡ Some m → length m.word ≤ length k.word + 3 * length t
      end k None ih f = absurd (none_some f)
      end k (Some x) ih f = let h = ih x refl in let i = ap (λ (y : Weighted T). length y.word) (some_same f) in omega arith

      go : (o : Option (Weighted T)) → step (surveyed s) w a ≡ o → onward 𝓣 (λ x. ran 𝓣 (surveyed s) x t) o ≡ Some m →
          ((k x : Weighted T) → ran 𝓣 (surveyed s) k.word t ≡ Some x → length x.word ≤ length k.word + 3 * length t) → length m.word ≤ length w + 3 * length (a ∷ t)
      go None d f ih = absurd (none_some f)
      go (Some k) d f ih = let h = step_short w a k d in let i = end k (ran 𝓣 (surveyed s) k.word t) (ih k) f in omega arith

  module _ (A B : ℕ) (known_A : A < s.skeleton.words.count) (known_B : B < s.skeleton.words.count) where
    -- the first input of B is run from A
    pub read_is : (first : Input) → first ≡ first_in s B → (o : Option (Run T)) →
        (length (A ∷ []) + 3 * length first ≤ 512 → option_map run_of o ≡ ran 𝓣 (surveyed s) (A ∷ []) first) → option_map run_of o ≡ ran 𝓣 (surveyed s) (A ∷ []) (first_in s B)
    read_is first e o runs = runs (symbol_fits 𝓣 s B known_B first e) ∙ ap (ran 𝓣 (surveyed s) (A ∷ [])) e

    module _ (m : Weighted T) (read : ran 𝓣 (surveyed s) (A ∷ []) (first_in s B) ≡ Some m) where
      left_known : Below s.skeleton.words.count m.word
      left_known = (laws_in s 𝓣).run_below (A ∷ []) (first_in s B) m (known_A, tt) read

      left_short : length m.word < 512
      left_short =
          let h = run_short (first_in s B) (A ∷ []) m read in
          let e = (normed_in s 𝓣).size B known_B in
          let l = s.skeleton.small B known_B in
          omega arith

      -- B goes in front of what is left
      pub pushed : (x : Word) → x ≡ (if ltb (length m.word) 512 then B ∷ m.word else m.word) → x ≡ B ∷ m.word
      pushed x e = rw (lt-ltb (length m.word) 512 left_short) at e

      -- which is short where it has A's norm
      pub weighed_short : norms (norm_in s) (B ∷ m.word) ≡ norm_in s A → length (B ∷ m.word) ≤ 64
      weighed_short e =
          let h = (laws_in s 𝓣).long_enough (B ∷ m.word) (known_B, left_known) in
          let l = s.skeleton.small A known_A in
          omega arith

    pub cut_sum : (x : Word) (k : ℕ) → summed s.skeleton x ≡ k → k ≡ norm_in s A → norms (norm_in s) x ≡ norm_in s A
    cut_sum x k e f = let l = s.skeleton.small A known_A in omega arith

    -- the sum that was compared is the norm of the row's word
    pub weighs_alike : (k : Skeleton) (w x : Word) (n j : ℕ) → k ≡ s.skeleton → x ≡ B ∷ w → n ≡ summed k x → j ≡ norm_at k A →
        (n ≡ j → norm_in s B + norms (norm_in s) w ≡ norm_in s A) × (norm_in s B + norms (norm_in s) w ≡ norm_in s A → n ≡ j)
    weighs_alike k w x n j is word sum norm =
        let small = s.skeleton.small A known_A in
        let n_is : n ≡ min (norm_in s B + norms (norm_in s) w) (2 ^ 64 - 1) = sum ∙ ap (λ h. summed h x) is ∙ ap (summed s.skeleton) word in
        let j_is : j ≡ norm_in s A = norm ∙ ap (λ h. norm_at h A) is in
        (λ e. omega arith, λ e. omega arith)
