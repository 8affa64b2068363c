-- The rows that a comparison writes: they keep the order of rows, and each is one more.
--
-- The idea: what is left of a symbol makes up with the earlier one its norm, so the row has the weight that it should; and it is one symbol only where nothing is left, which then is earlier by its number.
--
-- Assumes nothing.
use Rattle.std.proofs.Common.{◌≡◌, ℕ, zero, suc, ◌+◌, ◌<◌, ◌≤◌, [], ◌∷◌, sym, ap, ◌∙◌, inl, inr, arith}
use native.Mathlib.Decide.{ℕ_discrete}
use Rattle.std.specs.Option.{option_map}
use Rattle.tally.specs.Group.{Group}
use Rattle.grammar.specs.Meaning.{Word, Input, Weighted, Meaning}
use Rattle.grammar.proofs.Options.{some_same}
use Rattle.norm.specs.Norms.{norms, Earlier}
use Rattle.norm.specs.Laws.{NormLaws}
use Rattle.rows.specs.Sheets.{Sheet, unweighed, Shaped, Ranked, tell, marked}
use Rattle.rows.specs.Replacing.{Grown}
use Rattle.witness.specs.Forks.{Fork, row_word}
use Rattle.witness.specs.History.{Written, History, none_written, one_written, HistoryLaw}

module _ {T : Type 0} (D E : Sheet T) (A : ℕ) (m : Weighted T) (grown : Grown D A m E) where
  -- how many rows there are below a number
  marked_below : (n : ℕ) → n ≤ A → marked E n ≡ marked D n
  marked_below zero l = omega arith
  marked_below (suc n) l = let h = marked_below n (omega arith) in let e = ap tell (grown.others n (λ e. omega arith)) in omega arith

  pub marked_grown : (n : ℕ) → A < n → marked E n ≡ suc (marked D n)
  marked_grown zero l = absurd (omega arith)
  marked_grown (suc n) l = go (ℕ_discrete n A) (λ k. marked_grown n k)
    where
      go : Dec (n ≡ A) → (A < n → marked E n ≡ suc (marked D n)) → marked E (suc n) ≡ suc (marked D (suc n))
      go (yes h) ih =
          let k = marked_below n (omega arith) in
          let d = ap tell (ap D h ∙ grown.free) in
          let e = ap tell (ap E h ∙ grown.here) in
          omega arith
      go (no h) ih = let e = ap tell (grown.others n h) in let k = ih (below (λ e. h (sym e))) in omega arith
        where
          below : ¬ (A ≡ n) → A < n
          below f = omega (arith, f)

module _ {T : Type 0} (𝓣 : Group T) (M : Meaning T) (norm : ℕ → ℕ) (first : ℕ → Input) (N : NormLaws 𝓣 M norm first) where
  row_shaped : (F : Fork 𝓣 M norm first) → Shaped M.count norm F.later (row_word 𝓣 M norm first F)
  row_shaped F = record {
    symbol = F.later_known;
    below = (F.earlier_known, N.run_below (F.later ∷ []) (first F.earlier) F.left (F.later_known, tt) F.runs);
    weighs = F.weighs;
    lower = lower;
  }
    where
      lower : (C : ℕ) → row_word 𝓣 M norm first F ≡ C ∷ [] → C < F.later
      lower C e =
          let same : F.earlier ≡ C = cc in
          let none : F.left.word ≡ [] = cc in
          at same (ap (norms norm) none) F.order
        where
          at : F.earlier ≡ C → norms norm F.left.word ≡ 0 → Earlier norm F.earlier F.later → C < F.later
          at same none (inl l) = let w = F.weighs in absurd (omega arith)
          at same none (inr l) = let h = l.1 in omega arith

  module _ (x₀ y₀ : Word) where
    written_ranked : (D E : Sheet T) → Ranked M.count norm (unweighed D) → Written 𝓣 M norm first x₀ y₀ D E → Ranked M.count norm (unweighed E)
    written_ranked D E ranked W A w e = go (ℕ_discrete A W.apart.fork.later)
      where
        go : Dec (A ≡ W.apart.fork.later) → Shaped M.count norm A w
        go (yes h) =
            let row = ap (option_map (λ (m : Weighted T). m.word)) (ap E h ∙ W.grown.here) in
            let same : row_word 𝓣 M norm first W.apart.fork ≡ w = some_same (sym row ∙ e) in
            rw (h, ← same) (row_shaped W.apart.fork)
        go (no h) = ranked A w (ap (option_map (λ (m : Weighted T). m.word)) (sym (W.grown.others A h)) ∙ e)

    pub history_ranked : (D : Sheet T) → Ranked M.count norm (unweighed D) → {k : ℕ} {E : Sheet T} → History 𝓣 M norm first x₀ y₀ D k E → Ranked M.count norm (unweighed E)
    history_ranked D ranked none_written = ranked
    history_ranked D ranked (one_written {E = E} {E' = E'} H W) = written_ranked E E' (history_ranked D ranked H) W

    history_marked : (D : Sheet T) → {k : ℕ} {E : Sheet T} → History 𝓣 M norm first x₀ y₀ D k E → marked E M.count ≡ k + marked D M.count
    history_marked D none_written = omega arith
    history_marked D (one_written {E = E} {E' = E'} H W) =
        let h = history_marked D H in
        let g = marked_grown E E' W.apart.fork.later _ W.grown M.count W.apart.fork.later_known in
        omega arith

    pub history : HistoryLaw 𝓣 M norm first x₀ y₀
    history D E k ranked H = (history_ranked D ranked H, history_marked D H)
