-- How many rows there are.
--
-- The idea: the normal form of a symbol is a word of symbols that have no row, and not the empty one; so some symbol has no row.
--
-- Assumes nothing.
use Rattle.std.proofs.Common.{◌≡◌, ℕ, zero, suc, ◌+◌, ◌<◌, ◌≤◌, [], ◌∷◌, Some, None, Option, sym, refl, ap, ◌∙◌, arith}
use native.Mathlib.Decide.{ℕ_discrete}
use Rattle.tally.specs.Group.{Group}
use Rattle.grammar.specs.Meaning.{Word, Weighted, Each, Below}
use Rattle.norm.specs.Norms.{norms}
use Rattle.norm.proofs.Weights.{norms_append, each_append}
use Rattle.rows.specs.Sheets.{Sheet, unweighed, Normal, normal_nil, normal_keep, normal_put, Ranked, tell, marked}
use Rattle.rows.proofs.Normals.{Filled, normal_plain, normal_filled, row_shaped, rows_filled, ranked_total}

module _ {X : Type 0} where
  tell_le : (m : Option X) → tell m ≤ 1
  tell_le None = omega arith
  tell_le (Some m) = omega arith

  marked_le : (D : ℕ → Option X) (n : ℕ) → marked D n ≤ n
  marked_le D zero = omega arith
  marked_le D (suc n) = let h = marked_le D n in let k = tell_le (D n) in omega arith

  -- while one symbol has no row
  pub marked_lt : (D : ℕ → Option X) (n B : ℕ) → B < n → D B ≡ None → marked D n < n
  marked_lt D zero B l e = absurd (omega arith)
  marked_lt D (suc n) B l e = go (ℕ_discrete B n) (λ k. marked_lt D n B k e)
    where
      go : Dec (B ≡ n) → (B < n → marked D n < n) → marked D (suc n) < suc n
      go (yes h) ih = let k = marked_le D n in let d = ap tell (sym (ap D h) ∙ e) in omega arith
      go (no h) ih = let k = ih (omega arith) in let d = tell_le (D n) in omega arith

module _ {T : Type 0} (𝓣 : Group T) (D : Sheet T) where
  -- a normal form has the norm of its word, and known symbols
  pub norms_kept : (norm : ℕ → ℕ) → ((A : ℕ) (m : Weighted T) → D A ≡ Some m → norms norm m.word ≡ norm A) → {x z : Word} {s : T} → Normal 𝓣 D x z s → norms norm z ≡ norms norm x
  norms_kept norm h normal_nil = refl
  norms_kept norm h (normal_keep {A = A} e f) = ap (λ k. norm A + k) (norms_kept norm h f)
  norms_kept norm h (normal_put {A = A} {r = r} {m = m} e f) = norms_kept norm h f ∙ norms_append norm m.word r ∙ ap (λ k. k + norms norm r) (h A m e)

  pub below_kept : (n : ℕ) → ((A : ℕ) (m : Weighted T) → D A ≡ Some m → Below n m.word) → {x z : Word} {s : T} → Normal 𝓣 D x z s → Below n x → Below n z
  below_kept n h normal_nil k = k
  below_kept n h (normal_keep e f) k = (k.0, below_kept n h f k.1)
  below_kept n h (normal_put {A = A} {r = r} {m = m} e f) k = below_kept n h f (each_append (λ B. B < n) m.word r (h A m e) k.1)

  pub fewer : (n : ℕ) (norm : ℕ → ℕ) → ((A : ℕ) → A < n → 1 ≤ norm A) → Ranked n norm (unweighed D) → 1 ≤ n → marked D n < n
  fewer n norm positive ranked some =
      let f = ranked_total n norm positive 𝓣 D ranked (0 ∷ []) in
      let known = below_kept n (λ A m e. (row_shaped n norm positive 𝓣 D ranked A m e).below) f.2 (omega arith, tt) in
      let plain = normal_plain 𝓣 D f.2 in
      let filled = normal_filled 𝓣 D (rows_filled n norm positive 𝓣 D ranked) f.2 tt in
      at f.0 known plain filled
    where
      at : (z : Word) → Below n z → Each (λ A. D A ≡ None) z → Filled z → marked D n < n
      at [] k p h = absurd h
      at (B ∷ z) k p h = marked_lt D n B k.0 p.0
