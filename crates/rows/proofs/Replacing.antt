-- Replacement: the normal form of a word from those of its symbols, and what one more row changes in it.
--
-- The idea: a normal form names no symbol with a row, so one more row changes it only where the row's symbol stands, and there it is the row's normal form that is put. In its own normal form the row's symbol does not stand, since ranks fall along rows.
--
-- Assumes nothing.
use Rattle.std.proofs.Common.{◌≡◌, ℕ, ◌+◌, ◌<◌, ◌≤◌, ◌↔◌, [], ◌∷◌, ◌++◌, length, Some, None, sym, refl, ap, ◌∙◌, append_assoc, append-nil, eq-eqb, ne_eqb, arith}
use native.Mathlib.Decide.{ℕ_discrete}
use Rattle.std.specs.Option.{option_map}
use Rattle.tally.specs.Group.{Group}
use Rattle.grammar.specs.Meaning.{Word, Weighted, Each, Below}
use Rattle.grammar.proofs.Options.{none_some}
use Rattle.norm.specs.Norms.{norms}
use Rattle.norm.proofs.Weights.{norms_append, each_append}
use Rattle.rows.specs.Sheets.{Sheet, unweighed, Normal, normal_nil, normal_keep, normal_put, Joined, Shaped, Ranked, Extends}
use Rattle.rows.specs.Replacing.{Replacing, put, gain, just, after, Normals, Grown}
use Rattle.rows.proofs.Normals.{from, to, by, normal_once, normal_append, Falls, each_map, rank, shaped_falls}
use Rattle.rows.proofs.Sound.{left_comm}
use Rattle.rows.proofs.Marks.{below_kept}

pub put_append : {T : Type 0} (ρ : Replacing T) (x y : Word) → put ρ (x ++ y) ≡ put ρ x ++ put ρ y
put_append ρ [] y = refl
put_append ρ (A ∷ x) y = ap (λ w. (ρ A).word ++ w) (put_append ρ x y) ∙ sym (append_assoc (ρ A).word (put ρ x) (put ρ y))

module _ {T : Type 0} (𝓣 : Group T) where
  pub gain_append : (ρ : Replacing T) (x y : Word) → gain 𝓣 ρ (x ++ y) ≡ 𝓣.add (gain 𝓣 ρ x) (gain 𝓣 ρ y)
  gain_append ρ [] y = sym (𝓣.left (gain 𝓣 ρ y))
  gain_append ρ (A ∷ x) y = ap (𝓣.add (ρ A).tally) (gain_append ρ x y) ∙ sym (𝓣.assoc (ρ A).tally (gain 𝓣 ρ x) (gain 𝓣 ρ y))

  -- the normal form of a word, symbol by symbol
  pub normal_word : (D : Sheet T) (n : ℕ) (ρ : Replacing T) → Normals 𝓣 D n ρ → (x : Word) → Below n x → Normal 𝓣 D x (put ρ x) (gain 𝓣 ρ x)
  normal_word D n ρ f [] h = normal_nil
  normal_word D n ρ f (A ∷ x) h = normal_append 𝓣 D (f A h.0) (normal_word D n ρ f x h.1)

  -- normal forms decide whether two steps are joined
  pub joined_decides : (D : Sheet T) (s : T) (p q : Weighted T) (z y : Word) (c d : T) → Normal 𝓣 D p.word z c → Normal 𝓣 D q.word y d →
      Joined 𝓣 D s p q ↔ ((z ≡ y) × (𝓣.add p.tally c ≡ 𝓣.add (𝓣.add s q.tally) d))
  joined_decides D s p q z y c d f h = (there, back)
    where
      there : Joined 𝓣 D s p q → (z ≡ y) × (𝓣.add p.tally c ≡ 𝓣.add (𝓣.add s q.tally) d)
      there j =
          let one = normal_once 𝓣 D f j.normal_one in
          let two = normal_once 𝓣 D h j.normal_two in
          (one.0 ∙ sym two.0, ap (𝓣.add p.tally) one.1 ∙ j.even ∙ ap (𝓣.add (𝓣.add s q.tally)) (sym two.1))

      back : (z ≡ y) × (𝓣.add p.tally c ≡ 𝓣.add (𝓣.add s q.tally) d) → Joined 𝓣 D s p q
      back e = record { word = y; one = c; two = d; normal_one = to 𝓣 D e.0 f; normal_two = h; even = e.1 }

  module _ (D E : Sheet T) (A : ℕ) (m : Weighted T) (grown : Grown D A m E) where
    pub grown_extends : Extends D E
    grown_extends C k e = go (ℕ_discrete C A)
      where
        go : Dec (C ≡ A) → E C ≡ Some k
        go (yes h) = absurd (none_some (sym grown.free ∙ ap D (sym h) ∙ e))
        go (no h) = grown.others C h ∙ e

    -- a normal form without A stays one
    pub normal_without : {x z : Word} {s : T} → Normal 𝓣 D x z s → Each (λ C. ¬ (C ≡ A)) z → Normal 𝓣 E x z s
    normal_without normal_nil h = normal_nil
    normal_without (normal_keep {A = C} e f) h = normal_keep (grown.others C h.0 ∙ e) (normal_without f h.1)
    normal_without (normal_put {A = C} {m = k} e f) h = normal_put (grown_extends C k e) (normal_without f h)

    module _ (z : Word) (s : T) (f : Normal 𝓣 E m.word z s) where
      abbrev pub row_put : Replacing T
      row_put = just 𝓣 A (record { word = z; tally = 𝓣.add m.tally s })

      symbol_grown : (C : ℕ) → D C ≡ None → Normal 𝓣 E (C ∷ []) (row_put C).word (row_put C).tally
      symbol_grown C free = go (ℕ_discrete C A)
        where
          go : Dec (C ≡ A) → Normal 𝓣 E (C ∷ []) (row_put C).word (row_put C).tally
          go (yes h) = rw (eq-eqb C A h) (normal_put {r = []} (ap E h ∙ grown.here) (from 𝓣 E (sym (append-nil m.word)) f))
          go (no h) = rw (ne_eqb C A h) (normal_keep (grown.others C h ∙ free) normal_nil)

      -- what was normal goes on with the row put for A
      pub normal_grown : {x y : Word} {t : T} → Normal 𝓣 D x y t → Normal 𝓣 E x (put row_put y) (𝓣.add t (gain 𝓣 row_put y))
      normal_grown normal_nil = by 𝓣 E (sym (𝓣.left 𝓣.zero)) normal_nil
      normal_grown (normal_keep {A = C} {z = y} {s = t} e g) =
          by 𝓣 E (left_comm 𝓣 (row_put C).tally t (gain 𝓣 row_put y)) (normal_append 𝓣 E (symbol_grown C e) (normal_grown g))
      normal_grown (normal_put {A = C} {z = y} {s = t} {m = k} e g) =
          by 𝓣 E (sym (𝓣.assoc k.tally t (gain 𝓣 row_put y))) (normal_put (grown_extends C k e) (normal_grown g))

  -- a rank that falls along rows falls along normal forms
  pub ranks_kept : (D : Sheet T) (ranks : ℕ → ℕ) → Falls D ranks → (k : ℕ) → {x z : Word} {s : T} → Normal 𝓣 D x z s →
      Each (λ B. ranks B < k) x → Each (λ B. ranks B < k) z
  ranks_kept D ranks falls k normal_nil h = h
  ranks_kept D ranks falls k (normal_keep e f) h = (h.0, ranks_kept D ranks falls k f h.1)
  ranks_kept D ranks falls k (normal_put {A = C} {r = r} {m = m} e f) h =
      ranks_kept D ranks falls k f (each_append (λ B. ranks B < k) m.word r (each_map (λ B l. omega (arith, h.0)) m.word (falls C m e)) h.1)

module _ {T : Type 0} (𝓣 : Group T) (n : ℕ) (norm : ℕ → ℕ) where
  shaped : (D : Sheet T) → Ranked n norm (unweighed D) → (A : ℕ) (m : Weighted T) → D A ≡ Some m → Shaped n norm A m.word
  shaped D ranked A m e = ranked A m.word (ap (option_map (λ (k : Weighted T). k.word)) e)

  -- a normal form has the norm of its word
  pub norm_kept : (D : Sheet T) → Ranked n norm (unweighed D) → {x z : Word} {s : T} → Normal 𝓣 D x z s → norms norm z ≡ norms norm x
  norm_kept D ranked normal_nil = refl
  norm_kept D ranked (normal_keep {A = A} e f) = ap (λ k. norm A + k) (norm_kept D ranked f)
  norm_kept D ranked (normal_put {A = A} {r = r} {m = m} e f) =
      norm_kept D ranked f ∙ norms_append norm m.word r ∙ ap (λ k. k + norms norm r) (shaped D ranked A m e).weighs

  -- and names known symbols only
  pub known_kept : (D : Sheet T) → Ranked n norm (unweighed D) → {x z : Word} {s : T} → Normal 𝓣 D x z s → Below n x → Below n z
  known_kept D ranked f h = below_kept 𝓣 D n (λ A m e. (shaped D ranked A m e).below) f h

  module _ (positive : (A : ℕ) → A < n → 1 ≤ norm A) where
    length_norms : (w : Word) → Below n w → length w ≤ norms norm w
    length_norms [] h = omega arith
    length_norms (A ∷ w) h = let p = positive A h.0 in let l = length_norms w h.1 in omega arith

    -- so it has at most as many symbols as that norm
    pub short_kept : (D : Sheet T) → Ranked n norm (unweighed D) → {x z : Word} {s : T} → Normal 𝓣 D x z s → Below n x → length z ≤ norms norm x
    short_kept D ranked {z = z} f h = let l = length_norms z (known_kept D ranked f h) in let e = norm_kept D ranked f in omega arith

    module _ (D E : Sheet T) (ranked : Ranked n norm (unweighed E)) (A : ℕ) (m : Weighted T) (grown : Grown D A m E) where
      falls : Falls D (rank n norm)
      falls C k e =
          let sh = shaped E ranked C k (grown_extends 𝓣 D E A m grown C k e) in
          shaped_falls n norm positive C k.word sh

      -- the row's symbol does not stand in the row's normal form
      pub row_unused : {z : Word} {s : T} → Normal 𝓣 D m.word z s → Normal 𝓣 E m.word z s
      row_unused {z = z} f =
          let lower = shaped_falls n norm positive A m.word (shaped E ranked A m grown.here) in
          let low = ranks_kept 𝓣 D (rank n norm) falls (rank n norm A) f lower in
          normal_without 𝓣 D E A m grown f (each_map (λ C l e. omega (arith, l, ap (rank n norm) e)) z low)

      -- kept normal forms, with the row put for its symbol
      pub normals_grown : (k : ℕ) (ρ : Replacing T) → Normals 𝓣 D k ρ → (z : Word) (s : T) → Normal 𝓣 D m.word z s →
          Normals 𝓣 E k (after 𝓣 (just 𝓣 A (record { word = z; tally = 𝓣.add m.tally s })) ρ)
      normals_grown k ρ f z s g C l = normal_grown 𝓣 D E A m grown z s (row_unused g) (f C l)
