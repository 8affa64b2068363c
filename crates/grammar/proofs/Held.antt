-- The word that a stack holds, as symbols come and go. Assumes nothing.
use Rattle.std.proofs.Common.{◌≡◌, ℕ, suc, ◌+◌, ◌-◌, ◌<◌, ◌≤◌, true, false, cond, ltb, List, [], ◌∷◌, ◌++◌, length, get_or, drop, set, replicate, sym, ap, ◌∙◌, inl, inr, add-one, arith, length-append, length-drop, drop-cons, le-ltb, lt-ltb}
use lib.ListN.{length-replicate}
use Rattle.std.proofs.lemmas.List.{drop-set, drop_all}
use Rattle.std.proofs.lemmas.Bool.{cases_lt}
use Rattle.grammar.specs.WordStacks.{put_before}

module _ (N : ℕ) (cells : List ℕ) (top : ℕ) (room : length cells ≡ N) (within : top ≤ N) where
  pub held_length : N - top ≡ length (drop top cells)
  held_length = simp length-drop (omega arith)

  -- written just below the top
  pub held_push : (A : ℕ) → 0 < top → drop (top - 1) (set cells (top - 1) A) ≡ cond (ltb (length (drop top cells)) N) (A ∷ drop top cells) (drop top cells)
  held_push A h =
      let next : top - 1 + 1 ≡ top = omega arith in
      let few : length (drop top cells) < N = simp length-drop (omega arith) in
      drop-set cells (top - 1) A (omega arith) ∙ ap {B = List ℕ} (λ k. A ∷ drop k cells) next ∙ rw (lt-ltb (length (drop top cells)) N few)

  pub held_pop : top < N → drop top cells ≡ get_or cells top 0 ∷ drop (top + 1) cells
  held_pop h = rw add-one (drop-cons cells top 0 (omega arith))

  pub pop_none : N ≤ top → false ≡ ltb 0 (length (drop top cells))
  pop_none h = sym (le-ltb 0 (length (drop top cells)) (simp length-drop (omega arith)))

  pub pop_some : top < N → true ≡ ltb 0 (length (drop top cells))
  pop_some h = sym (lt-ltb 0 (length (drop top cells)) (simp length-drop (omega arith)))

-- a stack of fresh cells holds nothing
pub held_none : (N : ℕ) → drop {A = ℕ} N (replicate N 0) ≡ []
held_none N = drop_all {X = ℕ} N (replicate N 0) (omega (arith, length-replicate {A = ℕ} N 0))

-- a stack holds no more than it has room for
pub held_few : (N : ℕ) (cells : List ℕ) (top : ℕ) → length cells ≡ N → length (drop top cells) ≤ N
held_few N cells top room = simp length-drop (omega arith)

-- a word that fits is put in front whole
pub fits : (N : ℕ) (w h x : List ℕ) → x ≡ put_before N w h → length w + length h ≤ N → x ≡ w ++ h
fits N w h x e room = let none : length w + length h - N ≡ 0 = omega arith in e ∙ ap {B = List ℕ} (λ n. drop n w ++ h) none

-- A word w goes in front of h from its last symbol on, until there is no more room: x is held when the
-- symbols of w from k on have been tried.
pub record Put (N : ℕ) (w h : List ℕ) (k : ℕ) (x : List ℕ) : Type 0 where
  pub room : length w + length h - N ≤ k → x ≡ drop k w ++ h
  pub full : k ≤ length w + length h - N → x ≡ put_before N w h

pub put_none : (N : ℕ) (w h : List ℕ) (n : ℕ) → length w ≤ n → Put N w h n h
put_none N w h n e = record {
  room = λ _. sym (ap (λ v. v ++ h) (drop_all n w e));
  full = λ l. sym (ap (λ v. v ++ h) (drop_all (length w + length h - N) w (omega arith)));
}

module _ (N : ℕ) (w h x y : List ℕ) (k A d : ℕ) (some : 0 < k) (within : k ≤ length w) (few : length h ≤ N) (was : Put N w h k x) (read : A ≡ get_or w (k - 1) d)
    (pushed : y ≡ cond (ltb (length x) N) (A ∷ x) x) where
  -- there is room for one more
  more : length w + length h - N < k → y ≡ drop (k - 1) w ++ h
  more m =
      let is = was.room (omega arith) in
      let long : length (drop k w ++ h) ≡ length w - k + length h = simp (length-append, length-drop) in
      let size : length x ≡ length (drop k w ++ h) = ap length is in
      let less : length x < N = omega arith in
      let next : suc (k - 1) ≡ k = omega arith in
      let front : drop (k - 1) w ≡ A ∷ drop k w = rw read (drop-cons w (k - 1) d (omega arith) ∙ ap (λ j. get_or w (k - 1) d ∷ drop j w) next) in
      pushed ∙ rw (lt-ltb (length x) N less) (rw (front, is))

  -- there is none
  stays : k ≤ length w + length h - N → y ≡ put_before N w h
  stays l =
      let is = was.full l in
      let m : ℕ = length w + length h - N in
      let long : length (drop m w ++ h) ≡ length w - m + length h = simp (length-append, length-drop) in
      let size : length x ≡ length (drop m w ++ h) = ap length is in
      let all : N ≤ length x = omega arith in
      pushed ∙ rw (le-ltb (length x) N all) is

  pub put_more : Put N w h (k - 1) y
  put_more = record {
    room = λ m. more (omega arith);
    full = λ l. elim (cases_lt (length w + length h - N) k) [ inl b ↦ more b ∙ ap {B = List ℕ} (λ n. drop n w ++ h) (let e : k - 1 ≡ length w + length h - N = omega arith in e) | inr a ↦ stays a ];
  }
