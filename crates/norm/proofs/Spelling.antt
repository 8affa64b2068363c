-- The first input of a word, letter by letter.
--
-- The idea: following the first letters uses up one of the norm with each letter, so the letters of a concatenation are those of its parts.
--
-- Assumes nothing.
use Rattle.std.proofs.Common.{◌≡◌, ℕ, zero, suc, ◌+◌, ◌<◌, ◌≤◌, List, [], ◌∷◌, ◌++◌, length, get_or, take, drop, set, sym, refl, ap, ◌∙◌, append_assoc, arith, length-append, length-drop, length-set, take_all}
use Rattle.std.proofs.lemmas.List.{take_more, take_more_set, drop_more}
use Rattle.grammar.specs.Meaning.{Word, Input, Below}
use Rattle.norm.specs.Words.{Words, body}
use Rattle.norm.specs.Norms.{norms, firsts}
use Rattle.norm.specs.Certified.{Certified, spelled}
use Rattle.norm.specs.Skeletons.{rule_words, norm_at, letter_at, first_at}
use Rattle.norm.specs.declared.skeleton.Skeleton.{Skeleton}
use Rattle.norm.proofs.Weights.{norms_append, each_append, each_from_places}

-- what a skeleton holds is a certificate, and no norm passes its limit
module _ (k : Skeleton) where
  abbrev count : ℕ
  count = k.words.count

  abbrev R : Words
  R = rule_words k

  pub skeleton_known : (A a : ℕ) → Below count (body (R A a))
  skeleton_known A a = each_from_places (λ B. B < count) (body (R A a)) (k.words.known A a)

  pub skeleton_certified : Certified 64 count R (norm_at k) (letter_at k)
  skeleton_certified = record {
    below = k.below;
    there = λ A h _. k.there A h;
    attained = λ A h _. k.attained A h;
    earliest = λ A a h e l. k.earliest A a e l;
    known = skeleton_known;
  }

  -- after one letter
  abbrev after : ℕ → Word → Word
  after A r = body (R A (letter_at k A)) ++ r

  after_below : (A : ℕ) (r : Word) → Below count r → Below count (after A r)
  after_below A r b = each_append (λ B. B < count) (body (R A (letter_at k A))) r (skeleton_known A (letter_at k A)) b

  after_norms : (A : ℕ) (r : Word) → A < count → norms (norm_at k) (A ∷ r) ≡ suc (norms (norm_at k) (after A r))
  after_norms A r h = let e = k.attained A h in let d = norms_append (norm_at k) (body (R A (letter_at k A))) r in omega arith

  -- a word has at most as many symbols as its norm
  pub long_enough : (w : Word) → Below count w → length w ≤ norms (norm_at k) w
  long_enough [] b = omega arith
  long_enough (A ∷ w) b = let e = k.attained A b.0 in let h = long_enough w b.1 in omega arith

  pub spelled_append : (n j : ℕ) (x y : Word) → Below count x → norms (norm_at k) x ≡ n → spelled R (letter_at k) (n + j) (x ++ y) ≡ spelled R (letter_at k) n x ++ spelled R (letter_at k) j y
  spelled_append zero j [] y b e = ap (λ i. spelled R (letter_at k) i y) (let z : 0 + j ≡ j = omega arith in z)
  spelled_append zero j (A ∷ x) y b e = let a = k.attained A b.0 in absurd (omega arith)
  spelled_append (suc n) j [] y b e = absurd (omega arith)
  spelled_append (suc n) j (A ∷ x) y b e =
      let d = after_norms A x b.0 in
      let s : suc n + j ≡ suc (n + j) = omega arith in
      ap (λ i. spelled R (letter_at k) i (A ∷ (x ++ y))) s
      ∙ ap {B = Input} (λ l. letter_at k A ∷ l) (ap (spelled R (letter_at k) (n + j)) (sym (append_assoc (body (R A (letter_at k A))) x y)) ∙ spelled_append n j (after A x) y (after_below A x b.1) (omega arith))

  pub firsts_spelled : (w : Word) → Below count w → firsts (first_at k) w ≡ spelled R (letter_at k) (norms (norm_at k) w) w
  firsts_spelled [] b = refl
  firsts_spelled (A ∷ w) b =
      ap (λ l. first_at k A ++ l) (firsts_spelled w b.1)
      ∙ sym (spelled_append (norm_at k A) (norms (norm_at k) w) (A ∷ []) w (b.0, tt) (omega arith))

  -- A buffer of n cells that is filled with the first input of w: i letters are written, x is left.
  module _ (w : Word) (n : ℕ) where
    abbrev target : Input
    target = spelled R (letter_at k) n w

    pub record Spelt (i : ℕ) (x : Word) (out : List ℕ) : Type 0 where
      pub below : Below count x
      pub left : norms (norm_at k) x + i ≡ n
      pub rest : drop i target ≡ spelled R (letter_at k) (norms (norm_at k) x) x
      pub done : take i out ≡ take i target
      pub size : length out ≡ n

    pub spelt_none : (out : List ℕ) → Below count w → norms (norm_at k) w ≡ n → length out ≡ n → Spelt 0 w out
    spelt_none out b e l = record { below = b; left = omega arith; rest = ap (λ j. spelled R (letter_at k) j w) (sym e); done = refl; size = l }

    -- something is left while cells are
    pub spelt_left : (i : ℕ) (x : Word) (out : List ℕ) → Spelt i x out → i < n → ¬ (x ≡ [])
    spelt_left i x out s h e = let l = s.left in let d = ap (norms (norm_at k)) e in omega arith

    pub spelt_room : (i A : ℕ) (r : Word) (out : List ℕ) → Spelt i (A ∷ r) out → length (body (R A (letter_at k A))) + length r ≤ n
    spelt_room i A r out s =
        let l = s.left in
        let h = long_enough (after A r) (after_below A r s.below.1) in
        let d = after_norms A r s.below.0 in
        let e = length-append (body (R A (letter_at k A))) r in
        omega arith

    pub spelt_more : (i A : ℕ) (r : Word) (out : List ℕ) → Spelt i (A ∷ r) out → i < n → Spelt (i + 1) (after A r) (set out i (letter_at k A))
    spelt_more i A r out s h = record {
      below = after_below A r s.below.1;
      left = let e = d in let f = s.left in omega arith;
      rest = tail;
      done = take_more_set out i (letter_at k A) (omega arith) ∙ ap (λ l. l ++ (letter_at k A ∷ [])) s.done ∙ ap (λ a. take i target ++ (a ∷ [])) (sym head) ∙ sym (take_more target i 0 long);
      size = length-set out i (letter_at k A) ∙ s.size;
    }
      where
        d : norms (norm_at k) (A ∷ r) ≡ suc (norms (norm_at k) (after A r))
        d = after_norms A r s.below.0

        opened : drop i target ≡ letter_at k A ∷ spelled R (letter_at k) (norms (norm_at k) (after A r)) (after A r)
        opened = s.rest ∙ ap (λ j. spelled R (letter_at k) j (A ∷ r)) d

        long : i < length target
        long = let e = ap length opened in let f = length-drop i target in omega arith

        head : get_or target i 0 ≡ letter_at k A
        head = let e = sym (drop_more target i 0 long) ∙ opened in cc

        tail : drop (i + 1) target ≡ spelled R (letter_at k) (norms (norm_at k) (after A r)) (after A r)
        tail = let e = sym (drop_more target i 0 long) ∙ opened in cc

    pub spelt_all : (i : ℕ) (x : Word) (out : List ℕ) → Spelt i x out → n ≤ i → out ≡ target
    spelt_all i x out s h =
        let l = s.left in
        let z : norms (norm_at k) x ≡ 0 = omega arith in
        let size = s.size in
        let long : length target ≤ i = let e = ap length (s.rest ∙ ap (λ j. spelled R (letter_at k) j x) z) in let f = length-drop i target in omega arith in
        sym (take_all i out (omega arith)) ∙ s.done ∙ take_all i target long
