-- The members of lists, and lists that rise.
--
-- The idea: two lists that rise by one order and have the same members are the same list: the first of either comes before
-- all the others of both, so the first two are one.
--
-- In z xs        z is a member of xs
-- gathered f n   the lists f 0, f 1 and so on, n of them, one behind the other
--
-- Assumes nothing.
use Rattle.std.proofs.Common.{◌≡◌, ℕ, zero, suc, ◌+◌, ◌*◌, ◌<◌, ◌≤◌, ◌⊎◌, List, [], ◌∷◌, ◌++◌, length, Some, None, Option, sym, refl, ap, ap₂, ◌∙◌, subst, inl, inr, arith, length-append}
use Rattle.std.proofs.lemmas.Bool.{cases_lt}
use Rattle.std.specs.Option.{option_to_list}
use Rattle.grammar.proofs.Options.{none_some, some_same}
use Rattle.layout.specs.Contents.{All, Rising}

abbrev pub In : {X : Type 0} → X → List X → Type 0
In z [] = ⊥
In z (x ∷ xs) = (z ≡ x) ⊎ In z xs

abbrev pub gathered : {X : Type 0} → (ℕ → List X) → ℕ → List X
gathered f zero = []
gathered f (suc n) = gathered f n ++ f n

module _ {X : Type 0} where
  in_left : (xs ys : List X) (z : X) → In z xs → In z (xs ++ ys)
  in_left [] ys z h = absurd h
  in_left (x ∷ xs) ys z (inl e) = inl e
  in_left (x ∷ xs) ys z (inr h) = inr (in_left xs ys z h)

  in_right : (xs ys : List X) (z : X) → In z ys → In z (xs ++ ys)
  in_right [] ys z h = h
  in_right (x ∷ xs) ys z h = inr (in_right xs ys z h)

  in_parts : (xs ys : List X) (z : X) → In z (xs ++ ys) → In z xs ⊎ In z ys
  in_parts [] ys z h = inr h
  in_parts (x ∷ xs) ys z (inl e) = inl (inl e)
  in_parts (x ∷ xs) ys z (inr h) = elim (in_parts xs ys z h) [ inl k ↦ inl (inr k) | inr k ↦ inr k ]

  -- what holds of each member holds of all, and back
  pub all_members : (P : X → Type 0) (xs : List X) → ((z : X) → In z xs → P z) → All P xs
  all_members P [] h = tt
  all_members P (x ∷ xs) h = (h x (inl refl), all_members P xs (λ z k. h z (inr k)))

  pub member_of : (P : X → Type 0) (xs : List X) (z : X) → All P xs → In z xs → P z
  member_of P [] z a h = absurd h
  member_of P (x ∷ xs) z a (inl e) = subst P (sym e) a.0
  member_of P (x ∷ xs) z a (inr h) = member_of P xs z a.1 h

  -- a list of at most one element
  pub in_one : (o : Option X) (z : X) → In z (option_to_list o) → o ≡ Some z
  in_one None z h = absurd h
  in_one (Some x) z (inl e) = ap {B = Option X} Some (sym e)
  in_one (Some x) z (inr h) = absurd h

  pub one_in : (o : Option X) (z : X) → o ≡ Some z → In z (option_to_list o)
  one_in None z e = absurd (none_some e)
  one_in (Some x) z e = inl (sym (some_same e))

  pub one_short : (o : Option X) → length (option_to_list o) ≤ 1
  one_short None = omega arith
  one_short (Some x) = omega arith

module _ {X : Type 0} (R : X → X → Type 0) where
  pub one_rising : (o : Option X) → Rising R (option_to_list o)
  one_rising None = tt
  one_rising (Some x) = tt

  -- two rising lists, one behind the other
  rising_append : (xs ys : List X) → Rising R xs → Rising R ys → ((x y : X) → In x xs → In y ys → R x y) → Rising R (xs ++ ys)
  rising_append [] ys r s h = s
  rising_append (x ∷ []) [] r s h = tt
  rising_append (x ∷ []) (y ∷ ys) r s h = (h x y (inl refl) (inl refl), s)
  rising_append (x ∷ z ∷ zs) ys r s h = (r.0, rising_append (z ∷ zs) ys r.1 s (λ a b k l. h a b (inr k) l))

  pub rising_tail : (x : X) (xs : List X) → Rising R (x ∷ xs) → Rising R xs
  rising_tail x [] r = tt
  rising_tail x (y ∷ ys) r = r.1

  module _ (trans : (x y z : X) → R x y → R y z → R x z) where
    -- the first comes before all others
    pub rising_first : (x : X) (xs : List X) → Rising R (x ∷ xs) → All (R x) xs
    rising_first x [] r = tt
    rising_first x (y ∷ ys) r = (r.0, all_members (R x) ys (λ z k. trans x y z r.0 (member_of (R y) ys z (rising_first y ys r.1) k)))

    pub same_list : ((x : X) → ¬ R x x) → (xs ys : List X) → Rising R xs → Rising R ys → ((z : X) → In z xs → In z ys) → ((z : X) → In z ys → In z xs) → xs ≡ ys
    same_list not [] [] r s f g = refl
    same_list not [] (y ∷ ys) r s f g = absurd (g y (inl refl))
    same_list not (x ∷ xs) [] r s f g = absurd (f x (inl refl))
    same_list not (x ∷ xs) (y ∷ ys) r s f g =
        ap₂ {C = List X} (λ z zs. z ∷ zs) first (same_list not xs ys (rising_tail x xs r) (rising_tail y ys s) (λ z k. there z k (f z (inr k))) (λ z k. back z k (g z (inr k))))
      where
        behind_x : (z : X) → In z xs → R x z
        behind_x z k = member_of (R x) xs z (rising_first x xs r) k

        behind_y : (z : X) → In z ys → R y z
        behind_y z k = member_of (R y) ys z (rising_first y ys s) k

        met : In x (y ∷ ys) → In y (x ∷ xs) → x ≡ y
        met (inl e) k = e
        met (inr h) (inl e) = sym e
        met (inr h) (inr k) = absurd (not x (trans x y x (behind_x y k) (behind_y x h)))

        first : x ≡ y
        first = met (f x (inl refl)) (g y (inl refl))

        there : (z : X) → In z xs → In z (y ∷ ys) → In z ys
        there z k (inl e) = absurd (not x (subst (R x) (e ∙ sym first) (behind_x z k)))
        there z k (inr h) = h

        back : (z : X) → In z ys → In z (x ∷ xs) → In z xs
        back z k (inl e) = absurd (not y (subst (R y) (e ∙ first) (behind_y z k)))
        back z k (inr h) = h

module _ {X : Type 0} (f : ℕ → List X) where
  pub gathered_in : (n i : ℕ) (z : X) → i < n → In z (f i) → In z (gathered f n)
  gathered_in zero i z l h = absurd (omega arith)
  gathered_in (suc n) i z l h = elim (cases_lt i n) [
    | inl k ↦ in_left (gathered f n) (f n) z (gathered_in n i z k h)
    | inr k ↦ in_right (gathered f n) (f n) z (subst (λ j. In z (f j)) (let e : i ≡ n = omega arith in e) h)
  ]

  pub gathered_from : (n : ℕ) (z : X) → In z (gathered f n) → (i : ℕ) × (i < n) × In z (f i)
  gathered_from zero z h = absurd h
  gathered_from (suc n) z h = elim (in_parts (gathered f n) (f n) z h) [
    | inl k ↦ let p = gathered_from n z k in let l = p.1 in (p.0, omega arith, p.2)
    | inr k ↦ (n, omega arith, k)
  ]

  pub gathered_short : (k : ℕ) → ((i : ℕ) → length (f i) ≤ k) → (n : ℕ) → length (gathered f n) ≤ k * n
  gathered_short k h zero = omega arith
  gathered_short k h (suc n) =
      let l = length-append (gathered f n) (f n) in
      let ih = gathered_short k h n in
      let one = h n in
      let more : k * suc n ≡ k * n + k = omega arith in
      omega arith

  pub gathered_rising : (R : X → X → Type 0) → ((i : ℕ) → Rising R (f i)) → ((i j : ℕ) (x y : X) → i < j → In x (f i) → In y (f j) → R x y) → (n : ℕ) → Rising R (gathered f n)
  gathered_rising R each order zero = tt
  gathered_rising R each order (suc n) =
      rising_append R (gathered f n) (f n) (gathered_rising R each order n) (each n)
      (λ x y k l. let p = gathered_from n x k in order p.0 n x y p.1 p.2 l)
