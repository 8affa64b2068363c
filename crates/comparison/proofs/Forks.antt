-- The search for the place where two words part. Assumes nothing.
use Rattle.std.proofs.Common.{◌≡◌, ℕ, suc, ◌+◌, ◌-◌, ◌≤◌, [], ◌∷◌, ◌++◌, length, take, drop, sym, refl, ap, subst, ◌∙◌, inl, inr, append_assoc, length-append, take_all, arith}
use Rattle.std.proofs.Math.Seq.{take-append_seam, drop-append_seam}
use Rattle.std.specs.List.{slice_range}
use Rattle.grammar.specs.Meaning.{Word}
use Rattle.norm.specs.Norms.{Earlier}
use Rattle.comparison.specs.Treating.{ForkAt}
use Rattle.comparison.specs.Trying.{Parts}
use Rattle.comparison.specs.declared.parting.Parting.{Parting}

-- the words are alike up to what is left
pub record Alike (x y left right : Word) : Type 0 where
  pub common : Word
  pub one : x ≡ common ++ left
  pub two : y ≡ common ++ right

pub alike_more : (x y left right more other : Word) (a b : ℕ) → Alike x y left right → left ≡ a ∷ more → right ≡ b ∷ other → a ≡ b → Alike x y more other
alike_more x y left right more other a b h l r e = record {
  common = h.common ++ a ∷ [];
  one = h.one ∙ ap (λ w. h.common ++ w) l ∙ sym (append_assoc h.common (a ∷ []) more);
  two = h.two ∙ ap (λ w. h.common ++ w) (r ∙ ap (λ c. c ∷ other) (sym e)) ∙ sym (append_assoc h.common (a ∷ []) other);
}

-- no symbol more is alike
abbrev pub Apart : Word → Word → Type 0
Apart left right = (a b : ℕ) (more other : Word) → left ≡ a ∷ more → right ≡ b ∷ other → ¬ (a ≡ b)

common_same : (c d left right x y : Word) (A B : ℕ) → Apart left right → ¬ (A ≡ B) → c ++ left ≡ d ++ A ∷ x → c ++ right ≡ d ++ B ∷ y → length c ≡ length d
common_same [] [] left right x y A B h ne e f = refl
common_same [] (e ∷ d) left right x y A B h ne l r = absurd (h e e (d ++ A ∷ x) (d ++ B ∷ y) l r refl)
common_same (e ∷ c) [] left right x y A B h ne l r = absurd (let same : A ≡ B = cc in ne same)
common_same (e ∷ c) (i ∷ d) left right x y A B h ne l r =
    ap suc (common_same c d left right x y A B h ne (let t : c ++ left ≡ d ++ A ∷ x = cc in t) (let t : c ++ right ≡ d ++ B ∷ y = cc in t))

-- what is left tells how long the common front is
pub common_is : (x y left right : Word) → Alike x y left right → Apart left right → (A B : ℕ) (f : ForkAt x y A B) → length x - length left ≡ length f.common
common_is x y left right h apart A B f =
    let same = common_same h.common f.common left right f.left f.right A B apart f.apart (sym h.one ∙ f.one) (sym h.two ∙ f.two) in
    let whole = ap length h.one ∙ length-append h.common left in
    omega arith

-- a word with a symbol behind a front, cut at the front's length
module _ (w c l : Word) (A n : ℕ) (is : w ≡ c ++ A ∷ l) (place : n ≡ length c) where
  pub front_fits : n + 1 + length l ≡ length w
  front_fits = let e = ap length is ∙ length-append c (A ∷ l) in omega arith

  pub front_cut : slice_range w 0 n ≡ c
  front_cut = let z : n - 0 ≡ length c = omega arith in rw (z, is) (take-append_seam c (A ∷ l))

  pub end_cut : slice_range w n (length w) ≡ A ∷ l
  end_cut =
      let f = front_fits in
      let z : length (A ∷ l) ≤ length w - length c = omega arith in
      rw place (ap (λ d. take (length w - length c) d) (ap (drop (length c)) is ∙ drop-append_seam c (A ∷ l)) ∙ take_all (length w - length c) (A ∷ l) z)

-- of two symbols only one is earlier
pub not_both : (norm : ℕ → ℕ) (A B : ℕ) → Earlier norm A B → Earlier norm B A → ⊥
not_both norm A B (inl l) (inl k) = absurd (omega arith)
not_both norm A B (inl l) (inr k) = absurd (omega arith)
not_both norm A B (inr l) (inl k) = absurd (omega arith)
not_both norm A B (inr l) (inr k) = absurd (omega arith)

-- two words cut at a place, with a symbol behind it
pub record Halves (one two : Word) (n : ℕ) (c x y : Word) (a b : ℕ) : Type 0 where
  pub front : c ≡ slice_range one 0 n
  pub end_one : a ∷ x ≡ slice_range one n (length one)
  pub end_two : b ∷ y ≡ slice_range two n (length two)

-- and where they part
module _ {one two : Word} {A B n : ℕ} (f : ForkAt one two A B) (place : n ≡ length f.common) where
  pub one_fits : n + 1 + length f.left ≡ length one
  one_fits = front_fits one f.common f.left A n f.one place

  pub two_fits : n + 1 + length f.right ≡ length two
  two_fits = front_fits two f.common f.right B n f.two place

  module _ {c x y : Word} {a b : ℕ} (h : Halves one two n c x y a b) where
    common_is_cut : c ≡ f.common
    common_is_cut = h.front ∙ front_cut one f.common f.left A n f.one place

    one_is : a ∷ x ≡ A ∷ f.left
    one_is = h.end_one ∙ end_cut one f.common f.left A n f.one place

    two_is : b ∷ y ≡ B ∷ f.right
    two_is = h.end_two ∙ end_cut two f.common f.right B n f.two place

    first_is : a ≡ A
    first_is = let e = one_is in cc

    second_is : b ≡ B
    second_is = let e = two_is in cc

    -- the symbols found are in the fork's order
    pub order_found : (norm : ℕ → ℕ) → Earlier norm a b → Earlier norm A B
    order_found norm o = subst (λ C. Earlier norm C B) first_is (subst (λ C. Earlier norm a C) second_is o)

    pub order_there : (norm : ℕ → ℕ) → Earlier norm A B → Earlier norm a b
    order_there norm o = subst (λ C. Earlier norm C b) (sym first_is) (subst (λ C. Earlier norm A C) (sym second_is) o)

    pub later_one_parts : (p : Parting) → p.common.now ≡ c → p.later ≡ a → p.earlier ≡ b → p.later_end.now ≡ x → Parts p f.common A B f.left
    later_one_parts p i j k l =
        let e = one_is in
        let tail : x ≡ f.left = cc in
        record { common = i ∙ common_is_cut; later = j ∙ first_is; earlier = k ∙ second_is; later_end = l ∙ tail }

    pub later_two_parts : (p : Parting) → p.common.now ≡ c → p.later ≡ b → p.earlier ≡ a → p.later_end.now ≡ y → Parts p f.common B A f.right
    later_two_parts p i j k l =
        let e = two_is in
        let tail : y ≡ f.right = cc in
        record { common = i ∙ common_is_cut; later = j ∙ second_is; earlier = k ∙ first_is; later_end = l ∙ tail }
