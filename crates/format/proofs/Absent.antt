-- A byte that is none of a list. Assumes nothing.
use Rattle.std.proofs.Common.{◌≡◌, ℕ, ◌+◌, ◌<◌, ◌≤◌, Bool, true, false, not, ◌&&◌, ◌||◌, eqb, List, [], ◌∷◌, reverse, length, get_or, drop, refl, sym, ap, ◌∙◌, eq-eqb, ne_eqb}
use mathlib.Core.List.{reverse-cons}
use Rattle.std.specs.List.{list_any}
use Rattle.std.proofs.lemmas.List.{drop_all}
use Rattle.std.proofs.lemmas.List.Folds.{list_any-append}
use Rattle.grammar.proofs.Lists.{opened}
use Rattle.layout.specs.Reading.{absent}

not_or : (a b : Bool) → not (a || b) ≡ (not a && not b)
not_or true b = refl
not_or false b = refl

or_swap : (a b : Bool) → (a || b) ≡ (b || (a || false))
or_swap true true = refl
or_swap true false = refl
or_swap false true = refl
or_swap false false = refl

module _ (b : ℕ) where
  -- it is absent where a search does not find it
  absent_any : (xs : List ℕ) → not (list_any (λ x. eqb x b) xs) ≡ absent b xs
  absent_any [] = refl
  absent_any (x ∷ xs) = not_or (eqb x b) (list_any (λ y. eqb y b) xs) ∙ ap (λ t. not (eqb x b) && t) (absent_any xs)

  -- from either end
  any_reverse : (xs : List ℕ) → list_any (λ x. eqb x b) xs ≡ list_any (λ x. eqb x b) (reverse xs)
  any_reverse [] = refl
  any_reverse (x ∷ xs) =
      let p = λ (y : ℕ). eqb y b in
      ap (λ t. p x || t) (any_reverse xs) ∙ or_swap (p x) (list_any p (reverse xs))
      ∙ sym (ap (list_any p) (reverse-cons x xs) ∙ list_any-append p (reverse xs) (x ∷ []))

  pub absent_reverse : (xs : List ℕ) → not (list_any (λ x. eqb x b) xs) ≡ absent b (reverse xs)
  absent_reverse xs = ap not (any_reverse xs) ∙ absent_any (reverse xs)

  -- in either order
  pub absent_turned : (xs : List ℕ) → absent b xs ≡ absent b (reverse xs)
  absent_turned xs = sym (absent_any xs) ∙ absent_reverse xs

  -- place by place
  module _ (xs : List ℕ) (i : ℕ) where
    pub absent_here : i < length xs → get_or xs i 0 ≡ b → absent b (drop i xs) ≡ false
    absent_here h e = ap (absent b) (opened xs i (get_or xs i 0) 0 h refl) ∙ ap (λ t. not t && absent b (drop (i + 1) xs)) (eq-eqb (get_or xs i 0) b e)

    pub absent_later : i < length xs → (get_or xs i 0 ≡ b → ⊥) → absent b (drop i xs) ≡ absent b (drop (i + 1) xs)
    absent_later h e = ap (absent b) (opened xs i (get_or xs i 0) 0 h refl) ∙ ap (λ t. not t && absent b (drop (i + 1) xs)) (ne_eqb (get_or xs i 0) b e)

    pub absent_all : length xs ≤ i → absent b (drop i xs) ≡ true
    absent_all h = ap (absent b) (drop_all i xs h)
