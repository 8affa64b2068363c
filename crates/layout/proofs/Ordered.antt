-- Lists with one element more at their end, and what a test of the newest element says of them. Assumes nothing.
use Rattle.std.proofs.Common.{◌≡◌, ℕ, Bool, true, List, [], ◌∷◌, ◌++◌, reverse, Decides, sym, refl, ap, ◌∙◌, subst, append_assoc, append-nil}
use mathlib.Core.List.{reverse-cons, reverse-reverse}
use Rattle.layout.specs.Contents.{All, Apart, Rising, joined}
use Rattle.layout.specs.Wrong.{Last}

module _ {X : Type 0} (P : X → Type 0) where
  pub all_push : (xs : List X) (y : X) → All P xs → P y → All P (xs ++ (y ∷ []))
  all_push [] y a p = (p, tt)
  all_push (x ∷ xs) y a p = (a.0, all_push xs y a.1 p)

  pub all_back : (xs ys : List X) → All P (xs ++ ys) → All P ys
  all_back [] ys a = a
  all_back (x ∷ xs) ys a = all_back xs ys a.1

  pub all_front : (xs ys : List X) → All P (xs ++ ys) → All P xs
  all_front [] ys a = tt
  all_front (x ∷ xs) ys a = (a.0, all_front xs ys a.1)

  pub all_reverse : (xs : List X) → All P xs → All P (reverse xs)
  all_reverse [] a = tt
  all_reverse (x ∷ xs) a = rw (reverse-cons x xs) (all_push (reverse xs) x (all_reverse xs a.1) a.0)

  pub last_push : (xs : List X) (y : X) → P y → Last P (xs ++ (y ∷ []))
  last_push [] y p = p
  last_push (x ∷ []) y p = p
  last_push (x ∷ z ∷ zs) y p = last_push (z ∷ zs) y p

  pub last_pushed : (xs : List X) (y : X) → Last P (xs ++ (y ∷ [])) → P y
  last_pushed [] y p = p
  last_pushed (x ∷ []) y p = p
  last_pushed (x ∷ z ∷ zs) y p = last_pushed (z ∷ zs) y p

  -- a test of the newest element decides of the last
  pub newest : (t : List X → Bool) (p : X → Bool) → ((x : X) → Decides (p x) (P x)) → t [] ≡ true → ((x : X) (xs : List X) → t (x ∷ xs) ≡ p x) → (xs : List X) → Decides (t (reverse xs)) (Last P xs)
  newest t p each none more xs = subst (λ ys. Decides (t (reverse xs)) (Last P ys)) (reverse-reverse xs) (at (reverse xs))
    where
      at : (before : List X) → Decides (t before) (Last P (reverse before))
      at [] = (λ _. tt, λ _. none)
      at (y ∷ before) = (
        λ e. rw (reverse-cons y before) (last_push (reverse before) y ((each y).0 (sym (more y before) ∙ e))),
        λ l. more y before ∙ (each y).1 (last_pushed (reverse before) y (rw (reverse-cons y before) at l)),
      )

module _ {X : Type 0} (R : X → X → Type 0) where
  pub rising_push : (xs : List X) (y : X) → Rising R xs → Last (λ x. R x y) xs → Rising R (xs ++ (y ∷ []))
  rising_push [] y r l = tt
  rising_push (x ∷ []) y r l = (l, tt)
  rising_push (x ∷ z ∷ zs) y r l = (r.0, rising_push (z ∷ zs) y r.1 l)

  -- in a rising list each element comes after the last of those before it
  pub rising_last : (xs : List X) (z : X) (zs : List X) → Rising R (xs ++ (z ∷ zs)) → Last (λ x. R x z) xs
  rising_last [] z zs r = tt
  rising_last (x ∷ []) z zs r = r.0
  rising_last (x ∷ y ∷ ys) z zs r = rising_last (y ∷ ys) z zs r.1

pub apart_push : {X : Type 0} (xs : List X) (y : X) → Apart xs → All (λ x. ¬ (x ≡ y)) xs → Apart (xs ++ (y ∷ []))
apart_push [] y a l = (tt, tt)
apart_push (x ∷ xs) y a l = (all_push (λ z. ¬ (x ≡ z)) xs y a.0 l.0, apart_push xs y a.1 l.1)

pub apart_absent : {X : Type 0} (xs : List X) (z : X) (zs : List X) → Apart (xs ++ (z ∷ zs)) → All (λ x. ¬ (x ≡ z)) xs
apart_absent [] z zs a = tt
apart_absent (x ∷ xs) z zs a = ((all_back (λ y. ¬ (x ≡ y)) xs (z ∷ zs) a.0).0, apart_absent xs z zs a.1)

pub joined_push : {X : Type 0} (f : X → List ℕ) (xs : List X) (y : X) → joined f (xs ++ (y ∷ [])) ≡ joined f xs ++ f y
joined_push f [] y = append-nil (f y)
joined_push f (x ∷ xs) y = ap (λ r. f x ++ r) (joined_push f xs y) ∙ sym (append_assoc (f x) (joined f xs) (f y))

-- bytes that encode themselves
abbrev pub byte : ℕ → List ℕ
byte x = x ∷ []

pub joined_bytes : (xs : List ℕ) → joined byte xs ≡ xs
joined_bytes [] = refl
joined_bytes (x ∷ xs) = ap {B = List ℕ} (λ r. x ∷ r) (joined_bytes xs)

-- what was read, with one more behind it
pub behind : (all p x bs rest : List ℕ) → all ≡ p ++ bs → bs ≡ x ++ rest → all ≡ (p ++ x) ++ rest
behind all p x bs rest e d = e ∙ ap (λ l. p ++ l) d ∙ sym (append_assoc p x rest)

pub push_more : (xs : List ℕ) (x : ℕ) (bs rest r : List ℕ) → bs ≡ xs ++ rest → rest ≡ x ∷ r → bs ≡ (xs ++ (x ∷ [])) ++ r
push_more xs x bs rest r e d = behind bs xs (x ∷ []) rest r e d

pub joined_more : {X : Type 0} (f : X → List ℕ) (front : List ℕ) (xs : List X) (x : X) (bs rest r : List ℕ) → bs ≡ (front ++ joined f xs) ++ rest → rest ≡ f x ++ r → bs ≡ (front ++ joined f (xs ++ (x ∷ []))) ++ r
joined_more f front xs x bs rest r e d =
    behind bs (front ++ joined f xs) (f x) rest r e d ∙ ap (λ l. l ++ r) (append_assoc front (joined f xs) (f x) ∙ ap (λ l. front ++ l) (sym (joined_push f xs x)))
