-- What a reading comes to, step by step.
--
-- The idea: Came o G W says that o read a value with G of it and of what is left, or failed with W of the fault.
-- Steps that come to something compose (came_then), so one walk over a reading gives both what it accepts and why it refuses.
-- Every reading of one tested byte is the same reading, tested, and every list is read by many.
--
-- Assumes nothing.
use Rattle.std.proofs.Common.{◌≡◌, ℕ, zero, suc, ◌+◌, ◌<◌, Bool, true, false, ◌⊎◌, List, [], ◌∷◌, ◌++◌, reverse, length, Ok, Err, Decides, Result, sym, refl, ap, ◌∙◌, subst, inl, inr, append_assoc, append-nil, arith, length-append}
use mathlib.Core.List.{reverse-append, reverse-reverse}
use Rattle.std.proofs.lemmas.Bool.Decides.{not_from_Decides}
use Rattle.layout.specs.Contents.{All, joined}
use Rattle.layout.specs.Reading.{Read, Reading, then, give, given, one, many}
use Rattle.layout.specs.declared.fault.Fault.{Fault}
use Rattle.layout.specs.declared.fault.Fault.TheVariants.{Short}

pub data Came {X : Type 0} (o : Result (Read X) Fault) (G : X → List ℕ → Type 0) (W : Fault → Type 0) : Type 0 where
  came_ok : (r : Read X) → o ≡ Ok r → G r.value r.rest → Came o G W
  came_err : (f : Fault) → o ≡ Err f → W f → Came o G W

-- no result is both
pub ok_err : {X Y : Type 0} {x : X} {y : Y} → ¬ (◌≡◌ {A = Result X Y} (Ok x) (Err y))
ok_err e = let z : ◌≡◌ {A = ℕ} 0 1 = cc in omega arith

pub ok_same : {X Y : Type 0} {x z : X} → ◌≡◌ {A = Result X Y} (Ok x) (Ok z) → x ≡ z
ok_same e = cc

pub err_same : {X Y : Type 0} {y z : Y} → ◌≡◌ {A = Result X Y} (Err y) (Err z) → y ≡ z
err_same e = cc

module _ {X : Type 0} {G : X → List ℕ → Type 0} {W : Fault → Type 0} where
  pub came_read : {o : Result (Read X) Fault} → Came o G W → (r : Read X) → o ≡ Ok r → G r.value r.rest
  came_read (came_ok s e g) r d = let same : s ≡ r = ok_same (sym e ∙ d) in subst (λ (t : Read X). G t.value t.rest) same g
  came_read (came_err f e w) r d = absurd (ok_err (sym d ∙ e))

  pub came_fault : {o : Result (Read X) Fault} → Came o G W → (f : Fault) → o ≡ Err f → W f
  came_fault (came_ok s e g) f d = absurd (ok_err (sym e ∙ d))
  came_fault (came_err h e w) f d = subst W (err_same (sym e ∙ d)) w

  pub came_here : (x : X) (bs : List ℕ) → G x bs → Came (give x bs) G W
  came_here x bs g = came_ok (record { value = x; rest = bs }) refl g

  pub came_map : {H : X → List ℕ → Type 0} {o : Result (Read X) Fault} → Came o G W → ((x : X) (r : List ℕ) → G x r → H x r) → Came o H W
  came_map (came_ok r e g) h = came_ok r e (h r.value r.rest g)
  came_map (came_err f e w) h = came_err f e w

  pub came_then : {Y : Type 0} {H : Y → List ℕ → Type 0} {o : Result (Read X) Fault} (k : X → Reading Y) → Came o G W → ((x : X) (r : List ℕ) → G x r → Came (k x r) H W) → Came (then o k) H W
  came_then k (came_ok r e g) h = rw e (h r.value r.rest g)
  came_then k (came_err f e w) h = rw e (came_err f refl w)

-- the test passes with P, or the fault has W
pub came_given : {X : Type 0} {P : Type 0} {W : Fault → Type 0} (t : Bool) (f : Fault) (x : X) (bs : List ℕ) → Decides t P → ((P → ⊥) → W f) →
    Came (given t f x bs) (λ y r. (y ≡ x) × (r ≡ bs) × P) W
came_given true f x bs d w = came_here x bs (refl, refl, d.0 refl)
came_given false f x bs d w = came_err f refl (w (not_from_Decides false d refl))

-- a step that was read, and a step that failed
pub then_ok : {X Y : Type 0} (o : Result (Read X) Fault) (k : X → Reading Y) (x : X) (r : List ℕ) → o ≡ Ok (record { value = x; rest = r }) → then o k ≡ k x r
then_ok o k x r e = rw e

pub then_err : {X Y : Type 0} (o : Result (Read X) Fault) (k : X → Reading Y) (f : Fault) → o ≡ Err f → then o k ≡ Err f
then_err o k f e = rw e

pub given_ok : {X : Type 0} (t : Bool) (f : Fault) (x : X) (bs : List ℕ) → t ≡ true → given t f x bs ≡ give x bs
given_ok t f x bs e = rw e

pub given_err : {X : Type 0} (t : Bool) (f : Fault) (x : X) (bs : List ℕ) → t ≡ false → given t f x bs ≡ Err f
given_err t f x bs e = rw e

-- one byte that passes a test
abbrev pub tested : ℕ → (ℕ → Bool) → Fault → Reading ℕ
tested total test fault bs = then (one total bs) (λ b. given (test b) fault b)

pub false_when : {P : Type 0} (t : Bool) → Decides t P → (P → ⊥) → t ≡ false
false_when true d n = absurd (n (d.0 refl))
false_when false d n = refl

module _ (total : ℕ) (test : ℕ → Bool) (P : ℕ → Type 0) (decides : (b : ℕ) → Decides (test b) (P b)) where
  pub tested_came : (fault : Fault) (bs : List ℕ) (W : Fault → Type 0) → ((f : Fault) → tested total test fault bs ≡ Err f → W f) → Came (tested total test fault bs) (λ b r. (bs ≡ b ∷ r) × P b) W
  tested_came fault [] W w = came_err (Short total) refl (w (Short total) refl)
  tested_came fault (b ∷ bs) W w = at (test b) refl
    where
      at : (t : Bool) → test b ≡ t → Came (tested total test fault (b ∷ bs)) (λ c r. (b ∷ bs ≡ c ∷ r) × P c) W
      at true e = came_ok (record { value = b; rest = bs }) (given_ok (test b) fault b bs e) (refl, (decides b).0 e)
      at false e = let failed = given_err (test b) fault b bs e in came_err fault failed (w fault failed)

  pub tested_accepts : (fault : Fault) (b : ℕ) (rest : List ℕ) → P b → tested total test fault (b ∷ rest) ≡ Ok (record { value = b; rest = rest })
  tested_accepts fault b rest p = given_ok (test b) fault b rest ((decides b).1 p)

  pub tested_refuses : (fault : Fault) (b : ℕ) (rest : List ℕ) → (P b → ⊥) → tested total test fault (b ∷ rest) ≡ Err fault
  tested_refuses fault b rest n = given_err (test b) fault b rest (false_when (test b) (decides b) n)

  -- why it failed
  pub tested_faults : (fault : Fault) (bs : List ℕ) (f : Fault) → tested total test fault bs ≡ Err f →
      ((bs ≡ []) × (f ≡ Short total)) ⊎ ((b : ℕ) × (rest : List ℕ) × (bs ≡ b ∷ rest) × (P b → ⊥) × (f ≡ fault))
  tested_faults fault [] f e = inl (refl, sym (err_same e))
  tested_faults fault (b ∷ bs) f e = at (test b) refl
    where
      at : (t : Bool) → test b ≡ t → ((b ∷ bs ≡ []) × (f ≡ Short total)) ⊎ ((c : ℕ) × (rest : List ℕ) × (b ∷ bs ≡ c ∷ rest) × (P c → ⊥) × (f ≡ fault))
      at true d = absurd (ok_err (sym (given_ok (test b) fault b bs d) ∙ e))
      at false d = inr (b, bs, refl, not_from_Decides (test b) (decides b) d, err_same (sym e ∙ given_err (test b) fault b bs d))

-- many items: Inv holds of those read so far, in their order, and of what is left
module _ {X : Type 0} (total : ℕ) (item : List X → Reading X) where
  pub many_came : (Inv : List X → List ℕ → Type 0) (W : Fault → Type 0) (n : ℕ) →
      ((xs : List X) (rest : List ℕ) → length xs < n → Inv xs rest → Came (item (reverse xs) rest) (λ x r. Inv (xs ++ (x ∷ [])) r) W) →
      (k : ℕ) (xs : List X) (bs : List ℕ) → length xs + k ≡ n → Inv xs bs → Came (many total item k (reverse xs) bs) (λ ys r. Inv ys r × (length ys ≡ n)) W
  many_came Inv W n step zero xs bs e inv = rw (reverse-reverse xs) (came_here xs bs (inv, omega arith))
  many_came Inv W n step (suc k) xs bs e inv =
      came_then (λ x. many total item k (x ∷ reverse xs)) (step xs bs (omega arith) inv)
      (λ x r more. rw (← reverse-append xs (x ∷ [])) (many_came Inv W n step k (xs ++ (x ∷ [])) r (simp length-append (omega arith)) more))

  -- items that are read one after the other
  module _ (enc : X → List ℕ) where
    abbrev pub Goes : List X → List X → Type 0
    Goes xs [] = Unit {0}
    Goes xs (x ∷ zs) = ((rest : List ℕ) → item (reverse xs) (enc x ++ rest) ≡ Ok (record { value = x; rest = rest })) × Goes (xs ++ (x ∷ [])) zs

    pub many_on : (n k : ℕ) (xs zs : List X) (rest : List ℕ) → n ≡ length zs + k → Goes xs zs → many total item n (reverse xs) (joined enc zs ++ rest) ≡ many total item k (reverse (xs ++ zs)) rest
    many_on n k xs [] rest e g = let same : n ≡ k = omega arith in rw (append-nil xs, same)
    many_on zero k xs (z ∷ zs) rest e g = absurd (omega arith)
    many_on (suc n) k xs (z ∷ zs) rest e g =
        ap (λ bs. many total item (suc n) (reverse xs) bs) (append_assoc (enc z) (joined enc zs) rest)
        ∙ then_ok (item (reverse xs) (enc z ++ (joined enc zs ++ rest))) (λ x. many total item n (x ∷ reverse xs)) z (joined enc zs ++ rest) (g.0 (joined enc zs ++ rest))
        ∙ ap (λ before. many total item n before (joined enc zs ++ rest)) (sym (reverse-append xs (z ∷ [])))
        ∙ many_on n k (xs ++ (z ∷ [])) zs rest (omega arith) g.1
        ∙ ap (λ ys. many total item k (reverse ys) rest) (append_assoc xs (z ∷ []) zs)

    pub many_reads : (zs : List X) (rest : List ℕ) → Goes [] zs → many total item (length zs) [] (joined enc zs ++ rest) ≡ Ok (record { value = zs; rest = rest })
    many_reads zs rest g = many_on (length zs) 0 [] zs rest (omega arith) g ∙ ap (λ ys. give ys rest) (reverse-reverse zs)

    pub many_fails : (n : ℕ) (zs : List X) (rest : List ℕ) (f : Fault) → Goes [] zs → length zs < n → item (reverse zs) rest ≡ Err f → many total item n [] (joined enc zs ++ rest) ≡ Err f
    many_fails n zs rest f g h e = at n h
      where
        left : (m n : ℕ) → m < n → (k : ℕ) × (n ≡ m + suc k)
        left m zero h = absurd (omega arith)
        left zero (suc n) h = (n, omega arith)
        left (suc m) (suc n) h = let d = left m n (omega arith) in (d.0, omega (arith, d.1))

        at : (n : ℕ) → length zs < n → many total item n [] (joined enc zs ++ rest) ≡ Err f
        at n h = let d = left (length zs) n h in many_on n (suc d.0) [] zs rest d.1 g ∙ then_err (item (reverse zs) rest) (λ x. many total item d.0 (x ∷ reverse zs)) f e

    -- P holds of each of them, and their list is Ordered, which says Next of each and of those before it
    pub goes_all : (P : X → Type 0) (Next : List X → X → Type 0) (Ordered : List X → Type 0) → ((xs : List X) (z : X) (zs : List X) → Ordered (xs ++ (z ∷ zs)) → Next xs z) →
        ((xs : List X) (x : X) (rest : List ℕ) → P x → Next xs x → item (reverse xs) (enc x ++ rest) ≡ Ok (record { value = x; rest = rest })) →
        (xs zs : List X) → All P zs → Ordered (xs ++ zs) → Goes xs zs
    goes_all P Next Ordered next reads xs [] a o = tt
    goes_all P Next Ordered next reads xs (z ∷ zs) a o =
        (λ rest. reads xs z rest a.0 (next xs z zs o), goes_all P Next Ordered next reads (xs ++ (z ∷ [])) zs a.1 (subst Ordered (sym (append_assoc xs (z ∷ []) zs)) o))
