-- Names one by one, and the first space of a line.
--
-- spelled_more, spelled_all   the word so far and the names from the place i on; behind the last one
-- before x s, after x s       the bytes of s before its first x, and those after it, byte by byte
-- cut_same                    they are what s is cut into
-- Passed x s i                the first x is none of the first i bytes
-- space_here, space_later     it is at the place i, or none of the first i + 1 bytes
-- space_nowhere               no byte is left
-- cut_less                    what follows the first x is shorter
--
-- Assumes nothing.
use Rattle.std.proofs.Common.{◌≡◌, ℕ, suc, ◌+◌, ◌<◌, ◌≤◌, Bool, true, false, not, cond, eqb, ltb, List, [], ◌∷◌, ◌++◌, length, get_or, take, drop, Some, None, Option, sym, refl, ap, ◌∙◌, ap₂, append_assoc, append-nil, add-one, arith, drop-cons, lt-ltb, eq-eqb, ne_eqb}
use Prim.Native.Nat.compare.{suc-suc}
use Rattle.std.proofs.lemmas.List.{drop_all, take_more}
use Rattle.std.specs.List.{position_or_len}
use Rattle.std.specs.Option.{option_map}
use Rattle.worked.specs.Reading.{is, named, onward, spelled, cut_at}

module _ (ns w : List ℕ) (i : ℕ) where
  opened : i < length ns → drop i ns ≡ get_or ns i 0 ∷ drop (i + 1) ns
  opened h = rw add-one (drop-cons ns i 0 h)

  pub spelled_more : i < length ns → (o : Option ℕ) → o ≡ named (get_or ns i 0) → spelled w (drop i ns) ≡ onward (λ A. spelled (w ++ A ∷ []) (drop (i + 1) ns)) o
  spelled_more h o e = ap (spelled w) (opened h) ∙ ap (onward (λ A. spelled (w ++ A ∷ []) (drop (i + 1) ns))) (sym e)

  pub spelled_all : length ns ≤ i → spelled w (drop i ns) ≡ Some w
  spelled_all h = ap (spelled w) (drop_all i ns h)

abbrev pub before : ℕ → List ℕ → List ℕ
before b [] = []
before b (x ∷ s) = cond (eqb x b) [] (x ∷ before b s)

abbrev pub after : ℕ → List ℕ → Option (List ℕ)
after b [] = None
after b (x ∷ s) = cond (eqb x b) (Some s) (after b s)

ltb_next : (a b : ℕ) → ltb a b ≡ ltb (suc a) (suc b)
ltb_next a b = simp suc-suc

module _ (x : ℕ) where
  before_is : (s : List ℕ) → before x s ≡ take (position_or_len (is x) s) s
  before_is [] = refl
  before_is (y ∷ s) = at (eqb y x) (before_is s)
    where
      at : (b : Bool) → before x s ≡ take (position_or_len (is x) s) s → cond b [] (y ∷ before x s) ≡ take (cond (not b) (1 + position_or_len (is x) s) 0) (y ∷ s)
      at true h = refl
      at false h = let more : suc (position_or_len (is x) s) ≡ 1 + position_or_len (is x) s = omega arith in ap {B = List ℕ} (λ l. y ∷ l) h ∙ ap (λ n. take n (y ∷ s)) more

  abbrev behind : List ℕ → ℕ → Option (List ℕ)
  behind s i = cond (ltb i (length s)) (Some (drop (i + 1) s)) None

  after_is : (s : List ℕ) → after x s ≡ behind s (position_or_len (is x) s)
  after_is [] = refl
  after_is (y ∷ s) = at (eqb y x) (after_is s)
    where
      at : (b : Bool) → after x s ≡ behind s (position_or_len (is x) s) → cond b (Some s) (after x s) ≡ behind (y ∷ s) (cond (not b) (1 + position_or_len (is x) s) 0)
      at true h = ap {B = Option (List ℕ)} (λ t. cond t (Some s) None) (sym (lt-ltb 0 (suc (length s)) (omega arith)))
      at false h =
          let i = position_or_len (is x) s in
          let more : suc i ≡ 1 + i = omega arith in
          let next : suc (i + 1) ≡ suc i + 1 = omega arith in
          h ∙ ap₂ (λ t n. cond t (Some (drop n (y ∷ s))) None) (ltb_next i (length s)) next ∙ ap (behind (y ∷ s)) more

  pub cut_same : (s : List ℕ) → cut_at x s ≡ option_map (λ rest. (before x s, rest)) (after x s)
  cut_same s =
      let i = position_or_len (is x) s in
      at (ltb i (length s)) ∙ ap₂ (λ v o. option_map (λ rest. (v, rest)) o) (sym (before_is s)) (sym (after_is s))
    where
      at : (b : Bool) → option_map {U = List ℕ × List ℕ} (λ i. (take i s, drop (i + 1) s)) (cond b (Some (position_or_len (is x) s)) None) ≡
          option_map {U = List ℕ × List ℕ} (λ rest. (take (position_or_len (is x) s) s, rest)) (cond b (Some (drop (position_or_len (is x) s + 1) s)) None)
      at true = refl
      at false = refl

-- The first x of s, byte by byte: i bytes have been passed.
module _ (x : ℕ) (s : List ℕ) (i : ℕ) where
  abbrev pub Passed : Type 0
  Passed = (before x s ≡ take i s ++ before x (drop i s)) × (after x s ≡ after x (drop i s))

  at_byte : i < length s → (b : Bool) → eqb (get_or s i 0) x ≡ b → (before x (drop i s) ≡ cond b [] (get_or s i 0 ∷ before x (drop (i + 1) s))) × (after x (drop i s) ≡ cond b (Some (drop (i + 1) s)) (after x (drop (i + 1) s)))
  at_byte h b e = (
    ap (before x) (opened s [] i h) ∙ ap (λ v. cond v [] (get_or s i 0 ∷ before x (drop (i + 1) s))) e,
    ap (after x) (opened s [] i h) ∙ ap (λ v. cond v (Some (drop (i + 1) s)) (after x (drop (i + 1) s))) e,
  )

  pub space_here : Passed → i < length s → get_or s i 0 ≡ x → Some (take i s, drop (i + 1) s) ≡ cut_at x s
  space_here p h e =
      let k = at_byte h true (eq-eqb (get_or s i 0) x e) in
      let front : before x s ≡ take i s = p.0 ∙ ap (λ v. take i s ++ v) k.0 ∙ append-nil (take i s) in
      let back : after x s ≡ Some (drop (i + 1) s) = p.1 ∙ k.1 in
      sym (cut_same x s ∙ ap (λ o. option_map (λ rest. (before x s, rest)) o) back ∙ ap {B = Option (List ℕ × List ℕ)} (λ v. Some (v, drop (i + 1) s)) front)

  pub space_later : Passed → i < length s → (get_or s i 0 ≡ x → ⊥) →
      (before x s ≡ take (i + 1) s ++ before x (drop (i + 1) s)) × (after x s ≡ after x (drop (i + 1) s))
  space_later p h n =
      let k = at_byte h false (ne_eqb (get_or s i 0) x n) in (
        p.0 ∙ ap (λ v. take i s ++ v) k.0 ∙ sym (append_assoc (take i s) (get_or s i 0 ∷ []) (before x (drop (i + 1) s)))
            ∙ ap (λ v. v ++ before x (drop (i + 1) s)) (sym (take_more s i 0 h)),
        p.1 ∙ k.1,
      )

  pub space_nowhere : Passed → length s ≤ i → None ≡ cut_at x s
  space_nowhere p h = sym (cut_same x s ∙ ap (λ o. option_map (λ rest. (before x s, rest)) o) (p.1 ∙ ap (after x) (drop_all i s h)))

-- what follows the first x is shorter
after_less : (x : ℕ) (s r : List ℕ) → after x s ≡ Some r → length r < length s
after_less x [] r e = cc
after_less x (y ∷ s) r e = by (eqb y x) (after_less x s r) e
  where
    by : (b : Bool) → (after x s ≡ Some r → length r < length s) → cond b (Some s) (after x s) ≡ Some r → length r < suc (length s)
    by true ih e = let h : s ≡ r = cc in omega (arith, ap length h)
    by false ih e = omega (arith, ih e)

pub cut_less : (x : ℕ) (s : List ℕ) (p : List ℕ × List ℕ) → cut_at x s ≡ Some p → length p.1 < length s
cut_less x s p e = at (after x s) refl (sym (cut_same x s) ∙ e)
  where
    at : (o : Option (List ℕ)) → after x s ≡ o → option_map {U = List ℕ × List ℕ} (λ rest. (before x s, rest)) o ≡ Some p → length p.1 < length s
    at None d e = cc
    at (Some r) d e =
        let h : ◌≡◌ {A = List ℕ × List ℕ} (before x s, r) p = cc in
        omega (arith, after_less x s r d, ap (λ (q : List ℕ × List ℕ). length q.1) h)
