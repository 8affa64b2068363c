-- First inputs of the example grammars.
--
-- The idea: norms and first letters are written down, and a certificate of them is checked line by line and symbol by symbol.
--
-- Assumes nothing.
use Rattle.std.proofs.Common.{◌≡◌, ℕ, zero, suc, ◌<◌, ◌≤◌, Bool, true, false, cond, ◌&&◌, eqb, leb, eqb-true, leb-true, List, [], ◌∷◌, length, get_or, is_some, Some, None, Option, sym, refl, subst, arith}
use native.Mathlib.Decide.{ℕ_discrete}
use Rattle.std.specs.Option.{option_map}
use Rattle.tally.specs.Group.{Group}
use Rattle.grammar.specs.Meaning.{Word, Input, Below}
use Rattle.grammar.proofs.Options.{none_some, some_same}
use Rattle.norm.specs.Words.{Words, words_of, body}
use Rattle.norm.specs.Norms.{First, norms}
use Rattle.norm.specs.Certified.{Certified, spelled}
use Rattle.norm.proofs.Certificates.{word_there, certificate_law}
use Rattle.rows.specs.Example.{Line, line_at, lined, seven_lines, seven, sevens, four_lines, four, fours}

-- what holds of each number below n
abbrev All : (ℕ → Type 0) → ℕ → Type 0
All Q zero = Unit {0}
All Q (suc n) = Q n × All Q n

all_at : (Q : ℕ → Type 0) (n : ℕ) → All Q n → (A : ℕ) → A < n → Q A
all_at Q zero h A l = absurd (omega arith)
all_at Q (suc n) h A l = go (ℕ_discrete A n) (all_at Q n h.1 A)
  where
    go : Dec (A ≡ n) → (A < n → Q A) → Q A
    go (yes e) rest = subst Q (sym e) h.0
    go (no e) rest = rest (omega (arith, e))

module _ {T : Type 0} (Q : ℕ → ℕ → Word → Type 0) where
  -- what holds of each line
  abbrev Lines : List (Line T) → Type 0
  Lines [] = Unit {0}
  Lines (l ∷ ls) = Q l.symbol l.letter l.word × Lines ls

  at_line : (ls : List (Line T)) → Lines ls → (A a : ℕ) (w : Word) → option_map (λ m. m.word) (line_at A a ls) ≡ Some w → Q A a w
  at_line [] h A a w d = absurd (none_some d)
  at_line (l ∷ ls) h A a w d = go (eqb A l.symbol) (eqb a l.letter) refl refl d (at_line ls h.1 A a w)
    where
      go : (s t : Bool) → eqb A l.symbol ≡ s → eqb a l.letter ≡ t →
          option_map {U = Word} (λ m. m.word) (cond (s && t) (Some (record { word = l.word; tally = l.tally })) (line_at A a ls)) ≡ Some w →
          (option_map {U = Word} (λ m. m.word) (line_at A a ls) ≡ Some w → Q A a w) → Q A a w
      go true true e f d rest =
          subst (λ v. Q A a v) (some_same d) (subst (λ B. Q B a l.word) (sym (eqb-true A l.symbol e)) (subst (λ x. Q l.symbol x l.word) (sym (eqb-true a l.letter f)) h.0))
      go true false e f d rest = rest d
      go false t e f d rest = rest d

-- a certificate, line by line and symbol by symbol; no rule of a symbol is at an earlier letter than its first
module _ {T : Type 0} (n : ℕ) (ls : List (Line T)) (norm letter : ℕ → ℕ) where
  abbrev R : Words
  R = words_of (lined n ls)

  abbrev Right : ℕ → ℕ → Word → Type 0
  Right A a w = (leb (norm A) (suc (norms norm w)) ≡ true) × (leb (letter A) a ≡ true) × Below n w

  abbrev Attained : ℕ → Type 0
  Attained A = (is_some (R A (letter A)) ≡ true) × (norm A ≡ suc (norms norm (body (R A (letter A)))))

  certified : (v : ℕ) → Lines Right ls → All Attained n → Certified v n R norm letter
  certified v lines all = record {
    below = λ A a e. leb-true _ _ (right A a e).0;
    there = λ A h l. (all_at Attained n all A h).0;
    attained = λ A h l. (all_at Attained n all A h).1;
    earliest = λ A a h e l. let d = leb-true (letter A) a (right A a e).1 in absurd (omega arith);
    known = λ A a. known A a (R A a) refl;
  }
    where
      right : (A a : ℕ) → is_some (R A a) ≡ true → Right A a (body (R A a))
      right A a e = at_line Right ls lines A a (body (R A a)) (word_there R A a e)

      known : (A a : ℕ) (o : Option Word) → R A a ≡ o → Below n (body o)
      known A a None e = tt
      known A a (Some w) e = (at_line Right ls lines A a w e).2

abbrev head : Input → ℕ
head s = get_or s 0 0

module _ {T : Type 0} (𝓣 : Group T) (x y z : T) where
  seven_certified : Certified 2 7 (words_of (seven 𝓣 x y z)) (λ A. length (sevens A)) (λ A. head (sevens A))
  seven_certified =
      let u : 0 < 7 = omega arith in
      let v : 1 < 7 = omega arith in
      certified 7 (seven_lines 𝓣 x y z) (λ A. length (sevens A)) (λ A. head (sevens A)) 2 (
        (refl, refl, tt),
        (
          (refl, refl, (u, (u, tt))),
          (
            (refl, refl, tt),
            (
              (refl, refl, (u, (v, tt))),
              (
                (refl, refl, (u, tt)),
                (
                  (refl, refl, (u, (u, (u, tt)))),
                  (
                    (refl, refl, tt),
                    (
                      (refl, refl, (u, (u, (u, tt)))),
                      ((refl, refl, tt), ((refl, refl, (u, (u, tt))), ((refl, refl, (u, tt)), ((refl, refl, (u, tt)), tt)))),
                    ),
                  ),
                ),
              ),
            ),
          ),
        ),
      )
      ((refl, refl), ((refl, refl), ((refl, refl), ((refl, refl), ((refl, refl), ((refl, refl), ((refl, refl), tt)))))))

  four_certified : Certified 1 4 (words_of (four 𝓣 x y)) (λ A. length (fours A)) (λ A. head (fours A))
  four_certified =
      certified 4 (four_lines 𝓣 x y) (λ A. length (fours A)) (λ A. head (fours A)) 1 (
        (refl, refl, tt),
        (
          (refl, refl, (omega arith, tt)),
          (
            (refl, refl, tt),
            (
              (refl, refl, (omega arith, tt)),
              ((refl, refl, tt), ((refl, refl, (omega arith, tt)), ((refl, refl, tt), ((refl, refl, (omega arith, tt)), tt)))),
            ),
          ),
        ),
      )
      ((refl, refl), ((refl, refl), ((refl, refl), ((refl, refl), tt))))

  abbrev Spells : ℕ → Type 0
  Spells A = (length (sevens A) ≤ 2) × (spelled (words_of (seven 𝓣 x y z)) (λ B. head (sevens B)) (norms (λ B. length (sevens B)) (A ∷ [])) (A ∷ []) ≡ sevens A)

  seven_spells : All Spells 7
  seven_spells = ((omega arith, refl), ((omega arith, refl), ((omega arith, refl), ((omega arith, refl), ((omega arith, refl), ((omega arith, refl), ((omega arith, refl), tt)))))))

  pub seven_first : (A : ℕ) → A < 7 → First 𝓣 (seven 𝓣 x y z) (A ∷ []) (sevens A)
  seven_first A h =
      let p = all_at Spells 7 seven_spells A h in
      subst (First 𝓣 (seven 𝓣 x y z) (A ∷ [])) p.1 ((certificate_law 𝓣).within 2 (seven 𝓣 x y z) (λ B. length (sevens B)) (λ B. head (sevens B)) seven_certified (A ∷ []) (h, tt) (p.0, tt)).0

  pub four_first : (A : ℕ) → A < 4 → First 𝓣 (four 𝓣 x y) (A ∷ []) (fours A)
  four_first A h =
      let p = all_at (λ B. spelled (words_of (four 𝓣 x y)) (λ C. head (fours C)) 1 (B ∷ []) ≡ fours B) 4 (refl, (refl, (refl, (refl, tt)))) A h in
      subst (First 𝓣 (four 𝓣 x y) (A ∷ [])) p ((certificate_law 𝓣).within 1 (four 𝓣 x y) (λ B. length (fours B)) (λ B. head (fours B)) four_certified (A ∷ []) (h, tt) (omega arith, tt)).0
