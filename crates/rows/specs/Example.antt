-- The example grammar with seven symbols over any tallies, another with four, and what is worked out by hand of rows in them.
--
-- Line T               a rule: symbol, letter, word, tally
-- line_at A a ls       the rule of the first line for A and a
-- lined n ls           the grammar of n symbols with the rules ls
-- L, P, S              letters
-- b, c, e, k, q        symbols of the seven b c d e f k q, numbered 0 to 6
-- seven_lines 𝓣 x y z  the rules of the grammar with seven symbols; x, y and z stand for 270, 265 and 10 millimetres
-- seven 𝓣 x y z        that grammar
-- sevens A             the first input of A in it
-- four_lines 𝓣 x y     the rules of a grammar with four symbols, in which 2 follows 0, and 3 follows 1
-- four 𝓣 x y           that grammar
-- fours A              the first input of A in it
-- lone A w             a sheet's rows: only A → w
-- row 𝓣 M first A w    w with its offset for A
-- alone 𝓣 M first A w  the sheet with the row A → w only
-- both                 the rows 2 → 0 and 3 → 1
-- Examples 𝓣 x y z     the worked examples
-- foot n               the foot length of n millimetres
--
-- Assumes nothing.
use Rattle.std.specs.Prelude.{◌≡◌, ℕ, ◌-◌, ◌%◌, ◌^◌, ◌<◌, cond, ◌&&◌, List, [], ◌∷◌, length, get_or, Some, None, Option, ◌==◌}
use Rattle.std.proofs.Common.{arith}
use Rattle.tally.specs.Group.{Group}
use Rattle.tally.specs.Makes.{foot_of, foot_group}
use Rattle.tally.specs.declared.foot_mm.FootMm.{FootMm}
use Rattle.grammar.specs.Meaning.{Word, Input, Weighted, Meaning}
use Rattle.grammar.specs.Takes.{takes}
use Rattle.norm.specs.Norms.{First}
use Rattle.rows.specs.Sheets.{View, Sheet, offset, weighed, Agrees, SelfProving, Shaped}

pub record Line (T : Type 0) : Type 0 where
  pub symbol : ℕ
  pub letter : ℕ
  pub word : Word
  pub tally : T

module _ {T : Type 0} where
  abbrev pub line_at : ℕ → ℕ → List (Line T) → Option (Weighted T)
  line_at A a [] = None
  line_at A a (l ∷ ls) = cond (A == l.symbol && a == l.letter) (Some (record { word = l.word; tally = l.tally })) (line_at A a ls)

  abbrev pub lined : ℕ → List (Line T) → Meaning T
  lined n ls = record { count = n; rule = λ A a. line_at A a ls }

  abbrev line : ℕ → ℕ → Word → T → Line T
  line A a w t = record { symbol = A; letter = a; word = w; tally = t }

abbrev pub L : ℕ
L = 76

abbrev pub P : ℕ
P = 80

abbrev pub S : ℕ
S = 83

abbrev pub b : ℕ
b = 0

abbrev pub c : ℕ
c = 1

abbrev pub e : ℕ
e = 3

abbrev pub k : ℕ
k = 5

abbrev pub q : ℕ
q = 6

module _ {T : Type 0} (𝓣 : Group T) where
  abbrev pub seven_lines : T → T → T → List (Line T)
  seven_lines x y z =
      line b L [] x ∷ line b S (b ∷ b ∷ []) 𝓣.zero
      ∷ line c L [] x ∷ line c S (b ∷ c ∷ []) 𝓣.zero
      ∷ line 2 L (b ∷ []) x ∷ line 2 S (b ∷ b ∷ b ∷ []) 𝓣.zero
      ∷ line e L [] x ∷ line e S (b ∷ b ∷ b ∷ []) 𝓣.zero
      ∷ line 4 L [] y ∷ line 4 S (b ∷ b ∷ []) 𝓣.zero
      ∷ line k P (b ∷ []) z ∷ line q P (b ∷ []) 𝓣.zero ∷ []

  abbrev pub seven : T → T → T → Meaning T
  seven x y z = lined 7 (seven_lines x y z)

  abbrev pub four_lines : T → T → List (Line T)
  four_lines x y =
      line 0 L [] 𝓣.zero ∷ line 0 S (1 ∷ []) (𝓣.add y (𝓣.neg x))
      ∷ line 1 L [] 𝓣.zero ∷ line 1 S (0 ∷ []) 𝓣.zero
      ∷ line 2 L [] x ∷ line 2 S (3 ∷ []) 𝓣.zero
      ∷ line 3 L [] y ∷ line 3 S (2 ∷ []) (𝓣.add y (𝓣.neg x)) ∷ []

  abbrev pub four : T → T → Meaning T
  four x y = lined 4 (four_lines x y)

abbrev pub sevens : ℕ → Input
sevens A = get_or ((L ∷ []) ∷ (L ∷ []) ∷ (L ∷ L ∷ []) ∷ (L ∷ []) ∷ (L ∷ []) ∷ (P ∷ L ∷ []) ∷ (P ∷ L ∷ []) ∷ []) A []

abbrev pub fours : ℕ → Input
fours A = L ∷ []

abbrev pub lone : ℕ → Word → View
lone A w C = cond (C == A) (Some w) None

abbrev pub both : View
both C = cond (C == 2) (Some (0 ∷ [])) (cond (C == 3) (Some (1 ∷ [])) None)

module _ {T : Type 0} (𝓣 : Group T) (M : Meaning T) (first : ℕ → Input) where
  abbrev pub row : ℕ → Word → Weighted T
  row A w = record { word = w; tally = offset 𝓣 M first A w }

  abbrev pub alone : ℕ → Word → Sheet T
  alone A w = weighed 𝓣 M first (lone A w)

abbrev pub foot : ℕ → FootMm
foot n = foot_of (n % 2 ^ 32) (omega arith)

pub record Examples {T : Type 0} (𝓣 : Group T) (x y z : T) : Type 0 where
  -- the first inputs are those of the two grammars
  pub seven_first : (A : ℕ) → A < 7 → First 𝓣 (seven 𝓣 x y z) (A ∷ []) (sevens A)
  pub four_first : (A : ℕ) → A < 4 → First 𝓣 (four 𝓣 x y) (A ∷ []) (fours A)
  -- c → b stands in the order, has no offset, and proves itself
  pub c_b_shaped : Shaped 7 (λ A. length (sevens A)) c (b ∷ [])
  pub c_b_offset : offset 𝓣 (seven 𝓣 x y z) sevens c (b ∷ []) ≡ 𝓣.zero
  pub c_b : SelfProving 𝓣 (seven 𝓣 x y z) (alone 𝓣 (seven 𝓣 x y z) sevens c (b ∷ []))
  -- q → k stands in the order, and proves itself; its offset is -10 millimetres
  pub q_k_shaped : Shaped 7 (λ A. length (sevens A)) q (k ∷ [])
  pub q_k_offset : offset 𝓣 (seven 𝓣 x y z) sevens q (k ∷ []) ≡ 𝓣.neg z
  pub q_k_feet : (offset foot_group (seven foot_group (foot 270) (foot 265) (foot 10)) sevens q (k ∷ [])).mm ≡ 2 ^ 32 - 10
  pub q_k : SelfProving 𝓣 (seven 𝓣 x y z) (alone 𝓣 (seven 𝓣 x y z) sevens q (k ∷ []))
  -- e → b agrees before S, and not at S
  pub e_b_before : (a : ℕ) → a < S → Agrees 𝓣 (seven 𝓣 x y z) (alone 𝓣 (seven 𝓣 x y z) sevens e (b ∷ [])) e (row 𝓣 (seven 𝓣 x y z) sevens e (b ∷ [])) a
  pub e_b_not : ¬ Agrees 𝓣 (seven 𝓣 x y z) (alone 𝓣 (seven 𝓣 x y z) sevens e (b ∷ [])) e (row 𝓣 (seven 𝓣 x y z) sevens e (b ∷ [])) S
  -- b → c does not stand in the order: of two symbols with one norm b has the smaller number
  pub b_c : ¬ Shaped 7 (λ A. length (sevens A)) b (c ∷ [])
  -- bb does not take q's first input
  pub q_bb : takes 𝓣 (seven 𝓣 x y z) (b ∷ b ∷ []) (sevens q) ≡ None
  -- of the four symbols, 2 → 0 and 3 → 1 stand in the order; each alone disagrees, and both together prove themselves
  pub shaped_2 : Shaped 4 (λ A. length (fours A)) 2 (0 ∷ [])
  pub shaped_3 : Shaped 4 (λ A. length (fours A)) 3 (1 ∷ [])
  pub alone_2 : ¬ Agrees 𝓣 (four 𝓣 x y) (alone 𝓣 (four 𝓣 x y) fours 2 (0 ∷ [])) 2 (row 𝓣 (four 𝓣 x y) fours 2 (0 ∷ [])) S
  pub alone_3 : ¬ Agrees 𝓣 (four 𝓣 x y) (alone 𝓣 (four 𝓣 x y) fours 3 (1 ∷ [])) 3 (row 𝓣 (four 𝓣 x y) fours 3 (1 ∷ [])) S
  pub together : SelfProving 𝓣 (four 𝓣 x y) (weighed 𝓣 (four 𝓣 x y) fours both)
