-- How a pair of words is treated.
--
-- Pair T                two words, each with a sum that comes before it
-- pair_of p             the pair that is handed on
-- Workable n norm P     both words are of symbols below n, and their norms are at most 512
-- ForkAt x y A B        at the first place where x and y have different symbols x has A and y has B
-- OneBegins x y         x begins with y, or y with x
-- Treatment             see the declared enum: the pair agrees, or is different, or a row is written
-- Mends … A B o         what is done where the later symbol is A and the earlier B: B's first input is read from A, and A gets B and what is left, if that can be a row
-- Treats … P o          what is done with the pair P over the sheet D
--
-- Assumes nothing.
use Rattle.std.specs.Prelude.{◌≡◌, ℕ, ◌+◌, ◌≤◌, ◌⊎◌, [], ◌∷◌, ◌++◌, Some, None}
use Rattle.tally.specs.Group.{Group}
use Rattle.grammar.specs.Meaning.{Word, Input, Weighted, Meaning, Below}
use Rattle.norm.specs.Tabled.{held}
use Rattle.norm.specs.Words.{ran}
use Rattle.norm.specs.Norms.{norms, Taken, Earlier}
use Rattle.rows.specs.Sheets.{Sheet, Normal}
use Rattle.comparison.specs.declared.pair.Pair as pairs
use Rattle.comparison.specs.declared.treatment.Treatment.{Treatment}
use Rattle.comparison.specs.declared.treatment.Treatment.TheVariants.{Agree, Different, Mend}

pub record Pair (T : Type 0) : Type 0 where
  pub one : Word
  pub two : Word
  pub before_one : T
  pub before_two : T

abbrev pub pair_of : {T : Type 0} → pairs.Pair T → Pair T
pair_of p = record { one = p.one.now; two = p.two.now; before_one = p.before_one; before_two = p.before_two }

pub record Workable {T : Type 0} (n : ℕ) (norm : ℕ → ℕ) (P : Pair T) : Type 0 where
  pub known_one : Below n P.one
  pub known_two : Below n P.two
  pub small_one : norms norm P.one ≤ 512
  pub small_two : norms norm P.two ≤ 512

pub record ForkAt (x y : Word) (A B : ℕ) : Type 0 where
  pub common : Word
  pub left : Word
  pub right : Word
  pub one : x ≡ common ++ A ∷ left
  pub two : y ≡ common ++ B ∷ right
  pub apart : ¬ (A ≡ B)

abbrev pub OneBegins : Word → Word → Type 0
OneBegins x y = (r : Word) × ((x ≡ y ++ r) ⊎ (y ≡ x ++ r))

module _ {T : Type 0} (𝓣 : Group T) (M : Meaning T) (norm : ℕ → ℕ) (first : ℕ → Input) where
  pub data Mends (A B : ℕ) : Treatment → Type 0 where
    cannot_read : ran 𝓣 M (A ∷ []) (first B) ≡ None → Mends A B Different
    other_norm : (m : Weighted T) → ran 𝓣 M (A ∷ []) (first B) ≡ Some m → ¬ (norm B + norms norm m.word ≡ norm A) → Mends A B Different
    misses_first : (m : Weighted T) → ran 𝓣 M (A ∷ []) (first B) ≡ Some m → norm B + norms norm m.word ≡ norm A → ¬ Taken 𝓣 M (B ∷ m.word) (first A) → Mends A B Different
    row : (m : Weighted T) (w : _) → ran 𝓣 M (A ∷ []) (first B) ≡ Some m → norm B + norms norm m.word ≡ norm A → Taken 𝓣 M (B ∷ m.word) (first A) → held w ≡ B ∷ m.word → Mends A B (Mend A w)

  pub data Treats (D : Sheet T) (P : Pair T) : Treatment → Type 0 where
    unlike_norms : ¬ (norms norm P.one ≡ norms norm P.two) → Treats D P Different
    agrees : (z : Word) (s r : T) → norms norm P.one ≡ norms norm P.two → Normal 𝓣 D P.one z s → Normal 𝓣 D P.two z r → 𝓣.add P.before_one s ≡ 𝓣.add P.before_two r → Treats D P Agree
    unlike_sums : (z : Word) (s r : T) → norms norm P.one ≡ norms norm P.two → Normal 𝓣 D P.one z s → Normal 𝓣 D P.two z r → ¬ (𝓣.add P.before_one s ≡ 𝓣.add P.before_two r) → Treats D P Different
    later_one : (x y : Word) (s r : T) (A B : ℕ) (o : Treatment) → norms norm P.one ≡ norms norm P.two → Normal 𝓣 D P.one x s → Normal 𝓣 D P.two y r → ForkAt x y A B → Earlier norm B A → Mends A B o → Treats D P o
    later_two : (x y : Word) (s r : T) (A B : ℕ) (o : Treatment) → norms norm P.one ≡ norms norm P.two → Normal 𝓣 D P.one x s → Normal 𝓣 D P.two y r → ForkAt x y A B → Earlier norm A B → Mends B A o → Treats D P o
