-- The groups of the makes of tallies.
--
-- untallied_group         one value
-- foot_group, last_group  millimetres modulo 2 ^ 32, one construction at two types
-- odd_group               bits joined by exclusive or
-- pair_group              two groups side by side
--
-- Assumes nothing.
use Rattle.std.specs.Prelude.{◌≡◌, ℕ, ◌+◌, ◌-◌, ◌%◌, ◌^◌, ◌<◌, bit_xor, refl}
use Rattle.std.proofs.Common.{ap, ap₂, arith}
use Rattle.std.proofs.Math.Bridge.{le_prop}
use mathlib.Core.HLevel.{is_prop→PathP}
use Rattle.std.proofs.Math.Decide.{ℕ_discrete}
use Rattle.std.proofs.lemmas.Nat.{xor_lt, xor_comm}
use Rattle.std.specs.Int.Bits.{xor_assoc, xor_self, xor_zero_l}
use Rattle.tally.specs.Group.{Group}
use Rattle.tally.specs.declared.untallied.Untallied.{Untallied}
use Rattle.tally.specs.declared.foot_mm.FootMm.{FootMm}
use Rattle.tally.specs.declared.last_mm.LastMm.{LastMm}
use Rattle.tally.specs.declared.odd_ones.OddOnes.{OddOnes}
use Rattle.tally.specs.declared.pair.Pair.{Pair}

-- a test of equality along a map that tells values apart
pub decided : {T U : Type 0} (f : T → U) → ((a b : T) → f a ≡ f b → a ≡ b) → ((u v : U) → Dec (u ≡ v)) → (a b : T) → Dec (a ≡ b)
decided f ext test a b = elim (test (f a) (f b)) [ yes e ↦ yes (ext a b e) | no h ↦ no (λ e. h (ap f e)) ]

abbrev pub untallied_group : Group Untallied
untallied_group = record {
  zero = record {};
  add = λ _ _. record {};
  neg = λ _. record {};
  assoc = λ _ _ _. refl;
  comm = λ _ _. refl;
  left = λ _. refl;
  inverse = λ _. refl;
  decides = λ _ _. yes refl;
}

-- A type whose values are the numbers below 2 ^ 32, and nothing else.
pub record Numbered (T : Type 0) : Type 0 where
  pub number : T → ℕ
  pub of : (n : ℕ) → n < 2 ^ 32 → T
  pub fits : (x : T) → number x < 2 ^ 32
  pub reads : (n : ℕ) (h : n < 2 ^ 32) → number (of n h) ≡ n
  pub same : (x y : T) → number x ≡ number y → x ≡ y

-- the arithmetic of the laws
pub residue_left : (x : ℕ) → x < 2 ^ 32 → (0 + x) % 2 ^ 32 ≡ x
residue_left x h = omega arith

pub residue_inverse : (x : ℕ) → x < 2 ^ 32 → ((2 ^ 32 - x) % 2 ^ 32 + x) % 2 ^ 32 ≡ 0
residue_inverse x h = omega arith

pub residue_assoc : (x y z : ℕ) → ((x + y) % 2 ^ 32 + z) % 2 ^ 32 ≡ (x + (y + z) % 2 ^ 32) % 2 ^ 32
residue_assoc x y z = omega arith

pub residue_comm : (x y : ℕ) → (x + y) % 2 ^ 32 ≡ (y + x) % 2 ^ 32
residue_comm x y = omega arith

abbrev pub residue_group : {T : Type 0} → Numbered T → Group T
residue_group R = record {
  zero = R.of 0 (omega arith);
  add = λ x y. R.of ((R.number x + R.number y) % 2 ^ 32) (omega arith);
  neg = λ x. R.of ((2 ^ 32 - R.number x) % 2 ^ 32) (omega arith);
  assoc = λ x y z. R.same _ _ (simp R.reads (residue_assoc (R.number x) (R.number y) (R.number z)));
  comm = λ x y. R.same _ _ (simp R.reads (residue_comm (R.number x) (R.number y)));
  left = λ x. R.same _ _ (simp R.reads (residue_left (R.number x) (R.fits x)));
  inverse = λ x. R.same _ _ (simp R.reads (residue_inverse (R.number x) (R.fits x)));
  decides = decided R.number R.same ℕ_discrete;
}

abbrev pub foot_of : (n : ℕ) → n < 2 ^ 32 → FootMm
foot_of n h = record { mm = n; fits = h }

pub foot_same : (x y : FootMm) → x.mm ≡ y.mm → x ≡ y
foot_same x y e = λ i. foot_of (e i) (is_prop→PathP (λ j. e j < 2 ^ 32) (λ j. le_prop) x.fits y.fits i)

abbrev pub foot_group : Group FootMm
foot_group = residue_group (record { number = λ x. x.mm; of = foot_of; fits = λ x. x.fits; reads = λ n h. refl; same = foot_same })

abbrev pub last_of : (n : ℕ) → n < 2 ^ 32 → LastMm
last_of n h = record { mm = n; fits = h }

pub last_same : (x y : LastMm) → x.mm ≡ y.mm → x ≡ y
last_same x y e = λ i. last_of (e i) (is_prop→PathP (λ j. e j < 2 ^ 32) (λ j. le_prop) x.fits y.fits i)

abbrev pub last_group : Group LastMm
last_group = residue_group (record { number = λ x. x.mm; of = last_of; fits = λ x. x.fits; reads = λ n h. refl; same = last_same })

abbrev pub odd_of : (n : ℕ) → n < 2 ^ 32 → OddOnes
odd_of n h = record { bits = n; fits = h }

pub odd_same : (x y : OddOnes) → x.bits ≡ y.bits → x ≡ y
odd_same x y e = λ i. odd_of (e i) (is_prop→PathP (λ j. e j < 2 ^ 32) (λ j. le_prop) x.fits y.fits i)

abbrev pub odd_group : Group OddOnes
odd_group = record {
  zero = odd_of 0 (omega arith);
  add = λ x y. odd_of (bit_xor x.bits y.bits) (xor_lt 32 x.bits y.bits x.fits y.fits);
  neg = λ x. x;
  assoc = λ x y z. odd_same _ _ (xor_assoc x.bits y.bits z.bits);
  comm = λ x y. odd_same _ _ (xor_comm x.bits y.bits);
  left = λ x. odd_same _ _ (xor_zero_l x.bits);
  inverse = λ x. odd_same _ _ (xor_self x.bits);
  decides = decided (λ x. x.bits) odd_same ℕ_discrete;
}

module _ {X Y : Type 0} where
  abbrev pub pair_of : X → Y → Pair X Y
  pair_of x y = record { 0 = x; 1 = y }

  pub both : (p q : Pair X Y) → Dec (p.0 ≡ q.0) → Dec (p.1 ≡ q.1) → Dec (p ≡ q)
  both p q (yes d) (yes e) = yes (ap₂ pair_of d e)
  both p q (yes d) (no f) = no (λ e. f (ap (λ r. r.1) e))
  both p q (no f) _ = no (λ e. f (ap (λ r. r.0) e))

  abbrev pub pair_group : Group X → Group Y → Group (Pair X Y)
  pair_group 𝓧 𝓨 = record {
    zero = pair_of 𝓧.zero 𝓨.zero;
    add = λ p q. pair_of (𝓧.add p.0 q.0) (𝓨.add p.1 q.1);
    neg = λ p. pair_of (𝓧.neg p.0) (𝓨.neg p.1);
    assoc = λ p q r. ap₂ pair_of (𝓧.assoc p.0 q.0 r.0) (𝓨.assoc p.1 q.1 r.1);
    comm = λ p q. ap₂ pair_of (𝓧.comm p.0 q.0) (𝓨.comm p.1 q.1);
    left = λ p. ap₂ pair_of (𝓧.left p.0) (𝓨.left p.1);
    inverse = λ p. ap₂ pair_of (𝓧.inverse p.0) (𝓨.inverse p.1);
    decides = λ p q. both p q (𝓧.decides p.0 q.0) (𝓨.decides p.1 q.1);
  }
