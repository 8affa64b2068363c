-- The kinds of a tally, and its numbers in a file.
--
-- Lossless ks numbers made   a tally of the kinds ks has one number for each, below 2 ^ 32; of two kinds or fewer, numbers and tally make each other
-- K_kinds                    the kinds of the make K: untallied none, a make with only one number its kind, a pair its left's and then its right's
-- K_numbers x                the numbers of the tally x, in the order of the kinds
-- K_made a b                 the tally of the numbers a and b; those without a kind are ignored
-- K_lossless                 the make K is lossless
-- K_numbered                 how a tally of the make K, with only one number, and that number make each other
--
-- Assumes nothing.
use Rattle.std.specs.Prelude.{◌≡◌, ℕ, ◌+◌, ◌%◌, ◌^◌, ◌<◌, ◌≤◌, List, [], ◌∷◌, ◌++◌, length, take, slice_index, refl}
use Rattle.std.proofs.Common.{ap, ap₂, ◌∙◌, arith, length-append}
use Rattle.tally.specs.Makes.{Numbered, foot_of, foot_same, last_of, last_same, odd_of, odd_same, pair_of}
use Rattle.tally.specs.declared.untallied.Untallied.{Untallied}
use Rattle.tally.specs.declared.foot_mm.FootMm.{FootMm}
use Rattle.tally.specs.declared.last_mm.LastMm.{LastMm}
use Rattle.tally.specs.declared.odd_ones.OddOnes.{OddOnes}
use Rattle.tally.specs.declared.pair.Pair.{Pair}
use Rattle.layout.specs.Contents.{All}
use Rattle.layout.specs.Kinds.{byte_of}
use Rattle.layout.specs.declared.kind.Kind.{Kind}
use Rattle.layout.specs.declared.kind.Kind.TheVariants as kinds

pub record Lossless {T : Type 0} (ks : List ℕ) (numbers : T → List ℕ) (made : ℕ → ℕ → T) : Type 0 where
  pub size : (x : T) → length (numbers x) ≡ length ks
  pub small : (x : T) → All (λ n. n < 2 ^ 32) (numbers x)
  pub back : length ks ≤ 2 → (x : T) → made (slice_index (numbers x) 0) (slice_index (numbers x) 1) ≡ x
  pub there : length ks ≤ 2 → (a b : ℕ) → a < 2 ^ 32 → b < 2 ^ 32 → numbers (made a b) ≡ take (length ks) (a ∷ b ∷ [])

abbrev pub untallied_kinds : List ℕ
untallied_kinds = []

abbrev pub untallied_numbers : Untallied → List ℕ
untallied_numbers x = []

abbrev pub untallied_made : ℕ → ℕ → Untallied
untallied_made a b = record {}

pub untallied_lossless : Lossless untallied_kinds untallied_numbers untallied_made
untallied_lossless = record {
  size = λ _. refl;
  small = λ _. tt;
  back = λ _ _. refl;
  there = λ _ _ _ _ _. refl;
}

-- a number below the limit is its own residue
pub residue_same : (n : ℕ) → n < 2 ^ 32 → n % 2 ^ 32 ≡ n
residue_same n h = omega arith

-- the one kind of a make with only one number
abbrev pub only_kinds : Kind → List ℕ
only_kinds kind = byte_of kind ∷ []

-- one construction for the makes with only one number
module _ {T : Type 0} (R : Numbered T) where
  abbrev pub only_numbers : T → List ℕ
  only_numbers x = R.number x ∷ []

  abbrev pub only_made : ℕ → ℕ → T
  only_made a b = R.of (a % 2 ^ 32) (omega arith)

  pub only_lossless : (k : ℕ) → Lossless (k ∷ []) only_numbers only_made
  only_lossless k = record {
    size = λ _. refl;
    small = λ x. (R.fits x, tt);
    back = λ _ x. R.same _ _ (R.reads _ _ ∙ residue_same (R.number x) (R.fits x));
    there = λ _ a b ha hb. ap (λ n. n ∷ []) (R.reads _ _ ∙ residue_same a ha);
  }

abbrev pub foot_numbered : Numbered FootMm
foot_numbered = record { number = λ x. x.mm; of = foot_of; fits = λ x. x.fits; reads = λ n h. refl; same = foot_same }

abbrev pub last_numbered : Numbered LastMm
last_numbered = record { number = λ x. x.mm; of = last_of; fits = λ x. x.fits; reads = λ n h. refl; same = last_same }

abbrev pub odd_numbered : Numbered OddOnes
odd_numbered = record { number = λ x. x.bits; of = odd_of; fits = λ x. x.fits; reads = λ n h. refl; same = odd_same }

-- the three makes with only one number are lossless
pub foot_lossless : Lossless (only_kinds kinds.Foot) (only_numbers foot_numbered) (only_made foot_numbered)
foot_lossless = only_lossless foot_numbered (byte_of kinds.Foot)

pub last_lossless : Lossless (only_kinds kinds.Last) (only_numbers last_numbered) (only_made last_numbered)
last_lossless = only_lossless last_numbered (byte_of kinds.Last)

pub odd_lossless : Lossless (only_kinds kinds.OddOnes) (only_numbers odd_numbered) (only_made odd_numbered)
odd_lossless = only_lossless odd_numbered (byte_of kinds.OddOnes)

abbrev pub pair_kinds : List ℕ → List ℕ → List ℕ
pair_kinds ks ls = ks ++ ls

-- what holds of each of two lists holds of both together
pub all_append : {A : Type 0} (P : A → Type 0) (xs ys : List A) → All P xs → All P ys → All P (xs ++ ys)
all_append P [] ys p q = q
all_append P (x ∷ xs) ys p q = (p.0, all_append P xs ys p.1 q)

module _ {X Y : Type 0} where
  abbrev pub pair_numbers : (X → List ℕ) → (Y → List ℕ) → Pair X Y → List ℕ
  pair_numbers f g p = f p.0 ++ g p.1

  -- the left takes as many numbers as it has kinds, the right takes the rest
  abbrev pub pair_made : List ℕ → (ℕ → ℕ → X) → (ℕ → ℕ → Y) → ℕ → ℕ → Pair X Y
  pair_made [] f g a b = pair_of (f 0 0) (g a b)
  pair_made (k ∷ []) f g a b = pair_of (f a 0) (g b 0)
  pair_made (k ∷ j ∷ ks) f g a b = pair_of (f a b) (g 0 0)

  -- the numbers ns of the left and ms of the right make the pair again
  pub pair_back : (f : ℕ → ℕ → X) (g : ℕ → ℕ → Y) (p : Pair X Y) (ks ns ms : List ℕ) → length ns ≡ length ks → length ns + length ms ≤ 2 →
      f (slice_index ns 0) (slice_index ns 1) ≡ p.0 → g (slice_index ms 0) (slice_index ms 1) ≡ p.1 → pair_made ks f g (slice_index (ns ++ ms) 0) (slice_index (ns ++ ms) 1) ≡ p
  pair_back f g p [] [] ms size few d e = ap₂ pair_of d e
  pair_back f g p [] (n ∷ ns) ms size few d e = absurd (omega arith)
  pair_back f g p (k ∷ []) [] ms size few d e = absurd (omega arith)
  pair_back f g p (k ∷ []) (n ∷ []) [] size few d e = ap₂ pair_of d e
  pair_back f g p (k ∷ []) (n ∷ []) (m ∷ []) size few d e = ap₂ pair_of d e
  pair_back f g p (k ∷ []) (n ∷ []) (m ∷ l ∷ ms) size few d e = absurd (omega arith)
  pair_back f g p (k ∷ []) (n ∷ o ∷ ns) ms size few d e = absurd (omega arith)
  pair_back f g p (k ∷ j ∷ ks) [] ms size few d e = absurd (omega arith)
  pair_back f g p (k ∷ j ∷ ks) (n ∷ []) ms size few d e = absurd (omega arith)
  pair_back f g p (k ∷ j ∷ ks) (n ∷ o ∷ ns) [] size few d e = ap₂ pair_of d e
  pair_back f g p (k ∷ j ∷ ks) (n ∷ o ∷ ns) (m ∷ ms) size few d e = absurd (omega arith)

  -- and the pair's numbers are those that it was made of
  pub pair_there : (F : X → List ℕ) (G : Y → List ℕ) (f : ℕ → ℕ → X) (g : ℕ → ℕ → Y) (ks ls : List ℕ) → Lossless ks F f → Lossless ls G g → length ks + length ls ≤ 2 →
      (a b : ℕ) → a < 2 ^ 32 → b < 2 ^ 32 → pair_numbers F G (pair_made ks f g a b) ≡ take (length (ks ++ ls)) (a ∷ b ∷ [])
  pair_there F G f g [] ls 𝓕 𝓖 few a b ha hb = ap₂ ◌++◌ (𝓕.there (omega arith) 0 0 (omega arith) (omega arith)) (𝓖.there (omega arith) a b ha hb)
  pair_there F G f g (k ∷ []) [] 𝓕 𝓖 few a b ha hb = ap₂ ◌++◌ (𝓕.there (omega arith) a 0 ha (omega arith)) (𝓖.there (omega arith) b 0 hb (omega arith))
  pair_there F G f g (k ∷ []) (l ∷ []) 𝓕 𝓖 few a b ha hb = ap₂ ◌++◌ (𝓕.there (omega arith) a 0 ha (omega arith)) (𝓖.there (omega arith) b 0 hb (omega arith))
  pair_there F G f g (k ∷ []) (l ∷ m ∷ ls) 𝓕 𝓖 few a b ha hb = absurd (omega arith)
  pair_there F G f g (k ∷ j ∷ []) [] 𝓕 𝓖 few a b ha hb = ap₂ ◌++◌ (𝓕.there (omega arith) a b ha hb) (𝓖.there (omega arith) 0 0 (omega arith) (omega arith))
  pair_there F G f g (k ∷ j ∷ []) (l ∷ ls) 𝓕 𝓖 few a b ha hb = absurd (omega arith)
  pair_there F G f g (k ∷ j ∷ i ∷ ks) ls 𝓕 𝓖 few a b ha hb = absurd (omega arith)

  pub pair_lossless : (F : X → List ℕ) (G : Y → List ℕ) (f : ℕ → ℕ → X) (g : ℕ → ℕ → Y) (ks ls : List ℕ) → Lossless ks F f → Lossless ls G g → Lossless (pair_kinds ks ls) (pair_numbers F G) (pair_made ks f g)
  pair_lossless F G f g ks ls 𝓕 𝓖 = record {
    size = λ p. simp (length-append, 𝓕.size, 𝓖.size);
    small = λ p. all_append _ (F p.0) (G p.1) (𝓕.small p.0) (𝓖.small p.1);
    back = λ few p.
        let sum = length-append ks ls in
        let left = 𝓕.size p.0 in
        let right = 𝓖.size p.1 in
        pair_back f g p ks (F p.0) (G p.1) left (omega arith) (𝓕.back (omega arith) p.0) (𝓖.back (omega arith) p.1);
    there = λ few. let sum = length-append ks ls in pair_there F G f g ks ls 𝓕 𝓖 (omega arith);
  }
