-- Sheets of rows: offsets, normal forms, agreement, truth.
--
-- View                     the words of the marked rows, by their symbols
-- Sheet T                  the marked rows, each a word with its offset
-- difference 𝓣 o u         what the first tally is more than the second
-- offset 𝓣 M first A w     the tally of A's first input by A, less its tally by w
-- weighed 𝓣 M first V      the sheet of the rows of V, each with its offset
-- unweighed D              the words of a sheet's rows
-- Normal 𝓣 D x z s         z is the normal form of x and s its sum: w is put for A and the offset added, until no symbol has a row
-- Meets 𝓣 D s p q          neither step is there; or both are, and their normal forms are equal, words and sums, with s before the second
-- Agrees 𝓣 M D A m a       the row m of A agrees at a: A and m's word step together
-- SelfProving 𝓣 M D        every marked row agrees at every letter
-- Proves 𝓣 D x y           x and y have equal normal forms, words and sums
-- TrueRow 𝓣 M A m          A and m's word take the same inputs, the tally by A being the offset plus the tally by the word
-- Shaped n norm A w        w may be a row of A: symbols below n, A's norm, not one symbol of no smaller number
-- Ranked n norm V          every row is so shaped
-- Extends D E              the rows of D, and others for symbols that have none in D
-- marked D k               how many symbols below k have a row
--
-- Assumes nothing.
use Rattle.std.specs.Prelude.{◌≡◌, ℕ, zero, suc, ◌+◌, ◌<◌, [], ◌∷◌, ◌++◌, Some, None, Option}
use Rattle.std.specs.Option.{option_map}
use Rattle.tally.specs.Group.{Group}
use Rattle.grammar.specs.Meaning.{Word, Input, Weighted, Meaning, Letter, Below}
use Rattle.grammar.specs.Takes.{step, shift, takes}
use Rattle.norm.specs.Norms.{norms}

abbrev pub View : Type 0
View = ℕ → Option Word

abbrev pub Sheet : Type 0 → Type 0
Sheet T = ℕ → Option (Weighted T)

abbrev pub difference : {T : Type 0} → Group T → Option T → Option T → T
difference 𝓣 None u = 𝓣.zero
difference 𝓣 (Some p) None = 𝓣.zero
difference 𝓣 (Some p) (Some q) = 𝓣.add p (𝓣.neg q)

abbrev pub offset : {T : Type 0} → Group T → Meaning T → (ℕ → Input) → ℕ → Word → T
offset 𝓣 M first A w = difference 𝓣 (takes 𝓣 M (A ∷ []) (first A)) (takes 𝓣 M w (first A))

abbrev pub weighed : {T : Type 0} → Group T → Meaning T → (ℕ → Input) → View → Sheet T
weighed 𝓣 M first V A = option_map (λ w. record { word = w; tally = offset 𝓣 M first A w }) (V A)

abbrev pub unweighed : {T : Type 0} → Sheet T → View
unweighed D A = option_map (λ m. m.word) (D A)

pub data Normal {T : Type 0} (𝓣 : Group T) (D : Sheet T) : Word → Word → T → Type 0 where
  normal_nil : Normal 𝓣 D [] [] 𝓣.zero
  normal_keep : {A : ℕ} {r z : Word} {s : T} → D A ≡ None → Normal 𝓣 D r z s → Normal 𝓣 D (A ∷ r) (A ∷ z) s
  normal_put : {A : ℕ} {r z : Word} {s : T} {m : Weighted T} → D A ≡ Some m → Normal 𝓣 D (m.word ++ r) z s → Normal 𝓣 D (A ∷ r) z (𝓣.add m.tally s)

-- two steps that come to one word, with sums that are equal where s comes before the second
pub record Joined {T : Type 0} (𝓣 : Group T) (D : Sheet T) (s : T) (p q : Weighted T) : Type 0 where
  pub word : Word
  pub one : T
  pub two : T
  pub normal_one : Normal 𝓣 D p.word word one
  pub normal_two : Normal 𝓣 D q.word word two
  pub even : 𝓣.add p.tally one ≡ 𝓣.add (𝓣.add s q.tally) two

abbrev pub Meets : {T : Type 0} → Group T → Sheet T → T → Option (Weighted T) → Option (Weighted T) → Type 0
Meets 𝓣 D s None None = Unit {0}
Meets 𝓣 D s None (Some q) = ⊥
Meets 𝓣 D s (Some p) None = ⊥
Meets 𝓣 D s (Some p) (Some q) = Joined 𝓣 D s p q

module _ {T : Type 0} (𝓣 : Group T) (M : Meaning T) (D : Sheet T) where
  abbrev pub Agrees : ℕ → Weighted T → ℕ → Type 0
  Agrees A m a = Meets 𝓣 D m.tally (M.rule A a) (step M m.word a)

  abbrev pub SelfProving : Type 0
  SelfProving = (A : ℕ) (m : Weighted T) → D A ≡ Some m → (a : ℕ) → Letter a → Agrees A m a

abbrev pub Proves : {T : Type 0} → Group T → Sheet T → Word → Word → Type 0
Proves {T} 𝓣 D x y = (z : Word) × (s : T) × Normal 𝓣 D x z s × Normal 𝓣 D y z s

abbrev pub TrueRow : {T : Type 0} → Group T → Meaning T → ℕ → Weighted T → Type 0
TrueRow 𝓣 M A m = (s : Input) → takes 𝓣 M (A ∷ []) s ≡ shift 𝓣 m.tally (takes 𝓣 M m.word s)

pub record Shaped (n : ℕ) (norm : ℕ → ℕ) (A : ℕ) (w : Word) : Type 0 where
  pub symbol : A < n
  pub below : Below n w
  pub weighs : norms norm w ≡ norm A
  pub lower : (C : ℕ) → w ≡ C ∷ [] → C < A

abbrev pub Ranked : ℕ → (ℕ → ℕ) → View → Type 0
Ranked n norm V = (A : ℕ) (w : Word) → V A ≡ Some w → Shaped n norm A w

abbrev pub Extends : {X : Type 0} → (ℕ → Option X) → (ℕ → Option X) → Type 0
Extends {X} D E = (A : ℕ) (m : X) → D A ≡ Some m → E A ≡ Some m

abbrev pub tell : {X : Type 0} → Option X → ℕ
tell None = 0
tell (Some x) = 1

abbrev pub marked : {X : Type 0} → (ℕ → Option X) → ℕ → ℕ
marked D zero = 0
marked D (suc k) = tell (D k) + marked D k
