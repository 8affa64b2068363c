-- What is proved of witnesses: for every tally, and every well-formed grammar whose rules name only its symbols.
--
-- CutFinds, CutTakes     the cut finds the front that a word takes, and what it finds is taken
-- ForkLaw                two words of one norm are one, or begin apart
-- OffsetLaw              what the offset of a fork's row is
-- PairLaw, NoFirstLaw    where the two words of a fork do not differ on the candidates, its row is true, and there is a row
-- LengthLaw              how long a candidate is
-- WalkLaw                symbol by symbol, when a word and its normal form do not differ
-- BlameFinds             where they differ, some row is not true
-- StageLaw, StageFinds   the same for a fork of normal forms: from a row that is not true to its pair, or to a row before it
-- Blamed 𝓣 M D k         a row of D, and an input of at most k letters on which it is not true
-- Stage … F D x y p q z  an input with its length, on which x with p and y with q differ, or for which a row of D is to blame
-- Bounds                 the lengths along the stages
-- WitnessLaws            all of these for one grammar
-- WitnessesLaw 𝓣         they hold in every such grammar
--
-- Assumes nothing.
use Rattle.std.specs.Prelude.{◌≡◌, ℕ, ◌+◌, ◌*◌, ◌<◌, ◌≤◌, ◌⊎◌, [], ◌∷◌, ◌++◌, length, Some, None}
use Rattle.std.specs.List.{AllByRecursion}
use Rattle.tally.specs.Group.{Group}
use Rattle.grammar.specs.Meaning.{Word, Input, Weighted, Meaning, Below, WellFormed}
use Rattle.grammar.specs.Takes.{shift, takes}
use Rattle.norm.specs.Norms.{Taken, Normed, norms, firsts, Closed}
use Rattle.rows.specs.Sheets.{Sheet, Normal}
use Rattle.witness.specs.Alike.{AlikeOn, TrueOn, NormalOn, TrueOnFront, NormalOnRest, Cut, cut}
use Rattle.witness.specs.Forks.{Forked, Fork, later_word, row_word, row_with, completed, candidates, ForkAlike, ForkOf}
use Rattle.witness.specs.History.{WitnessLaw, HistoryLaw}

module _ {T : Type 0} (𝓣 : Group T) (M : Meaning T) where
  abbrev pub CutFinds : Type 0
  CutFinds = (w : Word) (s r : Input) → Taken 𝓣 M w s → cut M w (s ++ r) ≡ Some (record { front = s; rest = r })

  abbrev pub CutTakes : Type 0
  CutTakes = (w : Word) (s : Input) (c : Cut) → cut M w s ≡ Some c → Taken 𝓣 M w c.front × (s ≡ c.front ++ c.rest)

  pub record WalkLaw : Type 0 where
    -- at the end of the word; at a symbol without a row; at a symbol with one
    pub ends : (D : Sheet T) (s : Input) → NormalOn 𝓣 M D [] s
    pub keeps : (D : Sheet T) (s : Input) (A : ℕ) (r : Word) → D A ≡ None → NormalOnRest 𝓣 M D r (cut M (A ∷ []) s) → NormalOn 𝓣 M D (A ∷ r) s
    pub puts : (D : Sheet T) (s : Input) (A : ℕ) (r : Word) (m : Weighted T) → D A ≡ Some m →
        TrueOnFront 𝓣 M A m (cut M (A ∷ []) s) → TrueOnFront 𝓣 M A m (cut M m.word s) → NormalOn 𝓣 M D (m.word ++ r) s → NormalOn 𝓣 M D (A ∷ r) s

  pub record Blamed (D : Sheet T) (k : ℕ) : Type 0 where
    pub symbol : ℕ
    pub row : Weighted T
    pub input : Input
    pub marked : D symbol ≡ Some row
    pub short : length input ≤ k
    pub untrue : ¬ TrueOn 𝓣 M symbol row input

  abbrev pub BlameFinds : Type 0
  BlameFinds = (D : Sheet T) (x z : Word) (s : T) (t : Input) → Normal 𝓣 D x z s → ¬ (takes 𝓣 M x t ≡ shift 𝓣 s (takes 𝓣 M z t)) → Blamed D (length t)

  -- the pair and its normal forms do not differ on t
  abbrev pub Passed : Sheet T → Word → Word → T → T → Input → Type 0
  Passed D x y p q t = AlikeOn 𝓣 M p q x y t × NormalOn 𝓣 M D x t × NormalOn 𝓣 M D y t

module _ {T : Type 0} (𝓣 : Group T) (M : Meaning T) (norm : ℕ → ℕ) (first : ℕ → Input) where
  abbrev pub ForkLaw : Type 0
  ForkLaw = (x y : Word) → Below M.count x → Below M.count y → norms norm x ≡ norms norm y → (x ≡ y) ⊎ Forked x y

  -- the row is true on the later symbol's first input
  abbrev pub TrueFirst : Fork 𝓣 M norm first → T → Type 0
  TrueFirst F o = TrueOn 𝓣 M F.later (row_with 𝓣 M norm first F o) (first F.later)

  -- then its offset is what the tally of the later symbol's run is more than that of the earlier symbol on its first input
  abbrev pub OffsetLaw : Type 0
  OffsetLaw = (F : Fork 𝓣 M norm first) (o f : T) → TrueFirst F o → takes 𝓣 M (F.earlier ∷ []) (first F.earlier) ≡ Some f → F.left.tally ≡ 𝓣.add f o

  abbrev pub PairLaw : Type 0
  PairLaw = (F : Fork 𝓣 M norm first) (o : T) → TrueFirst F o → (z : Input) →
      AllByRecursion (ForkAlike 𝓣 M norm first F) (candidates 𝓣 M norm first F z) → TrueOn 𝓣 M F.later (row_with 𝓣 M norm first F o) z

  abbrev pub NoFirstLaw : Type 0
  NoFirstLaw = (F : Fork 𝓣 M norm first) → takes 𝓣 M (row_word 𝓣 M norm first F) (first F.later) ≡ None →
      AllByRecursion (ForkAlike 𝓣 M norm first F) (completed 𝓣 M norm first F (first F.later)) → ⊥

  -- t is a candidate made from z, with the first input of the common front before it
  abbrev pub Short : Fork 𝓣 M norm first → Input → Input → Type 0
  Short F z t = length t + norm F.later ≤ length z + norms norm (later_word 𝓣 M norm first F)

  abbrev pub LengthLaw : Type 0
  LengthLaw = (F : Fork 𝓣 M norm first) (z : Input) → AllByRecursion (λ c. Short F z (firsts first F.common ++ c)) (candidates 𝓣 M norm first F z)

  abbrev pub StageLaw : Type 0
  StageLaw = (F : Fork 𝓣 M norm first) (D : Sheet T) (x y : Word) (p q o : T) → ForkOf 𝓣 M norm first F D x y p q → TrueFirst F o → (z : Input) →
      AllByRecursion (λ c. Passed 𝓣 M D x y p q (firsts first F.common ++ c)) (candidates 𝓣 M norm first F z) → TrueOn 𝓣 M F.later (row_with 𝓣 M norm first F o) z

  pub record Stage (F : Fork 𝓣 M norm first) (D : Sheet T) (x y : Word) (p q : T) (z : Input) : Type 0 where
    pub input : Input
    pub short : Short F z input
    pub differs : (¬ AlikeOn 𝓣 M p q x y input) ⊎ Blamed 𝓣 M D (length input)

  abbrev pub StageFinds : Type 0
  StageFinds = (F : Fork 𝓣 M norm first) (D : Sheet T) (x y : Word) (p q o : T) → ForkOf 𝓣 M norm first F D x y p q → TrueFirst F o → (z : Input) →
      ¬ TrueOn 𝓣 M F.later (row_with 𝓣 M norm first F o) z → Stage F D x y p q z

  pub record WitnessLaws : Type 0 where
    pub cut_finds : CutFinds 𝓣 M
    pub cut_takes : CutTakes 𝓣 M
    pub forked : ForkLaw
    pub row_offset : OffsetLaw
    pub row_true : PairLaw
    pub row_there : NoFirstLaw
    pub candidate_short : LengthLaw
    pub walk : WalkLaw 𝓣 M
    pub blame : BlameFinds 𝓣 M
    pub stage : StageLaw
    pub stage_finds : StageFinds
    pub history : (x₀ y₀ : Word) → HistoryLaw 𝓣 M norm first x₀ y₀
    pub witness : (x₀ y₀ : Word) (v : ℕ) → WitnessLaw 𝓣 M norm first x₀ y₀ v

abbrev pub WitnessesLaw : {T : Type 0} → Group T → Type 0
WitnessesLaw {T} 𝓣 = (M : Meaning T) (norm : ℕ → ℕ) (first : ℕ → Input) → WellFormed M → Closed M → Normed 𝓣 M norm first → WitnessLaws 𝓣 M norm first

-- the norm of a word of known symbols
abbrev pub NormsBound : Type 0
NormsBound = (norm : ℕ → ℕ) (n v : ℕ) → ((A : ℕ) → A < n → norm A ≤ v) → (w : Word) → Below n w → norms norm w ≤ length w * v

-- what a stage adds at most: t letters, for a row of norm a, from z letters and a word of norm x, with the e letters that lead to it
abbrev pub StageBound : Type 0
StageBound = (v t z a x e : ℕ) → x + e ≤ 8 * v → t + a ≤ z + x → t + e ≤ z + 8 * v

-- rows counted from 1: the i-th, below n, that is not true on z letters, is within the bound; and so is what a stage goes to from there
abbrev pub StartBound : Type 0
StartBound = (v n i z : ℕ) → z ≤ 8 * v → i < n → z + 8 * v * i ≤ 8 * n * v

abbrev pub TotalBound : Type 0
TotalBound = (v n i j z t : ℕ) → z + 8 * v * i ≤ 8 * n * v → j < i → t ≤ z + 8 * v → t + 8 * v * j ≤ 8 * n * v

pub record Bounds : Type 0 where
  pub norms : NormsBound
  pub stage : StageBound
  pub start : StartBound
  pub total : TotalBound
