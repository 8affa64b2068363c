-- The pairs that are looked at, in their order, and what a turn of a comparison finds.
--
-- sides 𝓣 M D x y o      the two sides of a pair: the given words x and y with zero; or what the row of a symbol and the row's word become by a letter, on the word's side with the offset; none without a step
-- TreatsSides … D p q t  what is done with two sides over the sheet D
-- IsLook D o             o is a pair to look at: the given one, or a row and a letter
-- Before o u             the pair o is looked at before u: the given one first, then by symbol, then letter
-- AgreesAt … D x y o     the pair o agrees
-- RowTurned … A m k r   r is the first letter from k on at which the row m of A does not agree, and what is done there; none where it agrees at all of them
-- Turned … D x y r       r is the first pair that does not agree, and what is done with it; none where all agree
--
-- Assumes nothing.
use Rattle.std.specs.Prelude.{◌≡◌, ℕ, ◌<◌, ◌≤◌, Some, None, Option}
use Rattle.tally.specs.Group.{Group}
use Rattle.grammar.specs.Meaning.{Word, Input, Weighted, Meaning, Letter}
use Rattle.grammar.specs.Takes.{step}
use Rattle.norm.specs.Words.{raised}
use Rattle.rows.specs.Sheets.{Sheet}
use Rattle.survey.specs.Refusals.{Sooner}
use Rattle.comparison.specs.Treating.{Treats}
use Rattle.comparison.specs.declared.origin.Origin.{Origin}
use Rattle.comparison.specs.declared.origin.Origin.TheVariants.{Given, Row}
use Rattle.comparison.specs.declared.treatment.Treatment.{Treatment}
use Rattle.comparison.specs.declared.treatment.Treatment.TheVariants.{Agree, Different}

module _ {T : Type 0} (𝓣 : Group T) (M : Meaning T) (D : Sheet T) where
  abbrev pub row_sides : ℕ → ℕ → Option (Weighted T) → Option (Weighted T) × Option (Weighted T)
  row_sides A a None = (None, None)
  row_sides A a (Some m) = (M.rule A a, raised 𝓣 m.tally (step M m.word a))

  abbrev pub sides : Word → Word → Origin → Option (Weighted T) × Option (Weighted T)
  sides x y Given = (Some (record { word = x; tally = 𝓣.zero }), Some (record { word = y; tally = 𝓣.zero }))
  sides x y (Row A a) = row_sides A a (D A)

abbrev pub IsLook : {T : Type 0} → Sheet T → Origin → Type 0
IsLook D Given = Unit {0}
IsLook {T} D (Row A a) = (m : Weighted T) × (D A ≡ Some m) × Letter a

abbrev pub Before : Origin → Origin → Type 0
Before Given Given = ⊥
Before Given (Row B b) = Unit {0}
Before (Row A a) Given = ⊥
Before (Row A a) (Row B b) = Sooner A a B b

module _ {T : Type 0} (𝓣 : Group T) (M : Meaning T) (norm : ℕ → ℕ) (first : ℕ → Input) (D : Sheet T) where
  pub data TreatsSides (p q : Option (Weighted T)) (t : Treatment) : Type 0 where
    no_rule : p ≡ None → q ≡ None → t ≡ Agree → TreatsSides p q t
    only_one : (m : Weighted T) → p ≡ Some m → q ≡ None → t ≡ Different → TreatsSides p q t
    only_two : (m : Weighted T) → p ≡ None → q ≡ Some m → t ≡ Different → TreatsSides p q t
    both : (m n : Weighted T) → p ≡ Some m → q ≡ Some n → Treats 𝓣 M norm first D (record { one = m.word; two = n.word; before_one = m.tally; before_two = n.tally }) t → TreatsSides p q t

  -- what is done with the row m of A at the letter a
  abbrev pub TreatsRow : ℕ → Weighted T → ℕ → Treatment → Type 0
  TreatsRow A m a = TreatsSides (M.rule A a) (raised 𝓣 m.tally (step M m.word a))

  pub record WrongFrom (A : ℕ) (m : Weighted T) (from a : ℕ) (t : Treatment) : Type 0 where
    pub later : from ≤ a
    pub letter : a ≤ 90
    pub treated : TreatsRow A m a t
    pub wrong : ¬ (t ≡ Agree)
    pub before : (b : ℕ) → from ≤ b → b < a → TreatsRow A m b Agree

  abbrev pub RowTurned : ℕ → Weighted T → ℕ → Option (ℕ × Treatment) → Type 0
  RowTurned A m from None = (b : ℕ) → from ≤ b → b ≤ 90 → TreatsRow A m b Agree
  RowTurned A m from (Some p) = WrongFrom A m from p.0 p.1

  module _ (x y : Word) where
    abbrev pub TreatsAt : Origin → Treatment → Type 0
    TreatsAt o = TreatsSides (sides 𝓣 M D x y o).0 (sides 𝓣 M D x y o).1

    abbrev pub AgreesAt : Origin → Type 0
    AgreesAt o = TreatsAt o Agree

    pub data Turned : Option (Origin × Treatment) → Type 0 where
      all_agree : ((o : Origin) → IsLook D o → AgreesAt o) → Turned None
      first_wrong : (o : Origin) (t : Treatment) → IsLook D o → TreatsAt o t → ¬ (t ≡ Agree) → ((u : Origin) → IsLook D u → Before u o → AgreesAt u) → Turned (Some (o, t))
