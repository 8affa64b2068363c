-- The procedure that decides whether two words are the same, over the rows of a view.
--
-- Finds … V r        the first pair that does not agree over the rows of V, and what is done with it
-- Reached … V W      turns of the comparison of x and y lead from the rows of V to those of W: each writes the row that it finds
-- SaysSame … V W     turns lead from V to W, where all pairs agree
-- SaysDifferent … V  turns lead from V to rows over which the first pair that does not agree says "different"
--
-- Assumes nothing.
use Rattle.std.specs.Prelude.{◌≡◌, ℕ, Some, None, Option}
use Rattle.tally.specs.Group.{Group}
use Rattle.grammar.specs.Meaning.{Word, Input, Meaning}
use Rattle.norm.specs.Tabled.{held}
use Rattle.norm.specs.declared.short_word.ShortWord.{ShortWord}
use Rattle.rows.specs.Sheets.{View, weighed}
use Rattle.sheet.specs.Rowed.{with_row}
use Rattle.comparison.specs.Turning.{Turned}
use Rattle.comparison.specs.declared.origin.Origin.{Origin}
use Rattle.comparison.specs.declared.treatment.Treatment.{Treatment}
use Rattle.comparison.specs.declared.treatment.Treatment.TheVariants.{Different, Mend}

module _ {T : Type 0} (𝓣 : Group T) (M : Meaning T) (norm : ℕ → ℕ) (first : ℕ → Input) (x y : Word) where
  abbrev pub Finds : View → Option (Origin × Treatment) → Type 0
  Finds V = Turned 𝓣 M norm first (weighed 𝓣 M first V) x y

  pub data Reached (V : View) : View → Type 0 where
    begun : Reached V V
    mended : {W U : View} → Reached V W → (o : Origin) (A : ℕ) (w : ShortWord 64) → Finds W (Some (o, Mend A w)) →
        ((C : ℕ) → U C ≡ with_row W A (held w) C) → Reached V U

  pub record SaysSame (V W : View) : Type 0 where
    pub reached : Reached V W
    pub agree : Finds W None

  pub record SaysDifferent (V : View) : Type 0 where
    pub rows : View
    pub reached : Reached V rows
    pub origin : Origin
    pub finds : Finds rows (Some (origin, Different))
