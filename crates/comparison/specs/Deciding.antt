-- How a comparison is decided.
--
-- is_same r               r is "same"
-- Decided … x y V W       the procedure says "same" and leads from V to W; the rows of W prove themselves, and the words x and y, and keep those of V
-- Found … x y V           the procedure says "different" over the rows of V
-- Shown … x y t           x and y differ on t, which has at most 8 times the symbols times 64 letters
-- IsRight … x y r t       the answer r is true: x and y are the same, or differ on t, which is so short
-- Ended … x y S U r t     how turns end that began with the sheet S: at "same" the sheet U is decided; at "different" U still has the rows of S, and x and y differ on t where those prove themselves
--
-- Assumes nothing.
use Rattle.std.specs.Prelude.{◌≡◌, ℕ, ◌*◌, ◌≤◌, Bool, true, false, length, slice_get}
use Rattle.tally.specs.Group.{Group}
use Rattle.grammar.specs.Meaning.{Word, Input}
use Rattle.grammar.specs.Takes as takes
use Rattle.rows.specs.Sheets.{View, SelfProving, Proves, Ranked, Extends}
use Rattle.sheet.specs.Marked.{has}
use Rattle.sheet.specs.Rowed.{shows}
use Rattle.sheet.specs.declared.sheet.Sheet.{Sheet}
use Rattle.survey.specs.Surveyed.{surveyed, norm_in, first_in}
use Rattle.survey.specs.declared.table.Survey.{Survey}
use Rattle.agreement.specs.Works.{rows_over}
use Rattle.comparison.specs.Procedure.{SaysSame, SaysDifferent}
use Rattle.comparison.specs.declared.verdict.Verdict.{Verdict}
use Rattle.comparison.specs.declared.verdict.Verdict.TheVariants.{Same, Different}

abbrev pub is_same : Verdict → Bool
is_same Same = true
is_same Different = false

module _ {T : Type 0} (𝓣 : Group T) (s : Survey T) (x y : Word) where
  pub record Decided (V W : View) : Type 0 where
    pub says : SaysSame 𝓣 (surveyed s) (norm_in s) (first_in s) x y V W
    pub ranked : Ranked s.skeleton.words.count (norm_in s) W
    pub extends : Extends V W
    pub proving : SelfProving 𝓣 (surveyed s) (rows_over 𝓣 s W)
    pub proves : Proves 𝓣 (rows_over 𝓣 s W) x y

  abbrev pub Found : View → Type 0
  Found = SaysDifferent 𝓣 (surveyed s) (norm_in s) (first_in s) x y

  pub record Shown (t : Input) : Type 0 where
    pub differ : takes.Differ 𝓣 (surveyed s) x y t
    pub short : length t ≤ 8 * s.skeleton.words.count * 64

  abbrev pub IsRight : Verdict → Input → Type 0
  IsRight Same t = takes.Same 𝓣 (surveyed s) x y
  IsRight Different t = Shown t

  pub record Left (S U : Sheet) (t : Input) : Type 0 where
    pub found : Found (shows S)
    pub rows : (A : ℕ) → has S.marks.bits A ≡ true → slice_get U.rows A ≡ slice_get S.rows A
    pub differs : 1 ≤ s.skeleton.words.count → SelfProving 𝓣 (surveyed s) (rows_over 𝓣 s (shows S)) → Shown t

  abbrev pub Ended : Sheet → Sheet → Verdict → Input → Type 0
  Ended S U Same t = Decided (shows S) (shows U)
  Ended S U Different t = Left S U t
