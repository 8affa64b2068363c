-- What is tried on a pair of words, and what fails.
--
-- parts_at o c A B e     o parts two words behind the front c at the later symbol A and the earlier B, with e behind A
-- IsParting p F          p is the fork F
-- over 𝓣 s l             the sheet over the survey s that is looked at
-- Looks 𝓣 s l            the pair can be worked with
-- Passes 𝓣 s l t         on t the pair does not differ, nor either word and its normal form
-- Fails 𝓣 s l f t        what fails on t: the pair differs, or a row is not true on a piece of t
-- ForkOver 𝓣 s           the forks over the survey s
--
-- Assumes nothing.
use Rattle.std.specs.Prelude.{◌≡◌, ℕ, Some, None, Option}
use Rattle.tally.specs.Group.{Group}
use Rattle.grammar.specs.Meaning.{Word, Input, Meaning}
use Rattle.rows.specs.Sheets.{Sheet}
use Rattle.sheet.specs.Rowed.{shown}
use Rattle.survey.specs.Surveyed.{surveyed, norm_in, first_in}
use Rattle.survey.specs.declared.table.Survey.{Survey}
use Rattle.agreement.specs.Works.{rows_over}
use Rattle.witness.specs.Alike.{AlikeOn}
use Rattle.witness.specs.Forks.{Fork}
use Rattle.witness.specs.Laws as laws
use Rattle.walk.specs.Blames.{Untrue, piece}
use Rattle.comparison.specs.Treating.{pair_of, Workable}
use Rattle.comparison.specs.declared.parting.Parting.{Parting}
use Rattle.comparison.specs.declared.failing.Failing as failing
use Rattle.comparison.specs.declared.failing.Failing.TheVariants as failings
use Rattle.comparison.specs.declared.look.Look.{Look}

pub record Parts (p : Parting) (c : Word) (A B : ℕ) (e : Word) : Type 0 where
  pub common : p.common.now ≡ c
  pub later : p.later ≡ A
  pub earlier : p.earlier ≡ B
  pub later_end : p.later_end.now ≡ e

abbrev pub parts_at : Option Parting → Word → ℕ → ℕ → Word → Type 0
parts_at None c A B e = ⊥
parts_at (Some p) c A B e = Parts p c A B e

abbrev pub IsParting : {T : Type 0} {𝓣 : Group T} {M : Meaning T} {norm : ℕ → ℕ} {first : ℕ → Input} → Parting → Fork 𝓣 M norm first → Type 0
IsParting p F = Parts p F.common F.later F.earlier F.later_end

module _ {T : Type 0} (𝓣 : Group T) (s : Survey T) (l : Look T) where
  abbrev pub over : Sheet T
  over = rows_over 𝓣 s (shown l.rows)

  abbrev pub Looks : Type 0
  Looks = Workable s.skeleton.words.count (norm_in s) (pair_of l.pair)

  abbrev pub Passes : Input → Type 0
  Passes = laws.Passed 𝓣 (surveyed s) over (pair_of l.pair).one (pair_of l.pair).two (pair_of l.pair).before_one (pair_of l.pair).before_two

  abbrev pub Fails : failing.Failing → Input → Type 0
  Fails failings.Pair t = ¬ AlikeOn 𝓣 (surveyed s) (pair_of l.pair).before_one (pair_of l.pair).before_two (pair_of l.pair).one (pair_of l.pair).two t
  Fails (failings.Row b) t = Untrue 𝓣 (surveyed s) over b.symbol (piece b t)

abbrev pub ForkOver : {T : Type 0} → Group T → Survey T → Type 0
ForkOver 𝓣 s = Fork 𝓣 (surveyed s) (norm_in s) (first_in s)
