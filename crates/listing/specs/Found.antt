-- What is found of a comparer's symbols.
--
-- Led 𝓣 s c          the comparer c is over the survey s, and a history leads to its rows
-- Found 𝓣 M k bs     the smallest symbols that are the same as the first k symbols are in bs, by symbol
-- Tells 𝓣 s ns t     t is the lines of the symbols of the survey s, with the names ns
--
-- Assumes nothing.
use Rattle.std.specs.Prelude.{◌≡◌, ℕ, ◌<◌, List, slice_index}
use Rattle.tally.specs.Group.{Group}
use Rattle.grammar.specs.Meaning.{Meaning}
use Rattle.survey.specs.Surveyed.{surveyed, norm_in}
use Rattle.survey.specs.declared.table.Survey.{Survey}
use Rattle.calls.specs.Histories.{Event}
use Rattle.comparer.specs.Comparers.{rows_of, Over}
use Rattle.comparer.specs.Lawful.{HistoryOver}
use Rattle.comparer.specs.declared.comparer.Comparer.{Comparer}
use Rattle.listing.specs.Listed.{Smallest}
use Rattle.listing.specs.Texts.{symbol_line, lines}

module _ {T : Type 0} (𝓣 : Group T) where
  pub record Led (s : Survey T) (c : Comparer T) : Type 0 where
    pub over : Over c s
    pub events : List (Event T)
    pub history : HistoryOver 𝓣 s events (rows_of c)

  abbrev pub Found : Meaning T → ℕ → List ℕ → Type 0
  Found M k bs = (A : ℕ) → A < k → Smallest 𝓣 M A (slice_index bs A)

  pub record Tells (s : Survey T) (ns t : List ℕ) : Type 0 where
    pub smallest : ℕ → ℕ
    pub least : (A : ℕ) → A < s.skeleton.words.count → Smallest 𝓣 (surveyed s) A (smallest A)
    pub text : t ≡ lines (λ A. symbol_line ns (norm_in s A) A (smallest A)) s.skeleton.words.count
