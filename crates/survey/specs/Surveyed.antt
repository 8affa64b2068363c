-- The grammar that a survey holds, with its norms and first inputs.
--
-- weigh o t        a word with a tally, if both are there
-- words_in s       the words of its rules
-- surveyed s       the grammar of the survey s
-- norm_in s A      the norm of A
-- first_in s A     the first input of A
-- run_of r         a run as a word with a tally
--
-- Assumes nothing.
use Rattle.std.specs.Prelude.{ℕ, Some, None, Option}
use Rattle.std.specs.List.{slice_get}
use Rattle.grammar.specs.Meaning.{Word, Input, Weighted, Meaning}
use Rattle.grammar.specs.WordStacks.{held}
use Rattle.norm.specs.Words.{Words}
use Rattle.grammar.specs.Places.{index}
use Rattle.norm.specs.Skeletons.{rule_words, norm_at, first_at}
use Rattle.survey.specs.declared.run.Run.{Run}
use Rattle.survey.specs.declared.table.Survey.{Survey}

abbrev pub weigh : {T : Type 0} → Option Word → Option T → Option (Weighted T)
weigh None o = None
weigh (Some w) None = None
weigh (Some w) (Some t) = Some (record { word = w; tally = t })

module _ {T : Type 0} (s : Survey T) where
  abbrev pub words_in : Words
  words_in = rule_words s.skeleton

  abbrev pub surveyed : Meaning T
  surveyed = record {
    count = s.skeleton.words.count;
    rule = λ A a. weigh (words_in A a) (slice_get s.tallies (index A a));
  }

  abbrev pub norm_in : ℕ → ℕ
  norm_in = norm_at s.skeleton

  abbrev pub first_in : ℕ → Input
  first_in = first_at s.skeleton

-- what is left of a run, and the tally
abbrev pub run_of : {T : Type 0} → Run T → Weighted T
run_of r = record { word = held r.left; tally = r.tally }
