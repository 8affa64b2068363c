-- What is proved of refusals and of surveys.
--
-- OneVerdict n v 𝓣 M    a grammar is accepted, or refused for one fault; never both
-- Surveys n v 𝓣 M s     s is the survey of M: M is accepted, s means M, has M's norms and first inputs, and their laws hold
-- Exact n v 𝓣 M r       r is a survey just if M is accepted, and the fault f just if M is refused for f
-- bare M                M with its tallies left aside
-- BareLaw n v 𝓣 M       M is accepted or refused, and has norms and first inputs, as it is and has them with its tallies left aside
-- TakenUp n M k ws      the words ws of k symbols are those of M's rules, which are fine
--
-- Assumes nothing.
use Rattle.std.specs.Prelude.{◌≡◌, ℕ, ◌↔◌, true, List, Option, Err, Result, is_ok}
use Rattle.std.specs.Option.{option_map}
use Rattle.tally.specs.Group.{Group}
use Rattle.tally.specs.Makes.{untallied_group}
use Rattle.tally.specs.declared.untallied.Untallied.{Untallied}
use Rattle.grammar.specs.Meaning.{Input, Meaning}
use Rattle.norm.specs.Norms.{Normed}
use Rattle.norm.specs.Laws.{NormLaws}
use Rattle.norm.specs.Tabled.{stored}
use Rattle.norm.specs.Words.{words_of}
use Rattle.norm.specs.declared.short_word.ShortWord.{ShortWord}
use Rattle.survey.specs.Refusals.{Sized, Fine, Accepted, Refused}
use Rattle.survey.specs.Surveyed.{surveyed, norm_in, first_in}
use Rattle.survey.specs.declared.fault.GrammarFault.{GrammarFault}
use Rattle.survey.specs.declared.table.Survey.{Survey}

pub record OneVerdict {T : Type 0} (n v : ℕ) (𝓣 : Group T) (M : Meaning T) : Type 0 where
  pub never_both : (f : GrammarFault) → Refused n v 𝓣 M f → ¬ Accepted n v 𝓣 M
  pub one_fault : (f g : GrammarFault) → Refused n v 𝓣 M f → Refused n v 𝓣 M g → f ≡ g

pub record Surveys {T : Type 0} (n v : ℕ) (𝓣 : Group T) (M : Meaning T) (s : Survey T) : Type 0 where
  pub meaning : surveyed s ≡ M
  pub accepted : Accepted n v 𝓣 M
  pub normed : Normed 𝓣 M (norm_in s) (first_in s)
  pub laws : NormLaws 𝓣 M (norm_in s) (first_in s)

pub record Exact {T : Type 0} (n v : ℕ) (𝓣 : Group T) (M : Meaning T) (r : Result (Survey T) GrammarFault) : Type 0 where
  pub accepted : (is_ok r ≡ true) ↔ Accepted n v 𝓣 M
  pub refused : (f : GrammarFault) → (r ≡ Err f) ↔ Refused n v 𝓣 M f

abbrev pub bare : {T : Type 0} → Meaning T → Meaning Untallied
bare M = record { count = M.count; rule = λ A a. option_map (λ m. record { word = m.word; tally = record {} }) (M.rule A a) }

pub record BareLaw {T : Type 0} (n v : ℕ) (𝓣 : Group T) (M : Meaning T) : Type 0 where
  pub accepted : Accepted n v 𝓣 M ↔ Accepted n v untallied_group (bare M)
  pub refused : (f : GrammarFault) → Refused n v 𝓣 M f ↔ Refused n v untallied_group (bare M) f
  pub normed : (norm : ℕ → ℕ) (first : ℕ → Input) → Normed 𝓣 M norm first ↔ Normed untallied_group (bare M) norm first

pub record TakenUp {T : Type 0} (n : ℕ) (M : Meaning T) (k : ℕ) (ws : List (Option (ShortWord 4))) : Type 0 where
  pub sized : Sized n M
  pub count : k ≡ M.count
  pub rules : (A a : ℕ) → Fine M.count M A a
  pub words : (A a : ℕ) → stored k ws A a ≡ words_of M A a
