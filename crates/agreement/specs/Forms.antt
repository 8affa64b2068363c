-- Forms, and what a table of forms puts for symbols.
--
-- form_of f              the word and the sum of a form
-- or_itself 𝓣 A o        what a form puts for A; A itself, with zero, where there is none
-- puts 𝓣 fs              what forms put for each symbol; a symbol without one is left
-- refilled 𝓣 σ m         m with what σ puts for the symbols of its word
-- IsItselfBut 𝓣 A σ      σ leaves every symbol but A as it is
-- Passed 𝓣 σ os ns k     of the forms os those below k are refilled by σ in ns, where that has room; the others are the same
-- replaced 𝓣 ρ w         w with the words of ρ for its symbols, and the sum of their tallies
--
-- Assumes nothing.
use Rattle.std.specs.Prelude.{◌≡◌, ℕ, ◌<◌, ◌≤◌, List, [], ◌∷◌, length, Some, None, Option}
use Rattle.std.specs.List.{slice_get}
use Rattle.std.specs.Option.{option_map}
use Rattle.tally.specs.Group.{Group}
use Rattle.grammar.specs.Meaning.{Word, Weighted}
use Rattle.grammar.specs.WordStacks.{held}
use Rattle.rows.specs.Replacing.{Replacing, put, gain}
use Rattle.agreement.specs.declared.form.Form.{Form}
use Rattle.agreement.specs.declared.forms.Forms.{Forms}

abbrev pub form_of : {T : Type 0} {N : ℕ} → Form T N → Weighted T
form_of f = record { word = held f.word; tally = f.sum }

abbrev pub or_itself : {T : Type 0} → Group T → ℕ → Option (Form T 64) → Weighted T
or_itself 𝓣 A None = record { word = A ∷ []; tally = 𝓣.zero }
or_itself 𝓣 A (Some f) = form_of f

abbrev pub puts : {T : Type 0} → Group T → Forms T → Replacing T
puts 𝓣 fs A = or_itself 𝓣 A (slice_get fs.forms A)

abbrev pub replaced : {T : Type 0} → Group T → Replacing T → Word → Weighted T
replaced 𝓣 ρ w = record { word = put ρ w; tally = gain 𝓣 ρ w }

abbrev pub refilled : {T : Type 0} → Group T → Replacing T → Weighted T → Weighted T
refilled 𝓣 σ m = record { word = put σ m.word; tally = 𝓣.add m.tally (gain 𝓣 σ m.word) }

abbrev pub IsItselfBut : {T : Type 0} → Group T → ℕ → Replacing T → Type 0
IsItselfBut 𝓣 A σ = (C : ℕ) → ¬ (C ≡ A) → σ C ≡ record { word = C ∷ []; tally = 𝓣.zero }

pub record Passed {T : Type 0} (𝓣 : Group T) (σ : Replacing T) (os ns : List (Form T 64)) (k : ℕ) : Type 0 where
  pub long : length ns ≡ length os
  pub before : (A : ℕ) (f : Form T 64) → A < k → slice_get os A ≡ Some f → length (put σ (form_of f).word) ≤ 64 → option_map form_of (slice_get ns A) ≡ Some (refilled 𝓣 σ (form_of f))
  pub behind : (A : ℕ) → k ≤ A → slice_get ns A ≡ slice_get os A
