-- Norms up to a limit as a certificate of plain numbers: equations and orders of what the words of rules weigh.
--
-- Certified v n R norm letter    for n symbols with the words R: no rule undercuts a norm; a norm of at most v is attained, at letter first
-- spelled R letter k w           k letters of the input that the letters of the symbols spell, from the word w on
--
-- Assumes nothing.
use Rattle.std.specs.Prelude.{◌≡◌, ℕ, zero, suc, ◌<◌, ◌≤◌, true, [], ◌∷◌, ◌++◌, is_some}
use Rattle.grammar.specs.Meaning.{Word, Input, Below}
use Rattle.norm.specs.Words.{Words, body}
use Rattle.norm.specs.Norms.{norms}

pub record Certified (v n : ℕ) (R : Words) (norm letter : ℕ → ℕ) : Type 0 where
  pub below : (A a : ℕ) → is_some (R A a) ≡ true → norm A ≤ suc (norms norm (body (R A a)))
  pub there : (A : ℕ) → A < n → norm A ≤ v → is_some (R A (letter A)) ≡ true
  pub attained : (A : ℕ) → A < n → norm A ≤ v → norm A ≡ suc (norms norm (body (R A (letter A))))
  pub earliest : (A a : ℕ) → A < n → is_some (R A a) ≡ true → a < letter A → norm A < suc (norms norm (body (R A a)))
  pub known : (A a : ℕ) → Below n (body (R A a))

abbrev pub spelled : Words → (ℕ → ℕ) → ℕ → Word → Input
spelled R letter zero w = []
spelled R letter (suc k) [] = []
spelled R letter (suc k) (A ∷ w) = letter A ∷ spelled R letter k (body (R A (letter A)) ++ w)
