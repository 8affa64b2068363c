-- Lines one behind the other. Assumes nothing.
use Rattle.std.proofs.Common.{◌≡◌, ℕ, suc, ◌+◌, [], ◌++◌, refl, sym, ap, ap₂, ◌∙◌, arith}
use mathlib.Core.List.{append_assoc}
use Rattle.asking.specs.Texts.{Text, lines}

pub no_lines : (f : ℕ → Text) → lines f 0 ≡ []
unfolding lines
no_lines f = refl

pub next_line : (f : ℕ → Text) (k : ℕ) → lines f (k + 1) ≡ lines f k ++ f k
unfolding lines
next_line f k = let e : k + 1 ≡ suc k = omega arith in ap (λ n. lines f n) e

-- f's line at A is written, or it is none
module _ (f : ℕ → Text) (old now new t : Text) (A : ℕ) (before : now ≡ old ++ lines f A) (is : t ≡ f A) where
  pub line_on : new ≡ now ++ t → new ≡ old ++ lines f (A + 1)
  line_on then = then ∙ ap₂ ◌++◌ before is ∙ append_assoc old (lines f A) (f A) ∙ ap (λ x. old ++ x) (sym (next_line f A))
