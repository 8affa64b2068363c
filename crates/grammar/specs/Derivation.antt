-- Leftmost derivation, letter by letter, over sentential forms that mix symbols and tallies.
--
-- Item, Form        what stands in a sentential form; a sentential form
-- tallies, symbols  the form of tallies only; the form of symbols only
-- side m            the right-hand side of a rule: its tally, and then its word
-- LeftStep M a α β  α gives β by rewriting its leftmost symbol by the rule at a; only tallies stand before it
-- Derives M α s γ   α gives γ by steps with the letters of s in turn
--
-- Assumes nothing.
use Rattle.std.specs.Prelude.{◌≡◌, ℕ, List, [], ◌∷◌, ◌++◌, Some}
use Rattle.grammar.specs.Meaning.{Word, Input, Weighted, Meaning}

pub data Item (T : Type 0) : Type 0 where
  tally : T → Item T
  symbol : ℕ → Item T

abbrev pub Form : Type 0 → Type 0
Form T = List (Item T)

abbrev pub tallies : {T : Type 0} → List T → Form T
tallies [] = []
tallies (t ∷ ts) = tally t ∷ tallies ts

abbrev pub symbols : (T : Type 0) → Word → Form T
symbols T [] = []
symbols T (A ∷ w) = symbol A ∷ symbols T w

abbrev pub side : {T : Type 0} → Weighted T → Form T
side {T} m = tally m.tally ∷ symbols T m.word

pub record LeftStep {T : Type 0} (M : Meaning T) (a : ℕ) (α β : Form T) : Type 0 where
  pub done : List T
  pub head : ℕ
  pub rest : Form T
  pub rhs : Weighted T
  pub rule : M.rule head a ≡ Some rhs
  pub was : α ≡ tallies done ++ (symbol head ∷ rest)
  pub is : β ≡ tallies done ++ (side rhs ++ rest)

pub data Derives {T : Type 0} (M : Meaning T) : Form T → Input → Form T → Type 0 where
  derive_none : {α : Form T} → Derives M α [] α
  derive_more : {α β γ : Form T} {a : ℕ} {s : Input} → LeftStep M a α β → Derives M β s γ → Derives M α (a ∷ s) γ
