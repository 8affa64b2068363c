-- What a skeleton says.
--
-- rule_words k     the words of its rules
-- norm_at k A      the norm of A
-- letter_at k A    the first letter of A's first input
-- first_at k A     A's first input: the letters, in turn
-- summed k w       the norm of a word as a usize has it, at most 2^64 - 1
--
-- Assumes nothing.
use Rattle.std.specs.Prelude.{ℕ, ◌-◌, ◌^◌, min, [], ◌∷◌}
use Rattle.grammar.specs.Meaning.{Word, Input}
use Rattle.norm.specs.Words.{Words}
use Rattle.norm.specs.Norms.{norms}
use Rattle.norm.specs.Ruled.{rules_of}
use Rattle.norm.specs.Measured.{norm_in, letter_in}
use Rattle.norm.specs.Certified.{spelled}
use Rattle.norm.specs.declared.skeleton.Skeleton.{Skeleton}

module _ (k : Skeleton) where
  abbrev pub rule_words : Words
  rule_words = rules_of k.words

  abbrev pub norm_at : ℕ → ℕ
  norm_at = norm_in k.best_rules

  abbrev pub letter_at : ℕ → ℕ
  letter_at = letter_in k.best_rules

  abbrev pub first_at : ℕ → Input
  first_at A = spelled rule_words letter_at (norm_at A) (A ∷ [])

  abbrev pub summed : Word → ℕ
  summed w = min (norms norm_at w) (2 ^ 64 - 1)
