-- Marks as the bits of a number.
--
-- has m A         the bit of A is set
-- number m k      how many symbols below k have their bit set
-- Least m k A     A is the least symbol from k on whose bit is set
--
-- Assumes nothing.
use Rattle.std.specs.Prelude.{◌≡◌, ℕ, zero, suc, ◌+◌, ◌/◌, ◌%◌, ◌^◌, ◌<◌, ◌≤◌, Bool, true, false, cond, ◌==◌}

abbrev pub has : ℕ → ℕ → Bool
has m A = m / 2 ^ A % 2 == 1

abbrev pub number : ℕ → ℕ → ℕ
number m zero = 0
number m (suc k) = cond (has m k) 1 0 + number m k

pub record Least (m k A : ℕ) : Type 0 where
  pub from : k ≤ A
  pub is : has m A ≡ true
  pub before : (B : ℕ) → k ≤ B → B < A → has m B ≡ false
