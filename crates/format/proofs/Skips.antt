-- Numbers that are passed over: four bytes each. Assumes nothing.
use Rattle.std.proofs.Common.{◌≡◌, ℕ, zero, suc, ◌*◌, ◌<◌, ◌≤◌, List, [], ◌∷◌, length, drop, Ok, Err, Result, refl, ap, ◌∙◌, arith}
use Rattle.layout.specs.Reading.{Read, many, number}
use Rattle.format.specs.Views.{seen}
use Rattle.layout.specs.declared.fault.Fault.{Fault}
use Rattle.layout.specs.declared.fault.Fault.TheVariants.{Short}

module _ (total : ℕ) where
  abbrev Passed : ℕ → List ℕ → List ℕ → Result (Read (Unit {0})) Fault
  Passed k before bs = seen (λ _. tt) (many total (number total) k before bs)

  pub skips_short : (k : ℕ) (before bs : List ℕ) → length bs < k * 4 → Err (Short total) ≡ Passed k before bs
  skips_short zero before bs h = absurd (omega arith)
  skips_short (suc k) before [] h = refl
  skips_short (suc k) before (a ∷ []) h = refl
  skips_short (suc k) before (a ∷ b ∷ []) h = refl
  skips_short (suc k) before (a ∷ b ∷ c ∷ []) h = refl
  skips_short (suc k) before (a ∷ b ∷ c ∷ d ∷ bs) h = skips_short k _ bs (omega arith)

  pub skips_all : (k : ℕ) (before bs : List ℕ) → k * 4 ≤ length bs → Ok (record { value = tt; rest = drop (k * 4) bs }) ≡ Passed k before bs
  skips_all zero before bs h = refl
  skips_all (suc k) before [] h = absurd (omega arith)
  skips_all (suc k) before (a ∷ []) h = absurd (omega arith)
  skips_all (suc k) before (a ∷ b ∷ []) h = absurd (omega arith)
  skips_all (suc k) before (a ∷ b ∷ c ∷ []) h = absurd (omega arith)
  skips_all (suc k) before (a ∷ b ∷ c ∷ d ∷ bs) h =
      let more : suc k * 4 ≡ suc (suc (suc (suc (k * 4)))) = omega arith in
      ap (λ n. Ok (record { value = tt; rest = drop n (a ∷ b ∷ c ∷ d ∷ bs) })) more ∙ skips_all k _ bs (omega arith)
