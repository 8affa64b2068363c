-- Lines that are written part by part, and texts that fit the buffer.
--
-- Assumes nothing.
use Rattle.std.proofs.Common.{◌≡◌, ℕ, ◌≤◌, List, [], ◌∷◌, ◌++◌, length, drop, decimal, ap, ◌∙◌, subst, zero-add, arith, append_assoc, length-append}
use Rattle.layout.specs.declared.fault.FaultCode.{FaultCode}
use Rattle.format.specs.Lent.{Wrote}
use Rattle.listing.specs.Texts.{refusal_text}

pub wrote_as : {o p bs cs : List ℕ} {at next : ℕ} → bs ≡ cs → Wrote o at bs next p → Wrote o at cs next p
wrote_as {o} {p} {bs} {cs} {at} {next} e w = subst (λ (l : List ℕ). Wrote o at l next p) e w

-- the parts of a refusal, in turn
pub refusal_parts : (w k a b : List ℕ) → (((((w ++ k) ++ 32 ∷ []) ++ a) ++ 32 ∷ []) ++ b) ++ 10 ∷ [] ≡ (w ++ ((k ++ 32 ∷ a) ++ 32 ∷ b)) ++ 10 ∷ []
refusal_parts w k a b = simp append_assoc

-- and those of a symbol's line
pub line_parts : (x y : ℕ) (n : List ℕ) → ((x ∷ 32 ∷ []) ++ n) ++ 32 ∷ y ∷ 10 ∷ [] ≡ (((((x ∷ []) ++ 32 ∷ []) ++ n) ++ 32 ∷ []) ++ y ∷ []) ++ 10 ∷ []
line_parts x y n = simp append_assoc

-- a refusal has 11 bytes beside its numbers
pub refusal_short : (k : FaultCode) → length (decimal k.number) ≤ 20 → length (decimal k.first) ≤ 20 → length (decimal k.second) ≤ 20 → length (refusal_text k) ≤ 71
refusal_short k number first second = simp length-append (omega (arith, number, first, second))

-- bytes that fit the buffer, at its start
pub filled : (o p t : List ℕ) (n : ℕ) → Wrote o 0 t n p → length t ≤ length o → length o ≤ 256 → (n ≡ length t) × (p ≡ t ++ drop (length t) o)
filled o p t n w fits small = (omega (arith, w.place), w.bytes (omega arith) ∙ ap (λ k. t ++ drop k o) (zero-add (length t)))
