-- Parts of a slice as the code cuts them. Assumes nothing.
use Rattle.std.proofs.Common.{◌≡◌, ℕ, ◌-◌, ◌<◌, List, [], ◌∷◌, length, get_or, take, drop, Ok, Result, ap, ◌∙◌, arith}
use lib.Seq.{take-length}
use Rattle.layout.specs.Reading.{Read, one}
use Rattle.layout.specs.declared.fault.Fault.{Fault}

-- the first byte and what follows it
pub first_of : (total : ℕ) (s : List ℕ) → 0 < length s →
    ◌≡◌ {A = Result (Read ℕ) Fault} (Ok (record { value = get_or s 0 0; rest = take (length s - 1) (drop 1 s) })) (one total s)
first_of total [] h = absurd (omega arith)
first_of total (b ∷ bs) h =
    let same : length (b ∷ bs) - 1 ≡ length bs = omega arith in
    ap {B = Result (Read ℕ) Fault} (λ r. Ok (record { value = b; rest = r })) (ap (λ n. take n bs) same ∙ take-length bs)
