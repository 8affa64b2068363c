-- Exactly the bytes that may be kinds stand for kinds.
--
-- Assumes nothing.
use Rattle.std.proofs.Common.{◌≡◌, ℕ, zero, suc, refl, subst, arith}
use Rattle.layout.specs.Contents as contents
use Rattle.layout.specs.Kinds.{byte_of, KindBytes}
use Rattle.layout.specs.declared.kind.Kind.{Kind}
use Rattle.layout.specs.declared.kind.Kind.TheVariants.{Foot, Last, OddOnes}

-- the kind of a byte that may be one
kind_at : (b : ℕ) → contents.Kind b → (kind : Kind) × (byte_of kind ≡ b)
kind_at zero h = absurd (omega arith)
kind_at (suc zero) h = (Foot, refl)
kind_at (suc (suc zero)) h = (Last, refl)
kind_at (suc (suc (suc zero))) h = (OddOnes, refl)
kind_at (suc (suc (suc (suc n)))) h = absurd (omega arith)

-- the byte of a kind may be one
byte_fits : (kind : Kind) → contents.Kind (byte_of kind)
byte_fits Foot = (omega arith, omega arith)
byte_fits Last = (omega arith, omega arith)
byte_fits OddOnes = (omega arith, omega arith)

pub kind_bytes : KindBytes
kind_bytes b = (kind_at b, λ k. subst contents.Kind k.1 (byte_fits k.0))
