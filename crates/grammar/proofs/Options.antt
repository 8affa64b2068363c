-- What the proofs want of options. Assumes nothing.
use Rattle.std.proofs.Common.{◌≡◌, ℕ, Some, None, Option, arith}

pub none_some : {X : Type 0} {x : X} → ¬ (◌≡◌ {A = Option X} None (Some x))
none_some e = let z : ◌≡◌ {A = ℕ} 0 1 = cc in omega arith

pub some_none : {X : Type 0} {x : X} → ¬ (◌≡◌ {A = Option X} (Some x) None)
some_none e = let z : ◌≡◌ {A = ℕ} 0 1 = cc in omega arith

pub some_same : {X : Type 0} {x y : X} → ◌≡◌ {A = Option X} (Some x) (Some y) → x ≡ y
some_same e = cc
