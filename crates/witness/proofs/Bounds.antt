-- The lengths along the stages.
--
-- The idea: each stage adds at most 8 v letters and goes to a row with a smaller number, so what is left of 8 n v suffices.
--
-- Assumes nothing.
use Rattle.std.proofs.Common.{◌*◌, [], ◌∷◌, mul-le-mul_left, arith}
use Rattle.witness.specs.Laws.{NormsBound, StageBound, StartBound, TotalBound, Bounds}

pub norms_bound : NormsBound
norms_bound norm n v h [] k = omega arith
norms_bound norm n v h (A ∷ w) k = let a = h A k.0 in let b = norms_bound norm n v h w k.1 in omega arith

pub stage_bound : StageBound
stage_bound v t z a x e h k = omega arith

pub start_bound : StartBound
start_bound v n i z h l = let m = mul-le-mul_left (8 * v) l in omega arith

pub total_bound : TotalBound
total_bound v n i j z t h l k = let m = mul-le-mul_left (8 * v) l in omega arith

pub bounds : Bounds
bounds = record { norms = norms_bound; stage = stage_bound; start = start_bound; total = total_bound }
