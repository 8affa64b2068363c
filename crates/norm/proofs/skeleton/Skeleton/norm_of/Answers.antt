use Rattle.std.proofs.Common.{◌≡◌, ◌+◌, ◌-◌, ◌^◌, min, fold, arith, rules}
use Rattle.norm.specs.Skeletons.{norm_at}
use Rattle.norm.proofs.Weights.{norms_fold}
use Rattle.norm.proofs.skeleton.Skeleton.norm_of.Goals as goal

pub returns : goal.returns
returns c =
    let k = c.args.self.now in
    let w = c.args.word.now in
    let folded : c.fold.result ≡ fold (λ s B. min (s + norm_at k B) (2 ^ 64 - 1)) 0 w = search rules in
    let sum = norms_fold (norm_at k) (2 ^ 64 - 1) w 0 (omega arith) in
    omega arith
