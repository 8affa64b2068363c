use Rattle.std.proofs.Common.{arith, rules}
use Rattle.norm.specs.Measurings.{IsBest}
use Rattle.norm.proofs.FromFn.{from_fn_each}
use Rattle.norm.proofs.measure.Measuring.best_rules.Goals as goal

pub returns : goal.returns
returns c = λ A h. from_fn_each _ _ 32 (IsBest c.args.self.now) (λ i y q l k. search rules) c.from_fn.result 0 32 (omega arith) c.from_fn.ensures.items.each A (record { measure = 66; letter = 0 }) (omega arith) h
