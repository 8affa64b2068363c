-- One stage: where a pair and its normal forms pass the tests of all candidates, the row of their fork is true. Assumes nothing.
use Rattle.std.proofs.Common.{ℕ, ◌++◌}
use Rattle.tally.specs.Group.{Group}
use Rattle.grammar.specs.Meaning.{Input, Meaning}
use Rattle.norm.specs.Norms.{firsts}
use Rattle.norm.specs.Laws.{NormLaws}
use Rattle.witness.specs.Alike.{AlikeOn}
use Rattle.witness.specs.Forks.{later_word, earlier_word, candidates, ForkAlike}
use Rattle.witness.specs.Laws.{Passed, StageLaw}
use Rattle.witness.proofs.Cuts.{all_map}
use Rattle.witness.proofs.Forks.{row_true}
use Rattle.witness.proofs.Walks.{settled}

module _ {T : Type 0} (𝓣 : Group T) (M : Meaning T) (norm : ℕ → ℕ) (first : ℕ → Input) (N : NormLaws 𝓣 M norm first) where
  pub stage : StageLaw 𝓣 M norm first
  stage F D x y p q o n offset z h =
      row_true 𝓣 M norm first N F o offset z
      (all_map (λ c. Passed 𝓣 M D x y p q (firsts first F.common ++ c)) (ForkAlike 𝓣 M norm first F) (candidates 𝓣 M norm first F z) (λ c k. alike (firsts first F.common ++ c) k) h)
    where
      alike : (t : Input) → Passed 𝓣 M D x y p q t → AlikeOn 𝓣 M F.later_sum F.earlier_sum (later_word 𝓣 M norm first F) (earlier_word 𝓣 M norm first F) t
      alike t k =
          rw (n.sum_one, n.sum_two)
          (settled 𝓣 M x y (later_word 𝓣 M norm first F) (earlier_word 𝓣 M norm first F) p q n.one n.two t
          (k.1 (later_word 𝓣 M norm first F) n.one n.normal_one) (k.2 (earlier_word 𝓣 M norm first F) n.two n.normal_two) k.0)
