-- The laws of witnesses, put together. Assumes nothing.
use Rattle.std.proofs.Common.{ℕ}
use Rattle.tally.specs.Group.{Group}
use Rattle.grammar.specs.Meaning.{Input, Meaning}
use Rattle.norm.specs.Norms.{Closed}
use Rattle.norm.specs.Laws.{NormLaws}
use Rattle.norm.proofs.Lawful.{norm_laws}
use Rattle.witness.specs.Laws.{WitnessLaws, WitnessesLaw}
use Rattle.witness.proofs.Cuts.{cut_finds, cut_takes}
use Rattle.witness.proofs.Offsets.{row_offset}
use Rattle.witness.proofs.Forks as forks
use Rattle.witness.proofs.Forking.{forked}
use Rattle.witness.proofs.Walks.{walk}
use Rattle.witness.proofs.Stages.{stage}
use Rattle.witness.proofs.Searching.{blame_finds, stage_finds}
use Rattle.witness.proofs.Written.{history}
use Rattle.witness.proofs.Witnesses.{witness}

module _ {T : Type 0} (𝓣 : Group T) where
  witness_laws : (M : Meaning T) (norm : ℕ → ℕ) (first : ℕ → Input) → NormLaws 𝓣 M norm first → Closed M → WitnessLaws 𝓣 M norm first
  witness_laws M norm first N C = record {
    cut_finds = λ w s r k. cut_finds 𝓣 M s r w k.0 k.1;
    cut_takes = λ w s. cut_takes 𝓣 M s w;
    forked = forked 𝓣 M norm first N;
    row_offset = row_offset 𝓣 M norm first N;
    row_true = forks.row_true 𝓣 M norm first N;
    row_there = forks.row_there 𝓣 M norm first N;
    candidate_short = forks.candidate_short 𝓣 M norm first N;
    walk = walk 𝓣 M;
    blame = blame_finds 𝓣 M;
    stage = stage 𝓣 M norm first N;
    stage_finds = stage_finds 𝓣 M norm first N;
    history = history 𝓣 M norm first N;
    witness = witness 𝓣 M norm first N C;
  }

  pub witnesses_law : WitnessesLaw 𝓣
  witnesses_law M norm first F C N = witness_laws M norm first (norm_laws 𝓣 M norm first F C N) C
