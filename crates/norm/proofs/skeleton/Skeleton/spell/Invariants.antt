use Rattle.std.proofs.Common.{◌≡◌, ◌≤◌, length}
use Rattle.grammar.specs.Meaning.{Below}
use Rattle.grammar.specs.WordStacks.{held}
use Rattle.norm.specs.Norms.{norms}
use Rattle.norm.specs.Skeletons.{norm_at}
use Rattle.norm.proofs.Spelling.{Spelt}
use Rattle.norm.proofs.skeleton.Skeleton.spell.Given as goal

abbrev pub invariant-loop-cell : goal.invariant-loop-cell
invariant-loop-cell l =
    Below l.self.words.count l.word → norms (norm_at l.self) l.word ≡ length l.initial.out → length l.initial.out ≤ 512 →
    Spelt l.self l.word (length l.initial.out) l.cell-index (held l.left) l.out
