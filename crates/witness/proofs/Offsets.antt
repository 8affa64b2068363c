-- The offset of the row of a fork: it is what the tally of the later symbol's run is more than that of the earlier symbol on its first input.
--
-- The idea: the later symbol's first input begins with the earlier symbol's, and goes on with the first input of what is left. For the row's word takes it, and of inputs of its length none comes before
-- the word's first input; which the later symbol takes too.
--
-- Assumes nothing.
use Rattle.std.proofs.Common.{◌≡◌, ℕ, [], ◌∷◌, ◌++◌, length, Some, sym, refl, ap, ◌∙◌, subst, append-nil, arith}
use Rattle.tally.specs.Group.{Group}
use Rattle.grammar.specs.Meaning.{Input, Meaning, Below}
use Rattle.grammar.specs.Takes.{shift, takes}
use Rattle.grammar.proofs.Options.{some_same}
use Rattle.norm.specs.Norms.{Taken, First, firsts}
use Rattle.norm.specs.Laws.{NormLaws}
use Rattle.norm.proofs.Alphabet.{no_later_both}
use Rattle.witness.specs.Forks.{Fork, row_word}
use Rattle.witness.specs.Laws.{TrueFirst}
use Rattle.witness.proofs.Sums.{cancel, shifted}
use Rattle.witness.proofs.Runs.{run_on}
use Rattle.witness.proofs.Fronts.{taken_both, first_word, first_symbol, first_size}

module _ {T : Type 0} (𝓣 : Group T) (M : Meaning T) (norm : ℕ → ℕ) (first : ℕ → Input) (N : NormLaws 𝓣 M norm first) (F : Fork 𝓣 M norm first) where
  left_known : Below M.count F.left.word
  left_known = N.run_below (F.later ∷ []) (first F.earlier) F.left (F.later_known, tt) F.runs

  -- the first input of the row's word
  abbrev whole : Input
  whole = first F.earlier ++ firsts first F.left.word

  -- the later symbol takes it
  later_takes : (t : T) → takes 𝓣 M F.left.word (firsts first F.left.word) ≡ Some t → takes 𝓣 M (F.later ∷ []) whole ≡ Some (𝓣.add F.left.tally t)
  later_takes t e =
      run_on 𝓣 M (first F.earlier) (F.later ∷ []) [] (firsts first F.left.word) F.left F.runs
      ∙ ap (λ w. shift 𝓣 F.left.tally (takes 𝓣 M w (firsts first F.left.word))) (append-nil F.left.word) ∙ ap (shift 𝓣 F.left.tally) e

  first_whole : Taken 𝓣 M (row_word 𝓣 M norm first F) (first F.later) → first F.later ≡ whole
  first_whole k =
      let left = first_word 𝓣 M norm first N F.left.word left_known in
      let a = N.first_input (row_word 𝓣 M norm first F) (F.earlier_known, left_known) in
      let b : First 𝓣 M (F.later ∷ []) (first F.later) = subst (First 𝓣 M (F.later ∷ [])) (append-nil (first F.later)) (N.first_input (F.later ∷ []) (F.later_known, tt)) in
      let s = N.size (row_word 𝓣 M norm first F) (F.earlier_known, left_known) in
      let r = first_size 𝓣 M norm first N F.later F.later_known in
      let w = F.weighs in
      let same : length (first F.later) ≡ length whole = omega arith in
      no_later_both (first F.later) whole same (b.earliest whole (𝓣.add F.left.tally left.0, later_takes left.0 left.1) (sym same)) (a.earliest (first F.later) k same)

  pub row_offset : (o f : T) → TrueFirst 𝓣 M norm first F o → takes 𝓣 M (F.earlier ∷ []) (first F.earlier) ≡ Some f → F.left.tally ≡ 𝓣.add f o
  row_offset o f h e =
      let a = first_symbol 𝓣 M norm first N F.later F.later_known in
      let k = shifted 𝓣 o (takes 𝓣 M (row_word 𝓣 M norm first F) (first F.later)) a.0 (sym h ∙ a.1) in
      let left = first_word 𝓣 M norm first N F.left.word left_known in
      let row = taken_both 𝓣 M (F.earlier ∷ []) F.left.word whole (first F.earlier) (firsts first F.left.word) f left.0 refl e left.1 in
      same left.0 (sym (later_takes left.0 left.1) ∙ subst (λ s. takes 𝓣 M (F.later ∷ []) s ≡ shift 𝓣 o (takes 𝓣 M (row_word 𝓣 M norm first F) s)) (first_whole (k.0, k.1)) h ∙ ap (shift 𝓣 o) row)
    where
      same : (t : T) → ◌≡◌ (Some (𝓣.add F.left.tally t)) (shift 𝓣 o (Some (𝓣.add f t))) → F.left.tally ≡ 𝓣.add f o
      same t d =
          cancel 𝓣 t F.left.tally (𝓣.add f o)
          (𝓣.comm t F.left.tally ∙ some_same d ∙ sym (𝓣.assoc o f t) ∙ 𝓣.comm (𝓣.add o f) t ∙ ap (𝓣.add t) (𝓣.comm o f))
