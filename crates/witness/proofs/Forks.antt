-- The pair lemma over the list of candidates, and how long they are.
--
-- The idea: the common front is cancelled with its first input, so each candidate says what the pair lemma asks for; each front that the lemma names is the one that the cut finds.
--
-- Assumes nothing.
use Rattle.std.proofs.Common.{◌≡◌, ℕ, ◌+◌, ◌≤◌, List, [], ◌∷◌, ◌++◌, length, Some, None, Option, sym, refl, ap, ◌∙◌, append-nil, arith, length-append}
use Rattle.std.specs.List.{AllByRecursion}
use Rattle.tally.specs.Group.{Group}
use Rattle.grammar.specs.Meaning.{Word, Input, Meaning}
use Rattle.grammar.specs.Takes.{shift, takes}
use Rattle.grammar.proofs.Options.{none_some, some_same}
use Rattle.grammar.proofs.Takes.{shift_shift, compose}
use Rattle.norm.specs.Norms.{Taken, norms, firsts}
use Rattle.norm.specs.Laws.{NormLaws}
use Rattle.witness.specs.Alike.{AlikeOn, TrueOn, Cut, cut}
use Rattle.witness.specs.Forks.{Fork, later_word, row_word, row_with, in_place, from_front, turns, completed, candidates, ForkAlike}
use Rattle.witness.specs.Laws.{TrueFirst, Short}
use Rattle.witness.proofs.Sums.{shift_cancel}
use Rattle.witness.proofs.Cuts.{parted, cut_finds, cut_takes, all_left, all_right, all_both, all_map}
use Rattle.witness.proofs.Offsets.{row_offset}
use Rattle.witness.proofs.Fronts.{least_word, least, first_word, first_symbol, first_size}
use Rattle.witness.proofs.Pairs as pairs

module _ {T : Type 0} (𝓣 : Group T) (M : Meaning T) where
  -- a common front that takes its input is cancelled
  pub left_cancel : (u x y : Word) (U c : Input) (k p q : T) → takes 𝓣 M u U ≡ Some k → AlikeOn 𝓣 M p q (u ++ x) (u ++ y) (U ++ c) → AlikeOn 𝓣 M p q x y c
  left_cancel u x y U c k p q e h = shift_cancel 𝓣 k (shift 𝓣 p (takes 𝓣 M x c)) (shift 𝓣 q (takes 𝓣 M y c)) (turn p x ∙ h ∙ sym (turn q y))
    where
      turn : (p : T) (x : Word) → shift 𝓣 k (shift 𝓣 p (takes 𝓣 M x c)) ≡ shift 𝓣 p (takes 𝓣 M (u ++ x) (U ++ c))
      turn p x =
          shift_shift 𝓣 k p (takes 𝓣 M x c) ∙ ap (λ v. shift 𝓣 v (takes 𝓣 M x c)) (𝓣.comm k p) ∙ sym (shift_shift 𝓣 p k (takes 𝓣 M x c))
          ∙ ap (shift 𝓣 p) (sym (compose 𝓣 M U u x c k e))

module _ {T : Type 0} (𝓣 : Group T) (M : Meaning T) (norm : ℕ → ℕ) (first : ℕ → Input) (N : NormLaws 𝓣 M norm first) (F : Fork 𝓣 M norm first) where
  took : Taken 𝓣 M (F.earlier ∷ []) (first F.earlier)
  took = first_symbol 𝓣 M norm first N F.earlier F.earlier_known

  abbrev Done : Input → Type 0
  Done = pairs.Tried 𝓣 M F.later F.earlier F.left F.later_end F.earlier_end (first F.earlier) F.later_sum F.earlier_sum took.0 F.runs took.1

  even : (c : Input) → ForkAlike 𝓣 M norm first F c → AlikeOn 𝓣 M F.later_sum F.earlier_sum (F.later ∷ F.later_end) (F.earlier ∷ F.earlier_end) c
  even c h =
      let i = first_word 𝓣 M norm first N F.common F.common_known in
      left_cancel 𝓣 M F.common (F.later ∷ F.later_end) (F.earlier ∷ F.earlier_end) (firsts first F.common) c i.0 F.later_sum F.earlier_sum i.1 h

  -- a candidate and its turn
  done : (c : Input) → AllByRecursion (ForkAlike 𝓣 M norm first F) (turns 𝓣 M norm first F c) → Done c
  done c h = (even c h.0, λ c1 c2 t e k. even (first F.earlier ++ c2) (go c1 c2 (cut M (F.earlier ∷ []) c) (ap (cut M (F.earlier ∷ [])) e ∙ cut_finds 𝓣 M c1 c2 (F.earlier ∷ []) t k) h.1))
    where
      go : (c1 c2 : Input) (o : Option Cut) → o ≡ Some (parted c1 c2) → AllByRecursion (ForkAlike 𝓣 M norm first F) (in_place (first F.earlier) o) → ForkAlike 𝓣 M norm first F (first F.earlier ++ c2)
      go c1 c2 None e h = absurd (none_some e)
      go c1 c2 (Some p) e h = rw (ap (λ (c : Cut). c.rest) (some_same e)) at h.0

  shortest : (s : Input) (t : T) → takes 𝓣 M F.later_end s ≡ Some t → length (firsts first F.later_end) ≤ length s
  shortest s t e = let l = least_word 𝓣 M norm first N F.later_end s t e in let d = N.size F.later_end F.end_known in omega arith

  -- the front of z that w takes
  fronts : (w : Word) (z : Input) → AllByRecursion (ForkAlike 𝓣 M norm first F) (from_front (completed 𝓣 M norm first F) (cut M w z)) →
      (z1 z2 : Input) (t : T) → z ≡ z1 ++ z2 → takes 𝓣 M w z1 ≡ Some t → Done (z1 ++ firsts first F.later_end)
  fronts w z h z1 z2 t e k = go (cut M w z) (ap (cut M w) e ∙ cut_finds 𝓣 M z1 z2 w t k) h
    where
      go : (o : Option Cut) → o ≡ Some (parted z1 z2) → AllByRecursion (ForkAlike 𝓣 M norm first F) (from_front (completed 𝓣 M norm first F) o) → Done (z1 ++ firsts first F.later_end)
      go None e h = absurd (none_some e)
      go (Some p) e h = rw (ap (λ (c : Cut). c.front) (some_same e)) at (done (p.front ++ firsts first F.later_end) h)

  -- the row is true on z, up to the two tallies
  apart : (z : Input) → Done (z ++ firsts first F.later_end) →
      ((z1 z2 : Input) (t : T) → z ≡ z1 ++ z2 → takes 𝓣 M (row_word 𝓣 M norm first F) z1 ≡ Some t → Done (z1 ++ firsts first F.later_end)) →
      ((z1 z2 : Input) (t : T) → z ≡ z1 ++ z2 → takes 𝓣 M (F.later ∷ []) z1 ≡ Some t → Done (z1 ++ firsts first F.later_end)) →
      AlikeOn 𝓣 M F.left.tally took.0 (row_word 𝓣 M norm first F) (F.later ∷ []) z
  apart z here frontW frontA =
      let i = first_word 𝓣 M norm first N F.later_end F.end_known in
      pairs.apart 𝓣 M F.later F.earlier F.left F.later_end F.earlier_end (first F.earlier) F.later_sum F.earlier_sum took.0 F.runs took.1
      (firsts first F.later_end) i.0 z i.1 shortest here frontW frontA

  -- a front of the later symbol's first input that a word of its norm takes is all of it
  whole : (w : Word) → norm F.later ≤ norms norm w → (z1 z2 : Input) (t : T) → first F.later ≡ z1 ++ z2 → takes 𝓣 M w z1 ≡ Some t → first F.later ≡ z1
  whole w h z1 z2 t e k =
      let l = least_word 𝓣 M norm first N w z1 t k in
      let s = first_size 𝓣 M norm first N F.later F.later_known in
      let a = length-append z1 z2 in
      let d = ap length e in
      go z2 e (omega arith)
    where
      go : (z2 : Input) → first F.later ≡ z1 ++ z2 → length z2 ≡ 0 → first F.later ≡ z1
      go [] e l = e ∙ append-nil z1
      go (a ∷ z2) e l = absurd (omega arith)

  at_first : AllByRecursion (ForkAlike 𝓣 M norm first F) (completed 𝓣 M norm first F (first F.later)) → AlikeOn 𝓣 M F.left.tally took.0 (row_word 𝓣 M norm first F) (F.later ∷ []) (first F.later)
  at_first h =
      let d = done (first F.later ++ firsts first F.later_end) h in
      apart (first F.later) d
      (λ z1 z2 t e k. rw (whole (row_word 𝓣 M norm first F) (let w = F.weighs in omega arith) z1 z2 t e k) at d)
      (λ z1 z2 t e k. rw (whole (F.later ∷ []) (omega arith) z1 z2 t e k) at d)

  pub row_there : takes 𝓣 M (row_word 𝓣 M norm first F) (first F.later) ≡ None → AllByRecursion (ForkAlike 𝓣 M norm first F) (completed 𝓣 M norm first F (first F.later)) → ⊥
  row_there e h =
      let a = first_symbol 𝓣 M norm first N F.later F.later_known in
      none_some (sym (ap (shift 𝓣 F.left.tally) e) ∙ at_first h ∙ ap (shift 𝓣 took.0) a.1)

  pub row_true : (o : T) → TrueFirst 𝓣 M norm first F o → (z : Input) → AllByRecursion (ForkAlike 𝓣 M norm first F) (candidates 𝓣 M norm first F z) → TrueOn 𝓣 M F.later (row_with 𝓣 M norm first F o) z
  row_true o offset z h =
      let E : Input → Type 0 = ForkAlike 𝓣 M norm first F in
      let b : Input → List Input = completed 𝓣 M norm first F in
      let w : Word = row_word 𝓣 M norm first F in
      let f : T = took.0 in
      let cW : List Input = from_front b (cut M w z) in
      let cA : List Input = from_front b (cut M (F.later ∷ []) z) in
      let fronts_too = all_right E (b z) (cW ++ cA) h in
      let here = done (z ++ firsts first F.later_end) (all_left E (b z) (cW ++ cA) h) in
      let on_z = apart z here (fronts w z (all_left E cW cA fronts_too)) (fronts (F.later ∷ []) z (all_right E cW cA fronts_too)) in
      let same = row_offset 𝓣 M norm first N F o f offset took.1 in
      sym (shift_cancel 𝓣 f (shift 𝓣 o (takes 𝓣 M w z)) (takes 𝓣 M (F.later ∷ []) z)
      (shift_shift 𝓣 f o (takes 𝓣 M w z) ∙ ap (λ v. shift 𝓣 v (takes 𝓣 M w z)) (sym same) ∙ on_z))

  -- behind the first input of the common front
  abbrev Fits : Input → Input → Type 0
  Fits z c = Short 𝓣 M norm first F z (firsts first F.common ++ c)

  turns_short : (z c : Input) → length c ≤ length z + norms norm F.later_end → AllByRecursion (Fits z) (turns 𝓣 M norm first F c)
  turns_short z c h = (short c h, go (cut M (F.earlier ∷ []) c) refl)
    where
      short : (c : Input) → length c ≤ length z + norms norm F.later_end → Fits z c
      short c h =
          let a = length-append (firsts first F.common) c in
          let s = N.size F.common F.common_known in
          let n = N.norms_append F.common (F.later ∷ F.later_end) in
          omega arith

      go : (o : Option Cut) → cut M (F.earlier ∷ []) c ≡ o → AllByRecursion (Fits z) (in_place (first F.earlier) o)
      go None e = tt
      go (Some p) e =
          let i = cut_takes 𝓣 M c (F.earlier ∷ []) p e in
          let l = least 𝓣 M norm first N F.earlier p.front i.0.0 i.0.1 in
          let s = first_size 𝓣 M norm first N F.earlier F.earlier_known in
          let a = length-append (first F.earlier) p.rest in
          let b = length-append p.front p.rest in
          let d = ap length i.1 in
          (short (first F.earlier ++ p.rest) (omega arith), tt)

  completed_short : (z s : Input) → length s ≤ length z → AllByRecursion (Fits z) (completed 𝓣 M norm first F s)
  completed_short z s h =
      let a = length-append s (firsts first F.later_end) in
      let b = N.size F.later_end F.end_known in
      turns_short z (s ++ firsts first F.later_end) (omega arith)

  front_short : (w : Word) (z : Input) → AllByRecursion (Fits z) (from_front (completed 𝓣 M norm first F) (cut M w z))
  front_short w z = go (cut M w z) refl
    where
      go : (o : Option Cut) → cut M w z ≡ o → AllByRecursion (Fits z) (from_front (completed 𝓣 M norm first F) o)
      go None e = tt
      go (Some p) e =
          let i = cut_takes 𝓣 M z w p e in
          let a = length-append p.front p.rest in
          let d = ap length i.1 in
          completed_short z p.front (omega arith)

  pub candidate_short : (z : Input) → AllByRecursion (Fits z) (candidates 𝓣 M norm first F z)
  candidate_short z =
      let b : Input → List Input = completed 𝓣 M norm first F in
      let cW : List Input = from_front b (cut M (row_word 𝓣 M norm first F) z) in
      let cA : List Input = from_front b (cut M (F.later ∷ []) z) in
      all_both (Fits z) (b z) (cW ++ cA) (completed_short z z (omega arith)) (all_both (Fits z) cW cA (front_short (row_word 𝓣 M norm first F) z) (front_short (F.later ∷ []) z))

  -- the candidates that are completed from the later symbol's first input
  pub first_short : AllByRecursion (λ c. length (firsts first F.common ++ c) ≤ norms norm (later_word 𝓣 M norm first F)) (completed 𝓣 M norm first F (first F.later))
  first_short =
      let s = first_size 𝓣 M norm first N F.later F.later_known in
      let a : Input = first F.later in
      all_map (Fits a) (λ c. length (firsts first F.common ++ c) ≤ norms norm (later_word 𝓣 M norm first F)) (completed 𝓣 M norm first F a) (λ c h. omega arith) (completed_short a a (omega arith))
