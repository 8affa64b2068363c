-- A pair that is looked at: what is tried on it, and what fails. Assumes nothing.
use Rattle.std.proofs.Common.{◌≡◌, ℕ, ◌+◌, ◌<◌, ◌≤◌, length, MatchOption, [], ◌∷◌, ◌++◌, Some, None, Option, sym, ap, ◌∙◌, subst, arith}
use Rattle.std.specs.List.{AllByRecursion}
use Rattle.tally.specs.Group.{Group}
use Rattle.grammar.specs.Meaning.{Word, Input, Weighted, Below}
use Rattle.grammar.proofs.Options.{none_some, some_same}
use Rattle.norm.specs.Tabled.{held}
use Rattle.norm.specs.declared.short_word.ShortWord.{ShortWord}
use Rattle.norm.specs.Words.{ran}
use Rattle.norm.specs.Norms.{norms, firsts}
use Rattle.rows.specs.Sheets.{Normal}
use Rattle.rows.proofs.Replacing.{norm_kept, known_kept}
use Rattle.sheet.specs.Rowed.{shown}
use Rattle.survey.specs.Surveyed.{surveyed, norm_in, first_in}
use Rattle.survey.specs.declared.table.Survey.{Survey}
use Rattle.survey.proofs.Holding.{laws_in}
use Rattle.agreement.specs.Agreeing.{Ready}
use Rattle.agreement.specs.declared.workspace.Workspace.{Workspace}
use Rattle.agreement.proofs.Cutting.{view_ranked}
use Rattle.witness.specs.Forks.{later_word, row_word, completed, candidates}
use Rattle.witness.specs.Laws.{Short}
use Rattle.witness.proofs.Fronts.{first_size}
use Rattle.walk.specs.Inputs.{most}
use Rattle.comparison.specs.Treating.{Pair, pair_of, Treats}
use Rattle.comparison.specs.Trying.{IsParting, over, Looks, Passes, Fails, ForkOver}
use Rattle.comparison.specs.declared.parting.Parting.{Parting}
use Rattle.comparison.specs.declared.failing.Failing.{Failing}
use Rattle.comparison.specs.declared.look.Look.{Look}
use Rattle.comparison.specs.declared.treatment.Treatment.TheVariants.{Different, Mend}
use Rattle.comparison.proofs.PairTried.{Found, Missed, Rowed, missed, rowed}

module _ {T : Type 0} (𝓣 : Group T) (s : Survey T) where
  -- what is read where a fork's words part is the word of its row
  module _ (F : ForkOver 𝓣 s) (p : Parting) (parts : IsParting p F) where
    later_known : p.later < s.skeleton.words.count
    later_known = subst (λ A. A < s.skeleton.words.count) (sym parts.later) F.later_known

    earlier_known : p.earlier < s.skeleton.words.count
    earlier_known = subst (λ A. A < s.skeleton.words.count) (sym parts.earlier) F.earlier_known

    runs : ran 𝓣 (surveyed s) (p.later ∷ []) (first_in s p.earlier) ≡ Some F.left
    runs = ap (λ A. ran 𝓣 (surveyed s) (A ∷ []) (first_in s p.earlier)) parts.later ∙ ap (λ B. ran 𝓣 (surveyed s) (F.later ∷ []) (first_in s B)) parts.earlier ∙ F.runs

    pub row_is_read : ¬ (p.later < s.skeleton.words.count → p.earlier < s.skeleton.words.count → ran 𝓣 (surveyed s) (p.later ∷ []) (first_in s p.earlier) ≡ None)
    row_is_read none = none_some (sym (none later_known earlier_known) ∙ runs)

    pub row_read : (w : Word) →
        (p.later < s.skeleton.words.count → p.earlier < s.skeleton.words.count → (m : Weighted T) × (ran 𝓣 (surveyed s) (p.later ∷ []) (first_in s p.earlier) ≡ Some m) × (w ≡ p.earlier ∷ m.word)) →
        w ≡ row_word 𝓣 (surveyed s) (norm_in s) (first_in s) F
    row_read w read =
        let e = read later_known earlier_known in
        e.2 ∙ ap (λ B. B ∷ e.0.word) parts.earlier ∙ ap (λ (m : Weighted T). F.earlier ∷ m.word) (some_same (sym e.1 ∙ runs))

    -- and the later symbol's first input is that of the fork's, and short
    pub later_first : (z : Input) → (p.later < s.skeleton.words.count → z ≡ first_in s p.later) → z ≡ first_in s F.later
    later_first z is = is later_known ∙ ap (first_in s) parts.later

    pub first_fits : (z : Input) → z ≡ first_in s F.later → length z + 512 ≤ most
    first_fits z is =
        let e = first_size 𝓣 (surveyed s) (norm_in s) (first_in s) (laws_in s 𝓣) F.later F.later_known in
        let l = s.skeleton.small F.later F.later_known in
        let d = ap length is in
        omega arith

  module _ (l : Look T) where
    -- where a candidate fails it is short
    pub candidate_tried : (F : ForkOver 𝓣 s) (z t : Input) (o : Option Failing) →
        MatchOption o (AllByRecursion (λ c. Passes 𝓣 s l (firsts (first_in s) F.common ++ c)) (candidates 𝓣 (surveyed s) (norm_in s) (first_in s) F z)) (λ f. Fails 𝓣 s l f t × Short 𝓣 (surveyed s) (norm_in s) (first_in s) F z t) →
        ¬ AllByRecursion (λ c. Passes 𝓣 s l (firsts (first_in s) F.common ++ c)) (candidates 𝓣 (surveyed s) (norm_in s) (first_in s) F z) →
        norms (norm_in s) (later_word 𝓣 (surveyed s) (norm_in s) (first_in s) F) ≤ 512 → MatchOption o ⊥ (λ f. Fails 𝓣 s l f t × (length t + 1 ≤ length z + 512))
    candidate_tried F z t None h not small = not h
    candidate_tried F z t (Some f) h not small = let p = (laws_in s 𝓣).positive F.later F.later_known in let e = h.1 in (h.0, omega arith)

    -- and so is what is completed from the later symbol's first input
    pub completed_tried : (F : ForkOver 𝓣 s) (z t : Input) (m : ℕ) (o : Option Failing) → z ≡ first_in s F.later →
        MatchOption o (AllByRecursion (λ c. Passes 𝓣 s l (firsts (first_in s) F.common ++ c)) (completed 𝓣 (surveyed s) (norm_in s) (first_in s) F z)) (λ f. Fails 𝓣 s l f t × Short 𝓣 (surveyed s) (norm_in s) (first_in s) F z t) →
        ¬ AllByRecursion (λ c. Passes 𝓣 s l (firsts (first_in s) F.common ++ c)) (completed 𝓣 (surveyed s) (norm_in s) (first_in s) F (first_in s F.later)) →
        norms (norm_in s) (later_word 𝓣 (surveyed s) (norm_in s) (first_in s) F) ≤ m → MatchOption o ⊥ (λ f. Fails 𝓣 s l f t × (length t ≤ m))
    completed_tried F z t m None is h not small =
        not (subst (λ i. AllByRecursion (λ c. Passes 𝓣 s l (firsts (first_in s) F.common ++ c)) (completed 𝓣 (surveyed s) (norm_in s) (first_in s) F i)) is h)
    completed_tried F z t m (Some f) is h not small =
        let e = first_size 𝓣 (surveyed s) (norm_in s) (first_in s) (laws_in s 𝓣) F.later F.later_known in
        let d = ap length is in
        let k = h.1 in
        (h.0, omega arith)

    -- a known word's first input is as long as its norm
    pub first_within : (z : Word) (u : Input) (m : ℕ) → Below s.skeleton.words.count z → norms (norm_in s) z ≤ m → u ≡ firsts (first_in s) z → length u ≤ m
    first_within z u m known small e = let b = (laws_in s 𝓣).size z known in let d = ap length e in omega arith

    module _ (looks : Looks 𝓣 s l) (w : Workspace T) (ready : Ready 𝓣 s (shown l.rows) w) where
      abbrev P : Pair T
      P = pair_of l.pair

      -- a normal form's symbols are known, and it weighs no more than the word
      pub form_known : (x z : Word) (t : T) → Normal 𝓣 (over 𝓣 s l) x z t → Below s.skeleton.words.count x → Below s.skeleton.words.count z
      form_known x z t f known = known_kept 𝓣 s.skeleton.words.count (norm_in s) (over 𝓣 s l) (view_ranked 𝓣 s (shown l.rows) ready.ranked) f known

      pub form_small : (x z : Word) (t : T) (m : ℕ) → Normal 𝓣 (over 𝓣 s l) x z t → norms (norm_in s) x ≤ m → norms (norm_in s) z ≤ m
      form_small x z t m f small = let e = norm_kept 𝓣 s.skeleton.words.count (norm_in s) (over 𝓣 s l) (view_ranked 𝓣 s (shown l.rows) ready.ranked) f in omega arith

      module _ (x y : Word) (t r : T) (one : Normal 𝓣 (over 𝓣 s l) P.one x t) (two : Normal 𝓣 (over 𝓣 s l) P.two y r) (o : Option Parting) (found : Found (norm_in s) x y o) where
        pub look_missed : Treats 𝓣 (surveyed s) (norm_in s) (first_in s) (over 𝓣 s l) P Different → Passes 𝓣 s l (firsts (first_in s) x) → Passes 𝓣 s l (firsts (first_in s) y) →
            Missed 𝓣 (surveyed s) (norm_in s) (first_in s) (over 𝓣 s l) P o
        look_missed =
            missed 𝓣 (surveyed s) (norm_in s) (first_in s) (laws_in s 𝓣) (over 𝓣 s l) (view_ranked 𝓣 s (shown l.rows) ready.ranked) P looks.known_one looks.known_two x y t r one two o found

        pub look_rowed : (A : ℕ) (k : ShortWord 64) → Treats 𝓣 (surveyed s) (norm_in s) (first_in s) (over 𝓣 s l) P (Mend A k) →
            Rowed 𝓣 (surveyed s) (norm_in s) (first_in s) (over 𝓣 s l) P o A (held k)
        look_rowed =
            rowed 𝓣 (surveyed s) (norm_in s) (first_in s) (laws_in s 𝓣) (over 𝓣 s l) (view_ranked 𝓣 s (shown l.rows) ready.ranked) P looks.known_one looks.known_two x y t r one two o found
