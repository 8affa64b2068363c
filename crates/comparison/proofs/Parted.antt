-- The fork of two words whose normal forms part, and that not all inputs that are tried on it can pass.
--
-- Parted … A B     the normal forms of two words of known symbols part at A and the earlier B
-- Misses A B       the row of A that is read with B does not take A's first input
--
-- Assumes nothing.
use Rattle.std.proofs.Common.{◌≡◌, ℕ, ◌+◌, ◌<◌, ◌≤◌, [], ◌∷◌, ◌++◌, Some, None, Option, sym, refl, ap, ◌∙◌, subst, inl, inr, arith}
use Rattle.std.specs.List.{AllByRecursion}
use Rattle.tally.specs.Group.{Group}
use Rattle.grammar.specs.Meaning.{Word, Input, Weighted, Meaning, Below}
use Rattle.grammar.specs.Takes.{takes}
use Rattle.norm.specs.Words.{ran}
use Rattle.norm.specs.Norms.{norms, firsts, Taken, Earlier}
use Rattle.norm.specs.Laws.{NormLaws}
use Rattle.norm.proofs.Weights.{each_front, each_back}
use Rattle.rows.specs.Sheets.{Sheet, unweighed, offset, Normal, Ranked}
use Rattle.rows.proofs.Normals.{to, normal_plain}
use Rattle.rows.proofs.Replacing.{norm_kept, known_kept}
use Rattle.witness.specs.Alike.{AlikeOn, TrueOn}
use Rattle.witness.specs.Forks.{Fork, later_word, completed, candidates, ForkAlike, ForkOf}
use Rattle.witness.specs.Laws.{Passed}
use Rattle.witness.proofs.Sums.{difference_shift}
use Rattle.witness.proofs.Fronts.{first_symbol, first_size}
use Rattle.witness.proofs.Cuts.{all_map}
use Rattle.witness.proofs.Walks.{settled}
use Rattle.witness.proofs.Forks.{row_there}
use Rattle.witness.proofs.Stages.{stage}
use Rattle.witness.proofs.Endings as endings
use Rattle.comparison.specs.Treating.{ForkAt, Mends, cannot_read, other_norm, misses_first}
use Rattle.comparison.specs.declared.treatment.Treatment.TheVariants.{Different}

-- a fork, its two words the other way round
abbrev pub turned : {x y : Word} {A B : ℕ} → ForkAt x y A B → ForkAt y x B A
turned f = record { common = f.common; left = f.right; right = f.left; one = f.two; two = f.one; apart = λ e. f.apart (sym e) }

module _ {T : Type 0} (𝓣 : Group T) (M : Meaning T) (norm : ℕ → ℕ) (D : Sheet T) where
  pub record Parted (x y z v : Word) (t r : T) (A B : ℕ) : Type 0 where
    pub one : Normal 𝓣 D x z t
    pub two : Normal 𝓣 D y v r
    pub fork : ForkAt z v A B
    pub order : Earlier norm B A
    pub known_one : Below M.count x
    pub known_two : Below M.count y

module _ {T : Type 0} (𝓣 : Group T) (M : Meaning T) (norm : ℕ → ℕ) (first : ℕ → Input) where
  pub record Misses (A B : ℕ) : Type 0 where
    pub left : Weighted T
    pub runs : ran 𝓣 M (A ∷ []) (first B) ≡ Some left
    pub weighs : norm B + norms norm left.word ≡ norm A
    pub none : takes 𝓣 M (B ∷ left.word) (first A) ≡ None

  pub untaken : (A B : ℕ) (m : Weighted T) → ¬ Taken 𝓣 M (B ∷ m.word) (first A) → takes 𝓣 M (B ∷ m.word) (first A) ≡ None
  untaken A B m none = go (takes 𝓣 M (B ∷ m.word) (first A)) refl
    where
      go : (o : Option T) → takes 𝓣 M (B ∷ m.word) (first A) ≡ o → o ≡ None
      go None e = refl
      go (Some c) e = absurd (none (c, e))

  module _ (N : NormLaws 𝓣 M norm first) (D : Sheet T) (ranked : Ranked M.count norm (unweighed D)) (x y z v : Word) (t r : T) (A B : ℕ) (h : Parted 𝓣 M norm D x y z v t r A B) where
    pub later_normal : Normal 𝓣 D x (h.fork.common ++ (A ∷ h.fork.left)) t
    later_normal = to 𝓣 D h.fork.one h.one

    pub earlier_normal : Normal 𝓣 D y (h.fork.common ++ (B ∷ h.fork.right)) r
    earlier_normal = to 𝓣 D h.fork.two h.two

    later_known : Below M.count (h.fork.common ++ (A ∷ h.fork.left))
    later_known = known_kept 𝓣 M.count norm D ranked later_normal h.known_one

    earlier_known : Below M.count (h.fork.common ++ (B ∷ h.fork.right))
    earlier_known = known_kept 𝓣 M.count norm D ranked earlier_normal h.known_two

    pub common_known : Below M.count h.fork.common
    common_known = each_front (λ C. C < M.count) h.fork.common (A ∷ h.fork.left) later_known

    pub later_end : Below M.count (A ∷ h.fork.left)
    later_end = each_back (λ C. C < M.count) h.fork.common (A ∷ h.fork.left) later_known

    pub earlier_end : Below M.count (B ∷ h.fork.right)
    earlier_end = each_back (λ C. C < M.count) h.fork.common (B ∷ h.fork.right) earlier_known

    -- the later symbol has no row
    pub later_free : D A ≡ None
    later_free = (each_back (λ C. D C ≡ None) h.fork.common (A ∷ h.fork.left) (normal_plain 𝓣 D later_normal)).0

    -- what is left is not too light
    pub no_lighter : (m : Weighted T) → ran 𝓣 M (A ∷ []) (first B) ≡ Some m → norm A ≤ norm B + norms norm m.word
    no_lighter m runs =
        let l = N.run_lowers (A ∷ []) (first B) m runs in
        let e = first_size 𝓣 M norm first N B earlier_end.0 in
        omega arith

    module _ (p q : T) where
      module _ (m : Weighted T) (runs : ran 𝓣 M (A ∷ []) (first B) ≡ Some m) (weighs : norm B + norms norm m.word ≡ norm A) where
        abbrev pub fork_at : Fork 𝓣 M norm first
        fork_at = record {
          common = h.fork.common;
          later = A;
          earlier = B;
          later_end = h.fork.left;
          earlier_end = h.fork.right;
          later_sum = 𝓣.add p t;
          earlier_sum = 𝓣.add q r;
          left = m;
          runs = runs;
          order = h.order;
          weighs = weighs;
          later_known = later_end.0;
          earlier_known = earlier_end.0;
          common_known = common_known;
          end_known = later_end.1;
        }

        pub fork_of : ForkOf 𝓣 M norm first fork_at D x y p q
        fork_of = record { one = t; two = r; normal_one = later_normal; normal_two = earlier_normal; sum_one = refl; sum_two = refl }

        -- it weighs what the word does
        pub fork_weighs : norms norm (later_word 𝓣 M norm first fork_at) ≡ norms norm x
        fork_weighs = norm_kept 𝓣 M.count norm D ranked later_normal

        -- where all candidates pass, the row is true
        pub row_stands : Taken 𝓣 M (B ∷ m.word) (first A) → (s : Input) →
            AllByRecursion (λ c. Passed 𝓣 M D x y p q (firsts first h.fork.common ++ c)) (candidates 𝓣 M norm first fork_at s) →
            TrueOn 𝓣 M A (record { word = B ∷ m.word; tally = offset 𝓣 M first A (B ∷ m.word) }) s
        row_stands taken s all =
            let a = first_symbol 𝓣 M norm first N A later_end.0 in
            stage 𝓣 M norm first N fork_at D x y p q (offset 𝓣 M first A (B ∷ m.word)) fork_of
            (difference_shift 𝓣 a.0 taken.0 (takes 𝓣 M (A ∷ []) (first A)) (takes 𝓣 M (B ∷ m.word) (first A)) a.1 taken.1) s all

      -- what passes does not tell the normal forms apart
      pub passed_alike : (s : Input) → Passed 𝓣 M D x y p q s →
          AlikeOn 𝓣 M (𝓣.add p t) (𝓣.add q r) (h.fork.common ++ (A ∷ h.fork.left)) (h.fork.common ++ (B ∷ h.fork.right)) s
      passed_alike s k =
          settled 𝓣 M x y (h.fork.common ++ (A ∷ h.fork.left)) (h.fork.common ++ (B ∷ h.fork.right)) p q t r s
          (k.1 (h.fork.common ++ (A ∷ h.fork.left)) t later_normal) (k.2 (h.fork.common ++ (B ∷ h.fork.right)) r earlier_normal) k.0

      -- without the row's first input, not all completed inputs pass
      pub row_missed : (n : Misses A B) → AllByRecursion (λ c. Passed 𝓣 M D x y p q (firsts first h.fork.common ++ c)) (completed 𝓣 M norm first (fork_at n.left n.runs n.weighs) (first A)) → ⊥
      row_missed n all =
          let F = fork_at n.left n.runs n.weighs in
          row_there 𝓣 M norm first N F n.none
          (all_map (λ c. Passed 𝓣 M D x y p q (firsts first h.fork.common ++ c)) (ForkAlike 𝓣 M norm first F) (completed 𝓣 M norm first F (first A)) (λ c k. passed_alike (firsts first h.fork.common ++ c) k) all)

      -- where the first input of the earlier normal form passes, nothing else is wrong
      pub only_misses : norms norm x ≡ norms norm y → Mends 𝓣 M norm first A B Different → Passed 𝓣 M D x y p q (firsts first v) → Misses A B
      only_misses even mends passed = go mends
        where
          at_earlier : AlikeOn 𝓣 M (𝓣.add p t) (𝓣.add q r) (h.fork.common ++ (A ∷ h.fork.left)) (h.fork.common ++ (B ∷ h.fork.right)) (firsts first h.fork.common ++ (first B ++ firsts first h.fork.right))
          at_earlier =
              subst (AlikeOn 𝓣 M (𝓣.add p t) (𝓣.add q r) (h.fork.common ++ (A ∷ h.fork.left)) (h.fork.common ++ (B ∷ h.fork.right))) (ap (firsts first) h.fork.two ∙ N.firsts_append h.fork.common (B ∷ h.fork.right))
              (passed_alike (firsts first v) passed)

          no_later : Earlier norm B A → norm B ≤ norm A
          no_later (inl l) = omega arith
          no_later (inr l) = let e = l.0 in omega arith

          same : norm A + norms norm h.fork.left ≡ norm B + norms norm h.fork.right
          same =
              let one = norm_kept 𝓣 M.count norm D ranked later_normal in
              let two = norm_kept 𝓣 M.count norm D ranked earlier_normal in
              let f = N.norms_append h.fork.common (A ∷ h.fork.left) in
              let g = N.norms_append h.fork.common (B ∷ h.fork.right) in
              omega arith

          go : Mends 𝓣 M norm first A B Different → Misses A B
          go (cannot_read e) =
              absurd (endings.no_run 𝓣 M norm first N A B h.fork.common h.fork.left h.fork.right (𝓣.add p t) (𝓣.add q r) earlier_end.0 common_known earlier_end.1 (no_later h.order) e at_earlier)
          go (other_norm m e ne) =
              let l = no_lighter m e in
              let less : norm A < norm B + norms norm m.word = omega (arith, ne) in
              absurd (endings.too_heavy 𝓣 M norm first N A B h.fork.common h.fork.left h.fork.right (𝓣.add p t) (𝓣.add q r) m earlier_end.0 common_known earlier_end.1 same e less at_earlier)
          go (misses_first m e weighs none) = record { left = m; runs = e; weighs = weighs; none = untaken A B m none }
