-- A pair of words that is tried, with the normal forms of its words and the place where these part.
--
-- Found norm x y o      o parts x and y, whichever has the later symbol
-- Missed …              a fork of the pair of which not all completed inputs pass
-- Rowed … A w           a fork of the pair, w the word of its row for A; the row is true on each input whose candidates all pass
--
-- Assumes nothing.
use Rattle.std.proofs.Common.{◌≡◌, ℕ, ◌<◌, ◌++◌, Option, sym, ◌∙◌, subst, inl, inr, arith}
use Rattle.std.proofs.lemmas.Bool.{cases_lt}
use Rattle.std.specs.List.{AllByRecursion}
use Rattle.tally.specs.Group.{Group}
use Rattle.grammar.specs.Meaning.{Word, Input, Meaning, Below}
use Rattle.norm.specs.Tabled.{held}
use Rattle.norm.specs.declared.short_word.ShortWord.{ShortWord}
use Rattle.norm.specs.Norms.{norms, firsts, Earlier}
use Rattle.norm.specs.Laws.{NormLaws}
use Rattle.norm.specs.Skeletons.{norm_at}
use Rattle.norm.specs.declared.skeleton.Skeleton.{Skeleton}
use Rattle.rows.specs.Sheets.{Sheet, unweighed, offset, Normal, Ranked}
use Rattle.rows.proofs.Normals.{normal_once}
use Rattle.rows.proofs.Replacing.{norm_kept, known_kept}
use Rattle.witness.specs.Alike.{AlikeOn, TrueOn}
use Rattle.witness.specs.Forks.{Fork, later_word, completed, candidates}
use Rattle.witness.specs.Laws.{Passed}
use Rattle.witness.proofs.Cuts.{all_map}
use Rattle.witness.proofs.Walks.{settled}
use Rattle.witness.proofs.Endings as endings
use Rattle.comparison.specs.Treating.{Pair, ForkAt, Mends, row, Treats, unlike_norms, unlike_sums, later_one, later_two}
use Rattle.comparison.specs.Trying.{parts_at}
use Rattle.comparison.specs.declared.parting.Parting.{Parting}
use Rattle.comparison.specs.declared.treatment.Treatment.TheVariants.{Different, Mend}
use Rattle.comparison.proofs.Parted.{Parted, turned, fork_at, fork_weighs, row_stands, row_missed, only_misses}

pub record Found (norm : ℕ → ℕ) (x y : Word) (o : Option Parting) : Type 0 where
  pub later_one : (A B : ℕ) (f : ForkAt x y A B) → Earlier norm B A → parts_at o f.common A B f.left
  pub later_two : (A B : ℕ) (f : ForkAt x y A B) → Earlier norm A B → parts_at o f.common B A f.right

pub same_found : {k j : Skeleton} {a b x y : Word} {o q : Option Parting} → k ≡ j → a ≡ x → b ≡ y → o ≡ q → Found (norm_at k) a b o → Found (norm_at j) x y q
same_found {k = k} {a = a} {b = b} {x = x} {y = y} {q = q} d e f g h =
    subst (λ n. Found (norm_at n) x y q) d (subst (λ w. Found (norm_at k) x w q) f (subst (λ w. Found (norm_at k) w b q) e (subst (λ u. Found (norm_at k) a b u) g h)))

module _ {T : Type 0} (𝓣 : Group T) (M : Meaning T) (norm : ℕ → ℕ) (first : ℕ → Input) (D : Sheet T) (P : Pair T) (o : Option Parting) where
  -- the pair and its normal forms do not differ on the input
  abbrev pub Passing : Input → Type 0
  Passing = Passed 𝓣 M D P.one P.two P.before_one P.before_two

  pub record Missed : Type 0 where
    pub fork : Fork 𝓣 M norm first
    pub parts : parts_at o fork.common fork.later fork.earlier fork.later_end
    pub weighs : norms norm (later_word 𝓣 M norm first fork) ≡ norms norm P.one
    pub fails : AllByRecursion (λ c. Passing (firsts first fork.common ++ c)) (completed 𝓣 M norm first fork (first fork.later)) → ⊥

  pub record Rowed (A : ℕ) (w : Word) : Type 0 where
    pub fork : Fork 𝓣 M norm first
    pub parts : parts_at o fork.common fork.later fork.earlier fork.later_end
    pub weighs : norms norm (later_word 𝓣 M norm first fork) ≡ norms norm P.one
    pub stands : (t : Input) → AllByRecursion (λ c. Passing (firsts first fork.common ++ c)) (candidates 𝓣 M norm first fork t) → TrueOn 𝓣 M A (record { word = w; tally = offset 𝓣 M first A w }) t

module _ {T : Type 0} (𝓣 : Group T) (M : Meaning T) (norm : ℕ → ℕ) (first : ℕ → Input) (N : NormLaws 𝓣 M norm first) (D : Sheet T) (ranked : Ranked M.count norm (unweighed D)) where
  -- the other way round
  round : (x y : Word) (p q : T) (t : Input) → Passed 𝓣 M D x y p q t → Passed 𝓣 M D y x q p t
  round x y p q t k = (sym k.0, k.2, k.1)

  module _ (P : Pair T) (known_one : Below M.count P.one) (known_two : Below M.count P.two) (x y : Word) (s r : T) (one : Normal 𝓣 D P.one x s) (two : Normal 𝓣 D P.two y r)
      (o : Option Parting) (found : Found norm x y o) where
    -- the fork of other normal forms is that of these
    same_fork : (z v : Word) (t u : T) (A B : ℕ) → Normal 𝓣 D P.one z t → Normal 𝓣 D P.two v u → ForkAt z v A B → ForkAt x y A B
    same_fork z v t u A B f g k =
        subst (λ a. ForkAt a y A B) (normal_once 𝓣 D f one).0 (subst (λ b. ForkAt z b A B) (normal_once 𝓣 D g two).0 k)

    abbrev Here : ℕ → ℕ → Type 0
    Here A B = Parted 𝓣 M norm D P.one P.two x y s r A B

    abbrev here : (A B : ℕ) → ForkAt x y A B → Earlier norm B A → Here A B
    here A B f e = record { one = one; two = two; fork = f; order = e; known_one = known_one; known_two = known_two }

    abbrev There : ℕ → ℕ → Type 0
    There B A = Parted 𝓣 M norm D P.two P.one y x r s B A

    abbrev there : (A B : ℕ) → ForkAt x y A B → Earlier norm A B → There B A
    there A B f e = record { one = two; two = one; fork = turned f; order = e; known_one = known_two; known_two = known_one }

    -- norms that differ tell the words apart on the first input of the lighter
    norms_alike : Passing 𝓣 M norm first D P o (firsts first x) → Passing 𝓣 M norm first D P o (firsts first y) → ¬ (norms norm P.one ≡ norms norm P.two) → ⊥
    norms_alike at_x at_y ne =
        let a = norm_kept 𝓣 M.count norm D ranked one in
        let b = norm_kept 𝓣 M.count norm D ranked two in
        let p : T = 𝓣.add P.before_one s in
        let q : T = 𝓣.add P.before_two r in
        elim (cases_lt (norms norm P.one) (norms norm P.two)) [
          | inl l ↦ endings.unlike_norms 𝓣 M norm first N p q x y (known_kept 𝓣 M.count norm D ranked one known_one) (omega arith) (alike (firsts first x) at_x)
          | inr l ↦ endings.unlike_norms 𝓣 M norm first N q p y x (known_kept 𝓣 M.count norm D ranked two known_two)
              (let less : norms norm P.two < norms norm P.one = omega (arith, ne) in omega arith) (sym (alike (firsts first y) at_y))
        ]
      where
        alike : (t : Input) → Passing 𝓣 M norm first D P o t → AlikeOn 𝓣 M (𝓣.add P.before_one s) (𝓣.add P.before_two r) x y t
        alike t k = settled 𝓣 M P.one P.two x y P.before_one P.before_two s r t (k.1 x s one) (k.2 y r two) k.0

    -- and so do sums that differ
    sums_alike : (z : Word) (t u : T) → Normal 𝓣 D P.one z t → Normal 𝓣 D P.two z u → Passing 𝓣 M norm first D P o (firsts first x) → 𝓣.add P.before_one t ≡ 𝓣.add P.before_two u
    sums_alike z t u f g at_x =
        let k = subst (λ v. Passing 𝓣 M norm first D P o (firsts first v)) (normal_once 𝓣 D one f).0 at_x in
        endings.unlike_sums 𝓣 M norm first N (𝓣.add P.before_one t) (𝓣.add P.before_two u) z (known_kept 𝓣 M.count norm D ranked f known_one)
        (settled 𝓣 M P.one P.two z z P.before_one P.before_two t u (firsts first z) (k.1 z t f) (k.2 z u g) k.0)

    -- where the first inputs of both normal forms pass, only a fork is left whose completed inputs do not
    pub missed : Treats 𝓣 M norm first D P Different → Passing 𝓣 M norm first D P o (firsts first x) → Passing 𝓣 M norm first D P o (firsts first y) → Missed 𝓣 M norm first D P o
    missed (unlike_norms ne) at_x at_y = absurd (norms_alike at_x at_y ne)
    missed (unlike_sums z t u even f g ne) at_x at_y = absurd (ne (sums_alike z t u f g at_x))
    missed (later_one z v t u A B _ even f g fork order m) at_x at_y =
        let k = same_fork z v t u A B f g fork in
        let h = here A B k order in
        let n = only_misses 𝓣 M norm first N D ranked P.one P.two x y s r A B h P.before_one P.before_two even m at_y in
        record {
          fork = fork_at 𝓣 M norm first N D ranked P.one P.two x y s r A B h P.before_one P.before_two n.left n.runs n.weighs;
          parts = found.later_one A B k order;
          weighs = fork_weighs 𝓣 M norm first N D ranked P.one P.two x y s r A B h P.before_one P.before_two n.left n.runs n.weighs;
          fails = row_missed 𝓣 M norm first N D ranked P.one P.two x y s r A B h P.before_one P.before_two n;
        }
    missed (later_two z v t u A B _ even f g fork order m) at_x at_y =
        let k = same_fork z v t u A B f g fork in
        let h = there A B k order in
        let n = only_misses 𝓣 M norm first N D ranked P.two P.one y x r s B A h P.before_two P.before_one (sym even) m (round P.one P.two P.before_one P.before_two (firsts first x) at_x) in
        let F : Fork 𝓣 M norm first = fork_at 𝓣 M norm first N D ranked P.two P.one y x r s B A h P.before_two P.before_one n.left n.runs n.weighs in
        record {
          fork = F;
          parts = found.later_two A B k order;
          weighs = fork_weighs 𝓣 M norm first N D ranked P.two P.one y x r s B A h P.before_two P.before_one n.left n.runs n.weighs ∙ sym even;
          fails = λ all. row_missed 𝓣 M norm first N D ranked P.two P.one y x r s B A h P.before_two P.before_one n
              (all_map (λ c. Passing 𝓣 M norm first D P o (firsts first F.common ++ c)) (λ c. Passed 𝓣 M D P.two P.one P.before_two P.before_one (firsts first F.common ++ c)) (completed 𝓣 M norm first F (first B))
              (λ c. round P.one P.two P.before_one P.before_two (firsts first F.common ++ c)) all);
        }

    -- a row that is to be written is that of a fork
    pub rowed : (A : ℕ) (w : ShortWord 64) → Treats 𝓣 M norm first D P (Mend A w) → Rowed 𝓣 M norm first D P o A (held w)
    rowed C w (later_one z v t u A B _ even f g fork order m) = go C w m
      where
        go : (C : ℕ) (w : ShortWord 64) → Mends 𝓣 M norm first A B (Mend C w) → Rowed 𝓣 M norm first D P o C (held w)
        go C w (row m _ runs weighs taken is) =
            let k = same_fork z v t u A B f g fork in
            let h = here A B k order in
            record {
              fork = fork_at 𝓣 M norm first N D ranked P.one P.two x y s r A B h P.before_one P.before_two m runs weighs;
              parts = found.later_one A B k order;
              weighs = fork_weighs 𝓣 M norm first N D ranked P.one P.two x y s r A B h P.before_one P.before_two m runs weighs;
              stands = λ t all. subst (λ b. TrueOn 𝓣 M A (record { word = b; tally = offset 𝓣 M first A b }) t) (sym is)
                  (row_stands 𝓣 M norm first N D ranked P.one P.two x y s r A B h P.before_one P.before_two m runs weighs taken t all);
            }
    rowed C w (later_two z v t u A B _ even f g fork order m) = go C w m
      where
        go : (C : ℕ) (w : ShortWord 64) → Mends 𝓣 M norm first B A (Mend C w) → Rowed 𝓣 M norm first D P o C (held w)
        go C w (row m _ runs weighs taken is) =
            let k = same_fork z v t u A B f g fork in
            let h = there A B k order in
            let F : Fork 𝓣 M norm first = fork_at 𝓣 M norm first N D ranked P.two P.one y x r s B A h P.before_two P.before_one m runs weighs in
            record {
              fork = F;
              parts = found.later_two A B k order;
              weighs = fork_weighs 𝓣 M norm first N D ranked P.two P.one y x r s B A h P.before_two P.before_one m runs weighs ∙ sym even;
              stands = λ t all. subst (λ b. TrueOn 𝓣 M B (record { word = b; tally = offset 𝓣 M first B b }) t) (sym is)
                  (row_stands 𝓣 M norm first N D ranked P.two P.one y x r s B A h P.before_two P.before_one m runs weighs taken t
                  (all_map (λ c. Passing 𝓣 M norm first D P o (firsts first F.common ++ c)) (λ c. Passed 𝓣 M D P.two P.one P.before_two P.before_one (firsts first F.common ++ c)) (candidates 𝓣 M norm first F t)
                  (λ c. round P.one P.two P.before_one P.before_two (firsts first F.common ++ c)) all));
            }
