-- The inputs that are completed from one, as buffers hold them: nothing of them is cut off. Assumes nothing.
use Rattle.std.proofs.Common.{◌≡◌, ℕ, zero, suc, ◌+◌, ◌≤◌, List, [], ◌∷◌, ◌++◌, length, take, drop, MatchOption, Some, None, Option, sym, refl, ap, ◌∙◌, subst, inl, inr, append_assoc, append-nil, length-append, take_all, arith}
use Rattle.std.specs.List.{AllByRecursion}
use Rattle.tally.specs.Group.{Group}
use Rattle.grammar.specs.Meaning.{Word, Input, Below}
use Rattle.norm.specs.Norms.{norms, firsts, Earlier}
use Rattle.norm.specs.Skeletons.{norm_at, first_at}
use Rattle.norm.specs.declared.skeleton.Skeleton.{Skeleton}
use Rattle.norm.specs.Laws.{NormLaws}
use Rattle.survey.specs.Surveyed.{surveyed, norm_in, first_in}
use Rattle.survey.specs.declared.table.Survey.{Survey}
use Rattle.survey.proofs.Holding.{laws_in}
use Rattle.witness.specs.Alike.{cut}
use Rattle.witness.specs.Forks.{later_word, in_place, from_front, completed}
use Rattle.witness.specs.Laws.{Short}
use Rattle.witness.proofs.Cuts.{parted, all_left}
use Rattle.witness.proofs.Forks.{candidate_short}
use Rattle.walk.specs.Inputs.{most}
use Rattle.comparison.specs.Trying.{IsParting, ForkOver}
use Rattle.comparison.specs.declared.parting.Parting.{Parting}

-- what is cut off to n letters may be cut off before, too
pub take_over : (n : ℕ) (a b : Input) → take n (take n a ++ b) ≡ take n (a ++ b)
take_over zero a b = refl
take_over (suc n) [] b = refl
take_over (suc n) (x ∷ a) b = ap (λ l. x ∷ l) (take_over n a b)

-- what is promised of a skeleton and a word holds of those that they are
pub written : (P : Skeleton → Word → Type 0) (k j : Skeleton) (w v : Word) → k ≡ j → w ≡ v → Below j.words.count v → norms (norm_at j) v ≤ 512 →
    (Below k.words.count w → norms (norm_at k) w ≤ 512 → P k w) → P j v
written P k j w v e f known small h =
    let known_w = subst (λ i. Below i.words.count w) (sym e) (subst (Below j.words.count) (sym f) known) in
    let small_w = subst (λ i. norms (norm_at i) w ≤ 512) (sym e) (subst (λ u. norms (norm_at j) u ≤ 512) (sym f) small) in
    subst (P j) f (subst (λ i. P i w) e (h known_w small_w))

-- an answer's meaning by what follows from it
pub match_map : {X P A : Type 0} {Q B : X → Type 0} (o : Option X) → (P → A) → ((x : X) → Q x → B x) → MatchOption o P Q → MatchOption o A B
match_map None f g h = f h
match_map (Some x) f g h = g x h

module _ {T : Type 0} (𝓣 : Group T) (s : Survey T) where
  -- the first input of a light word is held whole
  pub first_held : (w : Word) (l : Input) → Below s.skeleton.words.count w → norms (norm_in s) w ≤ 512 → l ≡ take most (firsts (first_in s) w ++ []) → l ≡ firsts (first_in s) w
  first_held w l known small e =
      let d = (laws_in s 𝓣).size w known in
      e ∙ ap (take most) (append-nil (firsts (first_in s) w)) ∙ take_all most (firsts (first_in s) w) (omega arith)

  pub first_fits : (w : Word) → Below s.skeleton.words.count w → norms (norm_in s) w ≤ 512 → length (firsts (first_in s) w) ≤ most
  first_fits w known small = let d = (laws_in s 𝓣).size w known in omega arith

  module _ (F : ForkOver 𝓣 s) (small : norms (norm_in s) (later_word 𝓣 (surveyed s) (norm_in s) (first_in s) F) ≤ 512) where
    N : NormLaws 𝓣 (surveyed s) (norm_in s) (first_in s)
    N = laws_in s 𝓣

    sums : norms (norm_in s) (later_word 𝓣 (surveyed s) (norm_in s) (first_in s) F) ≡ norms (norm_in s) F.common + (norm_in s F.later + norms (norm_in s) F.later_end)
    sums = N.norms_append F.common (F.later ∷ F.later_end)

    no_heavier : norm_in s F.earlier ≤ norm_in s F.later
    no_heavier = go F.order
      where
        go : Earlier (norm_in s) F.earlier F.later → norm_in s F.earlier ≤ norm_in s F.later
        go (inl l) = omega arith
        go (inr e) = omega arith

    -- the words that are written are light
    pub common_small : norms (norm_in s) F.common ≤ 512
    common_small = let e = sums in omega arith

    pub end_small : norms (norm_in s) F.later_end ≤ 512
    end_small = let e = sums in omega arith

    pub earlier_small : norms (norm_in s) (F.earlier ∷ []) ≤ 512
    earlier_small = let e = sums in let l = no_heavier in omega arith

    abbrev pub behind : Input → Input
    behind c = firsts (first_in s) F.common ++ c

    module _ (z : Input) (fits : length z + 512 ≤ most) where
      abbrev pub whole : Input
      whole = z ++ firsts (first_in s) F.later_end

      abbrev pub turned : ℕ → Input
      turned n = first_in s F.earlier ++ drop n whole

      -- a front that the earlier symbol takes
      abbrev pub Cuts : ℕ → Type 0
      Cuts n = cut (surveyed s) (F.earlier ∷ []) whole ≡ Some (parted (take n whole) (drop n whole))

      abbrev Shorts : Input → Type 0
      Shorts c = Short 𝓣 (surveyed s) (norm_in s) (first_in s) F z (behind c)

      shorts : AllByRecursion Shorts (completed 𝓣 (surveyed s) (norm_in s) (first_in s) F z)
      shorts = all_left Shorts (completed 𝓣 (surveyed s) (norm_in s) (first_in s) F z) _ (candidate_short 𝓣 (surveyed s) (norm_in s) (first_in s) N F z)

      -- the inputs that are completed are short
      pub whole_short : Shorts whole
      whole_short = shorts.0

      pub turned_short : (n : ℕ) → Cuts n → Shorts (turned n)
      turned_short n e = (subst (λ o. AllByRecursion Shorts (in_place (first_in s F.earlier) o)) e shorts.1).0

      short_fits : (c : Input) → Shorts c → length (behind c) ≤ most
      short_fits c h = omega arith

      whole_fits : length whole ≤ most
      whole_fits = let h = short_fits whole whole_short in let l = length-append (firsts (first_in s) F.common) whole in omega arith

      tried_fits : length (behind whole) ≤ most
      tried_fits = short_fits whole whole_short

      pub turned_fits : (n : ℕ) → Cuts n → length (behind (turned n)) ≤ most
      turned_fits n e = short_fits (turned n) (turned_short n e)

      -- and held whole
      end_held : (a b c : Input) → a ≡ [] → b ≡ take most (a ++ z) → c ≡ take most (b ++ firsts (first_in s) F.later_end) → c ≡ whole
      end_held a b c e f g =
          let k = whole_fits in
          let h = f ∙ ap (λ l. take most (l ++ z)) e in
          g ∙ ap (λ l. take most (l ++ firsts (first_in s) F.later_end)) h ∙ take_over most z (firsts (first_in s) F.later_end) ∙ take_all most whole k

      tried_held : (e t : Input) → e ≡ whole → t ≡ take most (firsts (first_in s) F.common ++ e) → t ≡ behind whole
      tried_held e t h f = f ∙ ap (λ l. take most (behind l)) h ∙ take_all most (behind whole) tried_fits

      turned_held : (n : ℕ) (a b c d r : Input) → Cuts n → a ≡ [] → b ≡ take most (a ++ firsts (first_in s) F.common) →
          c ≡ take most (b ++ firsts (first_in s) (F.earlier ∷ [])) → r ≡ drop n whole → d ≡ take most (c ++ r) → d ≡ behind (turned n)
      turned_held n a b c d r cuts e f g h i =
          let u = firsts (first_in s) F.common in
          let v = firsts (first_in s) (F.earlier ∷ []) in
          let common = f ∙ ap (λ l. take most (l ++ u)) e in
          let two = g ∙ ap (λ l. take most (l ++ v)) common ∙ take_over most u v in
          let all = i ∙ ap (λ l. take most (l ++ r)) two ∙ take_over most (u ++ v) r in
          let joined : (u ++ v) ++ r ≡ behind (turned n) = append_assoc u v r ∙ ap (λ l. u ++ l) (ap (λ l. l ++ r) (append-nil (first_in s F.earlier)) ∙ ap (λ l. first_in s F.earlier ++ l) h) in
          all ∙ ap (take most) joined ∙ take_all most (behind (turned n)) (turned_fits n cuts)

      -- the buffers, as the skeleton k and the parting p are those of the fork
      module _ (k : Skeleton) (p : Parting) (same : k ≡ s.skeleton) (parting : IsParting p F) where
        abbrev Writes : (Skeleton → Word → Type 0) → Word → Type 0
        Writes P w = Below k.words.count w → norms (norm_at k) w ≤ 512 → P k w

        abbrev Adds : Input → Input → Word → Type 0
        Adds b c w = Writes (λ k w. c ≡ take most (b ++ firsts (first_at k) w)) w

        -- the end, and then what is tried, with the slice that is read of it
        pub record Held (e t u : Input) : Type 0 where
          pub end : e ≡ whole
          pub end_fits : length e ≤ most
          pub tried : t ≡ behind whole
          pub read : u ≡ behind whole
          pub read_fits : length u ≤ most

        pub first_written : (a b c e t u : Input) → a ≡ [] → b ≡ take most (a ++ z) → Adds b c p.later_end.now → e ≡ c → Writes (λ k w. t ≡ take most (firsts (first_at k) w ++ e)) p.common.now → u ≡ t → Held e t u
        first_written a b c e t u none input more is front slice =
            let end = is ∙ end_held a b c none input (written (λ k w. c ≡ take most (b ++ firsts (first_at k) w)) k s.skeleton p.later_end.now F.later_end same parting.later_end F.end_known end_small more) in
            let tried = tried_held e t end (written (λ k w. t ≡ take most (firsts (first_at k) w ++ e)) k s.skeleton p.common.now F.common same parting.common F.common_known common_small front) in
            record {
              end = end;
              end_fits = subst (λ v. length v ≤ most) (sym end) whole_fits;
              tried = tried;
              read = slice ∙ tried;
              read_fits = subst (λ v. length v ≤ most) (sym (slice ∙ tried)) tried_fits;
            }

        pub turned_written : (n : ℕ) (a b c d r : Input) → Cuts n → a ≡ [] → Adds a b p.common.now → Adds b c (p.earlier ∷ []) → r ≡ drop n whole → d ≡ take most (c ++ r) → d ≡ behind (turned n)
        turned_written n a b c d r cuts none one two rest more =
            turned_held n a b c d r cuts none
            (written (λ k w. b ≡ take most (a ++ firsts (first_at k) w)) k s.skeleton p.common.now F.common same parting.common F.common_known common_small one)
            (written (λ k w. c ≡ take most (b ++ firsts (first_at k) w)) k s.skeleton (p.earlier ∷ []) (F.earlier ∷ []) same (ap (λ A. A ∷ []) parting.earlier) (F.earlier_known, tt) earlier_small two) rest more

        -- a front of the end, and none
        pub cuts_whole : (e : Input) (n : ℕ) → e ≡ whole → cut (surveyed s) (p.earlier ∷ []) e ≡ Some (parted (take n e) (drop n e)) → Cuts n
        cuts_whole e n is h =
            subst (λ v. cut (surveyed s) (F.earlier ∷ []) v ≡ Some (parted (take n v) (drop n v))) is (subst (λ A. cut (surveyed s) (A ∷ []) e ≡ Some (parted (take n e) (drop n e))) parting.earlier h)

        pub none_whole : (e : Input) → e ≡ whole → cut (surveyed s) (p.earlier ∷ []) e ≡ None → cut (surveyed s) (F.earlier ∷ []) whole ≡ None
        none_whole e is h = subst (λ v. cut (surveyed s) (F.earlier ∷ []) v ≡ None) is (subst (λ A. cut (surveyed s) (A ∷ []) e ≡ None) parting.earlier h)

      -- what holds of the one or two completed inputs holds of all
      module _ (P : Input → Type 0) where
        pub none_turned : cut (surveyed s) (F.earlier ∷ []) whole ≡ None → P whole → AllByRecursion P (completed 𝓣 (surveyed s) (norm_in s) (first_in s) F z)
        none_turned e h = (h, subst (λ o. AllByRecursion P (in_place (first_in s F.earlier) o)) (sym e) tt)

        pub one_turned : (n : ℕ) → Cuts n → P whole → P (turned n) → AllByRecursion P (completed 𝓣 (surveyed s) (norm_in s) (first_in s) F z)
        one_turned n e h k = (h, subst (λ o. AllByRecursion P (in_place (first_in s F.earlier) o)) (sym e) (k, tt))

    -- what holds of all that are completed from the front that a word takes
    pub front_all : (P : Input → Type 0) (w : Word) (z f : Input) (n : ℕ) → cut (surveyed s) w z ≡ Some (parted (take n z) (drop n z)) → f ≡ take n z →
        AllByRecursion P (completed 𝓣 (surveyed s) (norm_in s) (first_in s) F f) → AllByRecursion P (from_front (completed 𝓣 (surveyed s) (norm_in s) (first_in s) F) (cut (surveyed s) w z))
    front_all P w z f n e is h =
        let b : Input → List Input = completed 𝓣 (surveyed s) (norm_in s) (first_in s) F in
        subst (λ o. AllByRecursion P (from_front b o)) (sym e) (subst (λ v. AllByRecursion P (b v)) is h)

    -- where a front of z is completed: what is short for the front is short for z
    pub front_short : (z f t : Input) → length f ≤ length z → Short 𝓣 (surveyed s) (norm_in s) (first_in s) F f t → Short 𝓣 (surveyed s) (norm_in s) (first_in s) F z t
    front_short z f t h k = omega arith
