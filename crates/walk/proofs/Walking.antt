-- The walk along an input with a word, step by step.
--
-- Able … w x t         the walk may begin: the workspace w is ready, the word x has known symbols and a norm of at most 512, the input t is short
-- still … y r          at most how many steps are to come, where y is left of the word and r of the input
-- Walking … x t y r k  after k steps y and r are left; what holds of y on r holds of x on t
-- Answer … x t o       what the answer o says of x on t
--
-- The idea: a step uses up a letter, or puts symbols of lower rank for the first one.
--
-- Assumes nothing.
use Rattle.std.proofs.Common.{◌≡◌, ℕ, zero, suc, ◌+◌, ◌-◌, ◌*◌, ◌<◌, ◌≤◌, [], ◌∷◌, ◌++◌, length, take, drop, Some, None, Option, MatchOption, option_map, slice_get, sym, refl, ap, ◌∙◌, subst, arith, append-nil, length-drop, drop-drop, mul-le-mul}
use Rattle.tally.specs.Group.{Group}
use Rattle.grammar.specs.Meaning.{Word, Input, Weighted, Meaning, Each, Below}
use Rattle.grammar.specs.Takes.{takes}
use Rattle.grammar.proofs.Held.{fits}
use Rattle.grammar.proofs.Options.{none_some}
use Rattle.grammar.proofs.Twins.{each_append}
use Rattle.grammar.specs.WordStacks.{put_before}
use Rattle.norm.specs.Norms.{norms}
use Rattle.norm.specs.Laws.{NormLaws}
use Rattle.rows.specs.Sheets.{View, Sheet, Shaped, offset}
use Rattle.rows.proofs.Normals.{Filled, rank, shaped_falls, shaped_filled}
use Rattle.survey.specs.Surveyed.{surveyed, norm_in, first_in}
use Rattle.survey.specs.declared.table.Survey.{Survey}
use Rattle.survey.proofs.Holding.{laws_in}
use Rattle.agreement.specs.Works.{rows_over}
use Rattle.agreement.specs.Agreeing.{Ready}
use Rattle.agreement.specs.declared.workspace.Workspace.{Workspace}
use Rattle.witness.specs.Alike.{TrueOn, TrueOnFront, NormalOn, NormalOnRest, cut}
use Rattle.witness.specs.Laws.{WalkLaw}
use Rattle.witness.proofs.Walks.{walk}
use Rattle.walk.specs.Inputs.{most}
use Rattle.walk.specs.Fronts.{IsFront}
use Rattle.walk.specs.Blames.{Untrue, piece}
use Rattle.walk.specs.declared.blame.Blame.{Blame}

module _ {T : Type 0} (𝓣 : Group T) (s : Survey T) (V : View) where
  abbrev count : ℕ
  count = s.skeleton.words.count

  abbrev M : Meaning T
  M = surveyed s

  abbrev D : Sheet T
  D = rows_over 𝓣 s V

  laws : NormLaws 𝓣 M (norm_in s) (first_in s)
  laws = laws_in s 𝓣

  walks : WalkLaw 𝓣 M
  walks = walk 𝓣 M

  pub record Able (w : Workspace T) (x : Word) (t : Input) : Type 0 where
    pub ready : Ready 𝓣 s V w
    pub known : Below count x
    pub small : norms (norm_in s) x ≤ 512
    pub short : length t ≤ most

  abbrev pub still : Word → Input → ℕ
  still [] r = 0
  still (A ∷ y) r = length r * 2080 + (rank count (norm_in s) A + 1)

  still_bound : (y : Word) (r : Input) → Below count y → still y r ≤ length r * 2080 + 2080
  still_bound [] r h = omega arith
  still_bound (A ∷ y) r h =
      let few = s.skeleton.words.few in
      let l = h.0 in
      let m : norm_in s A * count ≤ 64 * 32 = mul-le-mul (s.skeleton.small A h.0) few in
      omega arith

  -- a front that a symbol takes is not empty
  some_front : (A n : ℕ) (r : Input) (u : T) → takes 𝓣 M (A ∷ []) (take n r) ≡ Some u → 1 ≤ n
  some_front A zero r u e = absurd (none_some e)
  some_front A (suc n) r u e = omega arith

  pub record Walking (x : Word) (t : Input) (y : Word) (r : Input) (k : ℕ) : Type 0 where
    pub back : NormalOn 𝓣 M D y r → NormalOn 𝓣 M D x t
    pub end : r ≡ drop (length t - length r) t
    pub known : Below count y
    pub small : norms (norm_in s) y ≤ 512
    pub ahead : k + still y r ≤ (length t + 1) * 2080

  -- what is answered
  abbrev pub Answer : Word → Input → Option Blame → Type 0
  Answer x t o = MatchOption o (NormalOn 𝓣 M D x t) (λ b. Untrue 𝓣 M D b.symbol (piece b t))

  module _ (w : Workspace T) (x : Word) (t : Input) (able : Able w x t) where
    pub start : (h y : Word) → h ≡ [] → y ≡ put_before 512 x h → Walking x t y t 0
    start h y none put =
        let long = laws.long_enough x able.known in
        let small = able.small in
        let size = ap length none in
        let is : y ≡ x = fits 512 x h y put (omega arith) ∙ ap (λ z. x ++ z) none ∙ append-nil x in
        subst (λ z. Walking x t z t 0) (sym is) (record {
          back = λ n. n;
          end = let e : length t - length t ≡ 0 = omega arith in sym (ap (λ i. drop i t) e);
          known = able.known;
          small = able.small;
          ahead = let l = still_bound x t able.known in omega arith;
        })

    -- where nothing is left of the word
    pub ended : (y : Word) (r : Input) (k : ℕ) → Walking x t y r k → length y ≤ 0 → NormalOn 𝓣 M D x t
    ended [] r k at none = at.back (walks.ends D r)
    ended (A ∷ y) r k at none = absurd (omega arith)

    -- where no step is left
    pub over : (y : Word) (r : Input) (k : ℕ) → Walking x t y r k → (length t + 1) * 2080 ≤ k → NormalOn 𝓣 M D x t
    over [] r k at l = ended [] r k at (omega arith)
    over (A ∷ y) r k at l = let h = at.ahead in absurd (omega arith)

    module _ (A : ℕ) (y z : Word) (r : Input) (k : ℕ) (is : z ≡ A ∷ y) (walking : Walking x t z r k) where
      at : Walking x t (A ∷ y) r k
      at = subst (λ v. Walking x t v r k) is walking

      within : length r ≤ length t
      within = let e = ap length at.end in let h = length-drop (length t - length r) t in omega arith

      module _ (free : None ≡ V A) where
        no_row : D A ≡ None
        no_row = ap (option_map (λ z. record { word = z; tally = offset 𝓣 M (first_in s) A z })) (sym free)

        -- a symbol without a row that takes no front
        pub stuck : cut M (A ∷ []) r ≡ None → NormalOn 𝓣 M D x t
        stuck none = at.back (walks.keeps D r A y no_row (subst (NormalOnRest 𝓣 M D y) (sym none) tt))

        -- one that takes a front
        pub kept : (n : ℕ) (u : T) (q : Input) → IsFront 𝓣 M (A ∷ []) r n u → q ≡ drop n r → Walking x t y q (k + 1)
        kept n u q front e =
            let size = length-drop n r in
            let some = some_front A n r u front.taken in
            let l = front.within in
            let low = within in
            let h = at.ahead in
            let known = at.known.1 in
            let bound = still_bound y (drop n r) known in
            let norm = at.small in
            let from : length t - length r + n ≡ length t - length (drop n r) = omega arith in
            subst (λ v. Walking x t y v (k + 1)) (sym e) (record {
              back = λ on. at.back (walks.keeps D r A y no_row (subst (NormalOnRest 𝓣 M D y) (sym front.cuts) on));
              end = ap (drop n) at.end ∙ drop-drop n (length t - length r) t ∙ ap (λ i. drop i t) from;
              known = known;
              small = omega arith;
              ahead = omega arith;
            })

      -- one with a row, whose word is v and whose offset is o
      module _ (v u : Word) (o : T) (same : v ≡ u) (word : Some u ≡ V A) (sum : (p : T) → slice_get w.offsets A ≡ Some p → o ≡ p) where
        abbrev m : Weighted T
        m = record { word = v; tally = o }

        row : V A ≡ Some v
        row = sym word ∙ ap Some (sym same)

        row_at : D A ≡ Some m
        row_at =
            let t = offset 𝓣 M (first_in s) A v in
            let e : D A ≡ Some (record { word = v; tally = t }) = ap (option_map (λ z. record { word = z; tally = offset 𝓣 M (first_in s) A z })) row in
            e ∙ ap (λ p. Some (record { word = v; tally = p })) (sym (sum t (able.ready.works.offsets A _ e)))

        shaped : Shaped count (norm_in s) A v
        shaped = able.ready.ranked A v row

        -- the row is not true on a front
        pub blamed : (n : ℕ) → ¬ TrueOn 𝓣 M A m (take n r) → Untrue 𝓣 M D A (take n (drop (length t - length r) t))
        blamed n untrue = record { row = m; is = row_at; untrue = subst (λ q. ¬ TrueOn 𝓣 M A m (take n q)) at.end untrue }

        -- the rank of the first symbol falls
        falls : (u : Word) → v ≡ u → still (u ++ y) r + 1 ≤ still (A ∷ y) r
        falls [] e = absurd (subst Filled e (shaped_filled count (norm_in s) (λ B l. laws.positive B l) A v shaped))
        falls (C ∷ u) e =
            let lower = subst (Each (λ B. rank count (norm_in s) B < rank count (norm_in s) A)) e (shaped_falls count (norm_in s) (λ B l. laws.positive B l) A v shaped) in
            let h = lower.0 in
            omega arith

        -- the row is true on the fronts that the symbol and the word take
        pub put : (z : Word) → TrueOnFront 𝓣 M A m (cut M (A ∷ []) r) → TrueOnFront 𝓣 M A m (cut M v r) → z ≡ put_before 512 v y → Walking x t z r (k + 1)
        put z own other e =
            let sh = shaped in
            let weighs = sh.weighs in
            let total = laws.norms_append v y in
            let norm = at.small in
            let one = laws.long_enough v sh.below in
            let two = laws.long_enough y at.known.1 in
            let fall = falls v refl in
            let h = at.ahead in
            subst (λ u. Walking x t u r (k + 1)) (sym (fits 512 v y z e (omega arith))) (record {
              back = λ on. at.back (walks.puts D r A y m row_at own other on);
              end = at.end;
              known = each_append _ v y sh.below at.known.1;
              small = omega arith;
              ahead = omega arith;
            })
