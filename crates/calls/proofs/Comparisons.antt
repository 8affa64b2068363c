-- A comparison that says "same": the rows that it leaves keep those that were there, prove themselves, and prove the pair.
--
-- The idea: each row that is written is that of a later symbol of a normal form. Normal forms name no symbol with a row, and known symbols only; and what is left of the later symbol makes up with the earlier one its norm.
--
-- Assumes nothing.
use Rattle.std.proofs.Common.{◌≡◌, ℕ, suc, ◌<◌, Bool, true, false, if◌then◌else◌, nat_lt, List, [], ◌∷◌, Some, None, Option, sym, refl, ap, ◌∙◌, subst, inl, inr, ltb-true, arith}
use Rattle.std.specs.Option.{option_map}
use Rattle.tally.specs.Group.{Group}
use Rattle.grammar.specs.Meaning.{Word, Input, Weighted, Meaning, Below, word_of}
use Rattle.grammar.specs.Takes.{step}
use Rattle.grammar.proofs.Options.{none_some, some_none, some_same}
use Rattle.norm.specs.Tabled.{held}
use Rattle.norm.specs.declared.short_word.ShortWord.{ShortWord}
use Rattle.norm.specs.Words.{raised}
use Rattle.norm.specs.Norms.{norms, Earlier}
use Rattle.norm.proofs.Weights.{each_back}
use Rattle.rows.specs.Sheets.{View, Sheet, weighed, Normal, SelfProving, Proves, Shaped, Ranked, Extends}
use Rattle.rows.proofs.Normals.{to, normal_plain}
use Rattle.agreement.proofs.Sides.{one_ran}
use Rattle.comparison.specs.Treating.{Pair, ForkAt, Mends, row, Treats, later_one, later_two}
use Rattle.comparison.specs.Turning.{row_sides, sides, IsLook, TreatsAt, no_rule, only_one, only_two, both, all_agree, first_wrong}
use Rattle.comparison.specs.declared.origin.Origin.{Origin}
use Rattle.comparison.specs.declared.origin.Origin.TheVariants.{Given, Row}
use Rattle.comparison.specs.declared.treatment.Treatment.{Treatment}
use Rattle.comparison.specs.declared.treatment.Treatment.TheVariants.{Agree, Different, Mend}
use Rattle.comparison.proofs.Agreements.{all_proving, given_proves}
use Rattle.calls.specs.Refusals.{first_of, when, too_long, stray_from, strays, compare_fault}
use Rattle.comparison.specs.Procedure.{Finds, Reached, begun, mended, SaysSame}
use Rattle.calls.specs.declared.fault.CallFault.{CallFault}
use Rattle.calls.specs.declared.fault.CallFault.TheVariants.{StraySymbol, ShortBuffer}
use Rattle.calls.proofs.Ground.{Ground, weighed_word, weighed_free, weighed_ranked, more_ranked, more_extends}

-- of what is not refused nothing is wrong, and the words name known symbols
none_first : (o : Option CallFault) (os : List (Option CallFault)) → first_of (o ∷ os) ≡ None → (o ≡ None) × (first_of os ≡ None)
none_first None os e = (refl, e)
none_first (Some f) os e = absurd (some_none e)

stray_none : (k n : ℕ) (w : Word) → stray_from k n w ≡ None → Below n w
stray_none k n [] e = tt
stray_none k n (A ∷ w) e = go (nat_lt A n) refl e (stray_none (suc k) n w)
  where
    go : (b : Bool) → nat_lt A n ≡ b → (if b then stray_from (suc k) n w else Some k) ≡ None → (stray_from (suc k) n w ≡ None → Below n w) → Below n (A ∷ w)
    go true d f ih = (ltb-true A n d, ih f)
    go false d f ih = absurd (some_none f)

strays_none : (i n : ℕ) (w : Word) → strays i n w ≡ None → Below n w
strays_none i n w e = go (stray_from 0 n w) refl e
  where
    go : (o : Option ℕ) → stray_from 0 n w ≡ o → option_map (λ k. StraySymbol i k) o ≡ None → Below n w
    go None d f = stray_none 0 n w d
    go (Some k) d f = absurd (some_none f)

pub compared_known : (n : ℕ) (x y : Word) (k : ℕ) → compare_fault n x y k ≡ None → Below n x × Below n y
compared_known n x y k e =
    let room = when (nat_lt k 16384) (ShortBuffer k) ∷ [] in
    let short_x = none_first (too_long 1 x) (too_long 2 y ∷ strays 1 n x ∷ strays 2 n y ∷ room) e in
    let short_y = none_first (too_long 2 y) (strays 1 n x ∷ strays 2 n y ∷ room) short_x.1 in
    let known_x = none_first (strays 1 n x) (strays 2 n y ∷ room) short_y.1 in
    let known_y = none_first (strays 2 n y) room known_x.1 in
    (strays_none 1 n x known_x.0, strays_none 2 n y known_y.0)

-- what is done
pub mend_agree : {C : ℕ} {w : ShortWord 64} → ¬ (◌≡◌ {A = Treatment} (Mend C w) Agree)
mend_agree e = cc

mend_different : {C : ℕ} {w : ShortWord 64} → ¬ (◌≡◌ {A = Treatment} (Mend C w) Different)
mend_different e = cc

module _ {T : Type 0} (𝓣 : Group T) (M : Meaning T) (norm : ℕ → ℕ) (first : ℕ → Input) (G : Ground 𝓣 M norm first) where
  -- after a step the symbols are known still
  step_known : (x : Word) (a : ℕ) (m : Weighted T) → Below M.count x → step M x a ≡ Some m → Below M.count m.word
  step_known x a m known e = G.norm_laws.run_below x (a ∷ []) m known (one_ran 𝓣 M x a ∙ e)

  raised_known : (t : T) (o : Option (Weighted T)) (q : Weighted T) → ((u : Weighted T) → o ≡ Some u → Below M.count u.word) → raised 𝓣 t o ≡ Some q → Below M.count q.word
  raised_known t None q h e = absurd (none_some e)
  raised_known t (Some u) q h e = subst (Below M.count) (ap (λ (k : Weighted T). k.word) (some_same e)) (h u refl)

  -- the word that is read for A may be its row
  mend_shaped : (A B : ℕ) → A < M.count → B < M.count → Earlier norm B A → (C : ℕ) (w : ShortWord 64) → Mends 𝓣 M norm first A B (Mend C w) → (C ≡ A) × Shaped M.count norm C (held w)
  mend_shaped A B known_A known_B order C w (row m _ runs weighs taken is) = (
    refl,
    subst (Shaped M.count norm A) (sym is) (record {
      symbol = known_A;
      below = (known_B, G.norm_laws.run_below (A ∷ []) (first B) m (known_A, tt) runs);
      weighs = weighs;
      lower = lower;
    }),
  )
    where
      lower : (E : ℕ) → B ∷ m.word ≡ E ∷ [] → E < A
      lower E e =
          let same : B ≡ E = cc in
          let none : m.word ≡ [] = cc in
          at same (ap (norms norm) none) order
        where
          at : B ≡ E → norms norm m.word ≡ 0 → Earlier norm B A → E < A
          at same none (inl l) = absurd (omega arith)
          at same none (inr l) = let h = l.1 in omega arith

  module _ (V : View) (ranked : Ranked M.count norm V) where
    abbrev D : Sheet T
    D = weighed 𝓣 M first V

    -- C has no row, and w may be its row
    abbrev Fresh : ℕ → ShortWord 64 → Type 0
    Fresh C w = (V C ≡ None) × Shaped M.count norm C (held w)

    normal_known : {x z : Word} {s : T} → Normal 𝓣 D x z s → Below M.count x → Below M.count z
    normal_known {x = x} {z = z} {s = s} f known = G.row_laws.below_kept D (weighed_ranked 𝓣 M first V M.count norm ranked) x z s f known

    fork_fresh : (p q z v : Word) (s r : T) (A B : ℕ) → Normal 𝓣 D p z s → Normal 𝓣 D q v r → Below M.count p → Below M.count q → ForkAt z v A B → Earlier norm B A →
        (C : ℕ) (w : ShortWord 64) → Mends 𝓣 M norm first A B (Mend C w) → Fresh C w
    fork_fresh p q z v s r A B one two known_p known_q fork order C w m =
        let later = to 𝓣 D fork.one one in
        let earlier = to 𝓣 D fork.two two in
        let later_known = each_back (λ E. E < M.count) fork.common (A ∷ fork.left) (normal_known later known_p) in
        let earlier_known = each_back (λ E. E < M.count) fork.common (B ∷ fork.right) (normal_known earlier known_q) in
        let free = (each_back (λ E. D E ≡ None) fork.common (A ∷ fork.left) (normal_plain 𝓣 D later)).0 in
        let shaped = mend_shaped A B later_known.0 earlier_known.0 order C w m in
        (ap V shaped.0 ∙ weighed_free 𝓣 M first V A free, shaped.1)

    turned_fork : (z v : Word) (A B : ℕ) → ForkAt z v A B → ForkAt v z B A
    turned_fork z v A B f = record { common = f.common; left = f.right; right = f.left; one = f.two; two = f.one; apart = λ e. f.apart (sym e) }

    pair_fresh : (P : Pair T) → Below M.count P.one → Below M.count P.two → (C : ℕ) (w : ShortWord 64) → Treats 𝓣 M norm first D P (Mend C w) → Fresh C w
    pair_fresh P known_one known_two C w (later_one z v s r A B _ even f g fork order m) = fork_fresh P.one P.two z v s r A B f g known_one known_two fork order C w m
    pair_fresh P known_one known_two C w (later_two z v s r A B _ even f g fork order m) =
        fork_fresh P.two P.one v z r s B A g f known_two known_one (turned_fork z v A B fork) order C w m

    module _ (x y : Word) (known_x : Below M.count x) (known_y : Below M.count y) where
      abbrev Sides : Type 0
      Sides = Option (Weighted T) × Option (Weighted T)

      sides_known : (o : Origin) → IsLook D o → (p q : Weighted T) → (sides 𝓣 M D x y o).0 ≡ Some p → (sides 𝓣 M D x y o).1 ≡ Some q → Below M.count p.word × Below M.count q.word
      sides_known Given l p q e f =
          (subst (Below M.count) (ap (λ (k : Weighted T). k.word) (some_same e)) known_x, subst (Below M.count) (ap (λ (k : Weighted T). k.word) (some_same f)) known_y)
      sides_known (Row A a) l p q e f =
          let is = ap (row_sides 𝓣 M D A a) l.1 in
          let own : M.rule A a ≡ Some p = sym (ap (λ (k : Sides). k.0) is) ∙ e in
          let other : raised 𝓣 l.0.tally (step M l.0.word a) ≡ Some q = sym (ap (λ (k : Sides). k.1) is) ∙ f in
          let known = (ranked A l.0.word (weighed_word 𝓣 M first V A l.0 l.1)).below in
          (subst (λ o. Below M.count (word_of o)) own (G.closed A a), raised_known l.0.tally (step M l.0.word a) q (λ u d. step_known l.0.word a u known d) other)

      at_fresh : (o : Origin) → IsLook D o → (C : ℕ) (w : ShortWord 64) → TreatsAt 𝓣 M norm first D x y o (Mend C w) → Fresh C w
      at_fresh o l C w (no_rule e f g) = absurd (mend_agree g)
      at_fresh o l C w (only_one p e f g) = absurd (mend_different g)
      at_fresh o l C w (only_two q e f g) = absurd (mend_different g)
      at_fresh o l C w (both p q e f t) =
          let known = sides_known o l p q e f in
          pair_fresh (record { one = p.word; two = q.word; before_one = p.tally; before_two = q.tally }) known.0 known.1 C w t

      -- the row that is found may be one, and its symbol has none
      found_fresh : (o : Origin) (C : ℕ) (w : ShortWord 64) → Finds 𝓣 M norm first x y V (Some (o, Mend C w)) → Fresh C w
      found_fresh o C w (first_wrong _ _ look treats wrong before) = at_fresh o look C w treats

      found_none : Finds 𝓣 M norm first x y V None → SelfProving 𝓣 M D × Proves 𝓣 D x y
      found_none (all_agree all) = (all_proving 𝓣 M norm first D x y all, given_proves 𝓣 M norm first D x y (all Given tt))

  module _ (x y : Word) (known_x : Below M.count x) (known_y : Below M.count y) (V : View) (ranked : Ranked M.count norm V) where
    -- turns keep the order of rows, and the rows that were there
    pub reached_kept : {W : View} → Reached 𝓣 M norm first x y V W → Ranked M.count norm W × Extends V W
    reached_kept begun = (ranked, λ A m e. e)
    reached_kept (mended {W = W} {U = U} r o C w finds set) =
        let kept = reached_kept r in
        let fresh = found_fresh W kept.0 x y known_x known_y o C w finds in
        let more = more_extends M.count norm W U C (held w) set fresh.0 in
        (more_ranked M.count norm W U C (held w) set kept.0 fresh.1, λ A m e. more A m (kept.1 A m e))

    -- what "same" leaves
    pub record Proven (W : View) : Type 0 where
      pub order : Ranked M.count norm W
      pub more : Extends V W
      pub proving : SelfProving 𝓣 M (weighed 𝓣 M first W)
      pub proves : Proves 𝓣 (weighed 𝓣 M first W) x y

    pub same_proven : (W : View) → SaysSame 𝓣 M norm first x y V W → Proven W
    same_proven W s =
        let kept = reached_kept s.reached in
        let all = found_none W kept.0 x y known_x known_y s.agree in
        record { order = kept.0; more = kept.1; proving = all.0; proves = all.1 }
