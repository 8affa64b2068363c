-- The walk along a word and its normal form.
--
-- The idea: at a symbol without a row both use up the same front (follow_front); at a symbol with a row the row is true on the fronts that the symbol and its word take (put_front).
--
-- Assumes nothing.
use Rattle.std.proofs.Common.{◌≡◌, ℕ, [], ◌∷◌, ◌++◌, Some, None, Option, sym, refl, ap, ◌∙◌}
use Rattle.tally.specs.Group.{Group}
use Rattle.grammar.specs.Meaning.{Word, Input, Weighted, Meaning}
use Rattle.grammar.specs.Takes.{shift, takes}
use Rattle.grammar.proofs.Options.{none_some, some_same}
use Rattle.grammar.proofs.Takes.{shift_zero, shift_shift, split}
use Rattle.rows.specs.Sheets.{Sheet, Normal, normal_nil, normal_keep, normal_put}
use Rattle.rows.proofs.Sound.{left_comm}
use Rattle.witness.specs.Alike.{AlikeOn, TrueOn, NormalOn, TrueOnFront, NormalOnRest, Cut, cut}
use Rattle.witness.specs.Laws.{WalkLaw}
use Rattle.witness.proofs.Sums.{shifted}
use Rattle.witness.proofs.Fronts.{taken_both}
use Rattle.witness.proofs.Cuts.{parted, cut_finds}

module _ {T : Type 0} (𝓣 : Group T) where
  -- two options, each of which is there if the other is, the first with o more
  pub more_by : (o : T) (m n : Option T) → ((p : T) → m ≡ Some p → (q : T) × (n ≡ Some q) × (p ≡ 𝓣.add o q)) → ((q : T) → n ≡ Some q → (p : T) × (m ≡ Some p)) → m ≡ shift 𝓣 o n
  more_by o None None there back = refl
  more_by o None (Some q) there back = absurd (none_some (back q refl).1)
  more_by o (Some p) n there back = let i = there p refl in rw i.1 (ap {B = Option T} Some i.2)

module _ {T : Type 0} (𝓣 : Group T) (M : Meaning T) where
  -- behind a front that both take
  pub follow_front : (w x y : Word) (s : T) (t : Input) → ((t1 t2 : Input) (q : T) → t ≡ t1 ++ t2 → takes 𝓣 M w t1 ≡ Some q → takes 𝓣 M x t2 ≡ shift 𝓣 s (takes 𝓣 M y t2)) →
      takes 𝓣 M (w ++ x) t ≡ shift 𝓣 s (takes 𝓣 M (w ++ y) t)
  follow_front w x y s t h = more_by 𝓣 s (takes 𝓣 M (w ++ x) t) (takes 𝓣 M (w ++ y) t) there back
    where
      there : (p : T) → takes 𝓣 M (w ++ x) t ≡ Some p → (q : T) × (takes 𝓣 M (w ++ y) t ≡ Some q) × (p ≡ 𝓣.add s q)
      there p e =
          let i = split 𝓣 M t w x p e in
          let k = shifted 𝓣 s (takes 𝓣 M y i.back) i.second (sym (h i.front i.back i.first i.joined i.takes_front) ∙ i.takes_back) in (
            𝓣.add i.first k.0,
            taken_both 𝓣 M w y t i.front i.back i.first k.0 i.joined i.takes_front k.1,
            i.adds_up ∙ ap (𝓣.add i.first) (sym k.2) ∙ left_comm 𝓣 i.first s k.0,
          )

      back : (q : T) → takes 𝓣 M (w ++ y) t ≡ Some q → (p : T) × (takes 𝓣 M (w ++ x) t ≡ Some p)
      back q e =
          let i = split 𝓣 M t w y q e in
          let k = h i.front i.back i.first i.joined i.takes_front ∙ ap (shift 𝓣 s) i.takes_back in
          (𝓣.add i.first (𝓣.add s i.second), taken_both 𝓣 M w x t i.front i.back i.first (𝓣.add s i.second) i.joined i.takes_front k)

  -- a row that is true on the fronts that its symbol and its word take
  pub put_front : (A : ℕ) (m : Weighted T) (r : Word) (t : Input) →
      ((t1 t2 : Input) (q : T) → t ≡ t1 ++ t2 → takes 𝓣 M (A ∷ []) t1 ≡ Some q → TrueOn 𝓣 M A m t1) →
      ((t1 t2 : Input) (q : T) → t ≡ t1 ++ t2 → takes 𝓣 M m.word t1 ≡ Some q → TrueOn 𝓣 M A m t1) →
      takes 𝓣 M (A ∷ r) t ≡ shift 𝓣 m.tally (takes 𝓣 M (m.word ++ r) t)
  put_front A m r t on_symbol on_word = more_by 𝓣 m.tally (takes 𝓣 M (A ∷ r) t) (takes 𝓣 M (m.word ++ r) t) there back
    where
      there : (p : T) → takes 𝓣 M (A ∷ r) t ≡ Some p → (q : T) × (takes 𝓣 M (m.word ++ r) t ≡ Some q) × (p ≡ 𝓣.add m.tally q)
      there p e =
          let i = split 𝓣 M t (A ∷ []) r p e in
          let k = shifted 𝓣 m.tally (takes 𝓣 M m.word i.front) i.first (sym (on_symbol i.front i.back i.first i.joined i.takes_front) ∙ i.takes_front) in (
            𝓣.add k.0 i.second,
            taken_both 𝓣 M m.word r t i.front i.back k.0 i.second i.joined k.1 i.takes_back,
            i.adds_up ∙ ap (λ v. 𝓣.add v i.second) (sym k.2) ∙ 𝓣.assoc m.tally k.0 i.second,
          )

      back : (q : T) → takes 𝓣 M (m.word ++ r) t ≡ Some q → (p : T) × (takes 𝓣 M (A ∷ r) t ≡ Some p)
      back q e =
          let i = split 𝓣 M t m.word r q e in
          let k = on_word i.front i.back i.first i.joined i.takes_front ∙ ap (shift 𝓣 m.tally) i.takes_front in (
            𝓣.add (𝓣.add m.tally i.first) i.second,
            taken_both 𝓣 M (A ∷ []) r t i.front i.back (𝓣.add m.tally i.first) i.second i.joined k i.takes_back,
          )

  module _ (D : Sheet T) where
    -- a normal form, by the first symbol of its word
    keep_cases : {A : ℕ} {r z : Word} {s : T} → D A ≡ None → Normal 𝓣 D (A ∷ r) z s → (y : Word) × (z ≡ A ∷ y) × Normal 𝓣 D r y s
    keep_cases e (normal_keep {z = y} f h) = (y, refl, h)
    keep_cases e (normal_put f h) = absurd (none_some (sym e ∙ f))

    put_cases : {A : ℕ} {r z : Word} {s : T} (m : Weighted T) → D A ≡ Some m → Normal 𝓣 D (A ∷ r) z s → (q : T) × (s ≡ 𝓣.add m.tally q) × Normal 𝓣 D (m.word ++ r) z q
    put_cases m e (normal_keep f h) = absurd (none_some (sym f ∙ e))
    put_cases m e (normal_put {s = q} {m = n} f h) =
        let k : n ≡ m = some_same (sym f ∙ e) in
        (q, ap (λ (v : Weighted T). 𝓣.add v.tally q) k, rw k at h)

    nil_cases : {z : Word} {s : T} → Normal 𝓣 D [] z s → (z ≡ []) × (s ≡ 𝓣.zero)
    nil_cases normal_nil = (refl, refl)

    walk_ends : (t : Input) → NormalOn 𝓣 M D [] t
    walk_ends t z s f = let i = nil_cases f in rw (i.0, i.1) (sym (shift_zero 𝓣 (takes 𝓣 M [] t)))

    walk_keeps : (t : Input) (A : ℕ) (r : Word) → D A ≡ None → NormalOnRest 𝓣 M D r (cut M (A ∷ []) t) → NormalOn 𝓣 M D (A ∷ r) t
    walk_keeps t A r e h z s f =
        let i = keep_cases e f in
        rw i.1 (follow_front (A ∷ []) r i.0 s t (λ t1 t2 q k l. go t1 t2 (cut M (A ∷ []) t) (ap (cut M (A ∷ [])) k ∙ cut_finds 𝓣 M t1 t2 (A ∷ []) q l) h i.0 s i.2))
      where
        go : (t1 t2 : Input) (o : Option Cut) → o ≡ Some (parted t1 t2) → NormalOnRest 𝓣 M D r o → NormalOn 𝓣 M D r t2
        go t1 t2 None e h = absurd (none_some e)
        go t1 t2 (Some p) e h = rw (ap (λ (c : Cut). c.rest) (some_same e)) at h

    -- the front that is cut off
    on_front : (t : Input) (A : ℕ) (m : Weighted T) (w : Word) → TrueOnFront 𝓣 M A m (cut M w t) → (t1 t2 : Input) (q : T) → t ≡ t1 ++ t2 → takes 𝓣 M w t1 ≡ Some q → TrueOn 𝓣 M A m t1
    on_front t A m w h t1 t2 q e k = go (cut M w t) (ap (cut M w) e ∙ cut_finds 𝓣 M t1 t2 w q k) h
      where
        go : (o : Option Cut) → o ≡ Some (parted t1 t2) → TrueOnFront 𝓣 M A m o → TrueOn 𝓣 M A m t1
        go None e h = absurd (none_some e)
        go (Some p) e h = rw (ap (λ (c : Cut). c.front) (some_same e)) at h

    walk_puts : (t : Input) (A : ℕ) (r : Word) (m : Weighted T) → D A ≡ Some m → TrueOnFront 𝓣 M A m (cut M (A ∷ []) t) → TrueOnFront 𝓣 M A m (cut M m.word t) →
        NormalOn 𝓣 M D (m.word ++ r) t → NormalOn 𝓣 M D (A ∷ r) t
    walk_puts t A r m e on_symbol on_word h z s f =
        let i = put_cases m e f in
        put_front A m r t (on_front t A m (A ∷ []) on_symbol) (on_front t A m m.word on_word)
        ∙ ap (shift 𝓣 m.tally) (h z i.0 i.2) ∙ shift_shift 𝓣 m.tally i.0 (takes 𝓣 M z t) ∙ ap (λ v. shift 𝓣 v (takes 𝓣 M z t)) (sym i.1)

  pub walk : WalkLaw 𝓣 M
  walk = record { ends = walk_ends; keeps = λ D t. walk_keeps D t; puts = λ D t. walk_puts D t }

  -- from a pair to the pair of its normal forms
  pub settled : (x y x' y' : Word) (p q s r : T) (t : Input) → takes 𝓣 M x t ≡ shift 𝓣 s (takes 𝓣 M x' t) → takes 𝓣 M y t ≡ shift 𝓣 r (takes 𝓣 M y' t) →
      AlikeOn 𝓣 M p q x y t → AlikeOn 𝓣 M (𝓣.add p s) (𝓣.add q r) x' y' t
  settled x y x' y' p q s r t hx hy l =
      sym (shift_shift 𝓣 p s (takes 𝓣 M x' t)) ∙ ap (shift 𝓣 p) (sym hx) ∙ l ∙ ap (shift 𝓣 q) hy ∙ shift_shift 𝓣 q r (takes 𝓣 M y' t)
