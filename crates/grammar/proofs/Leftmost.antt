-- What a word takes is what it derives, leftmost.
--
-- The idea: a form that a word derives is always tallies and then symbols, so "leftmost symbol" and
-- "first symbol of the word that is left" are one place (opens, closes). Going forward, each step of
-- takes is a LeftStep with one tally more in front (derives); going back, each LeftStep is a step of
-- takes, and the tallies in front add up (derived).
--
-- Assumes nothing.
use Rattle.std.proofs.Common.{◌≡◌, ℕ, ◌↔◌, List, [], ◌∷◌, ◌++◌, Some, None, Option, sym, refl, ap, ◌∙◌, subst, ap₂, arith}
use Rattle.tally.specs.Group.{Group, total}
use Rattle.tally.proofs.Totals.{right, total_push}
use Rattle.grammar.specs.Meaning.{Word, Input, Weighted, Meaning}
use Rattle.grammar.specs.Takes.{behind, shift, follow, takes}
use Rattle.grammar.specs.Derivation.{tally, symbol, Form, tallies, symbols, side, LeftStep, Derives, derive_none, derive_more}
use Rattle.grammar.proofs.Options.{none_some, some_same}

pub symbols_append : (T : Type 0) (v w : Word) → symbols T (v ++ w) ≡ symbols T v ++ symbols T w
symbols_append T [] w = refl
symbols_append T (A ∷ v) w = ap {B = Form T} (λ r. symbol A ∷ r) (symbols_append T v w)

pub tallies_more : {T : Type 0} (us : List T) (t : T) (α : Form T) → tallies (us ++ (t ∷ [])) ++ α ≡ tallies us ++ (tally t ∷ α)
tallies_more [] t α = refl
tallies_more {T} (u ∷ us) t α = ap {B = Form T} (λ r. tally u ∷ r) (tallies_more us t α)

-- after a step, with one tally more
pub next_form : {T : Type 0} (us ds : List T) (m : Weighted T) (rest : Form T) (r : Word) → us ≡ ds → rest ≡ symbols T r →
    tallies ds ++ (side m ++ rest) ≡ tallies (us ++ (m.tally ∷ [])) ++ symbols T (m.word ++ r)
next_form {T} us ds m rest r d e = rw (d, e, symbols_append) (sym (tallies_more ds m.tally (symbols T m.word ++ symbols T r)))

-- where the first symbol stands is settled
pub record Opens {T : Type 0} (us ds : List T) (w : Word) (B : ℕ) (rest : Form T) : Type 0 where
  pub tail : Word
  pub word : w ≡ B ∷ tail
  pub done : us ≡ ds
  pub rest_is : rest ≡ symbols T tail

pub opens : {T : Type 0} (us ds : List T) (w : Word) (B : ℕ) (rest : Form T) → tallies us ++ symbols T w ≡ tallies ds ++ (symbol B ∷ rest) → Opens us ds w B rest
opens [] [] [] B rest e = let z : ◌≡◌ {A = ℕ} 0 1 = cc in absurd (omega arith)
opens [] [] (A ∷ w) B rest e = record { tail = w; word = cc; done = refl; rest_is = cc }
opens [] (d ∷ ds) [] B rest e = let z : ◌≡◌ {A = ℕ} 0 1 = cc in absurd (omega arith)
opens [] (d ∷ ds) (A ∷ w) B rest e = let z : ◌≡◌ {A = ℕ} 0 1 = cc in absurd (omega arith)
opens (u ∷ us) [] w B rest e = let z : ◌≡◌ {A = ℕ} 0 1 = cc in absurd (omega arith)
opens {T} (u ∷ us) (d ∷ ds) w B rest e =
    let inner : tallies us ++ symbols T w ≡ tallies ds ++ (symbol B ∷ rest) = cc in
    let same : u ≡ d = cc in
    let h = opens us ds w B rest inner in
    record { tail = h.tail; word = h.word; done = ap₂ {C = List T} (λ x y. x ∷ y) same h.done; rest_is = h.rest_is }

-- where there is no symbol
pub closes : {T : Type 0} (us ts : List T) (w : Word) → tallies us ++ symbols T w ≡ tallies ts → (w ≡ []) × (us ≡ ts)
closes [] [] [] e = (refl, refl)
closes [] [] (A ∷ w) e = let z : ◌≡◌ {A = ℕ} 0 1 = cc in absurd (omega arith)
closes [] (t ∷ ts) [] e = let z : ◌≡◌ {A = ℕ} 0 1 = cc in absurd (omega arith)
closes [] (t ∷ ts) (A ∷ w) e = let z : ◌≡◌ {A = ℕ} 0 1 = cc in absurd (omega arith)
closes (u ∷ us) [] w e = let z : ◌≡◌ {A = ℕ} 0 1 = cc in absurd (omega arith)
closes {T} (u ∷ us) (t ∷ ts) w e =
    let inner : tallies us ++ symbols T w ≡ tallies ts = cc in
    let same : u ≡ t = cc in
    let h = closes us ts w inner in
    (h.0, ap₂ {C = List T} (λ x y. x ∷ y) same h.1)

module _ {T : Type 0} (𝓣 : Group T) (M : Meaning T) where
  abbrev Gives : List T → Word → Input → T → Type 0
  Gives us w s t = (ts : List T) × Derives M (tallies us ++ symbols T w) s (tallies us ++ tallies ts) × (total 𝓣 ts ≡ t)

  first_step : (us : List T) (A : ℕ) (r : Word) (a : ℕ) (m : Weighted T) → M.rule A a ≡ Some m →
      LeftStep M a (tallies us ++ symbols T (A ∷ r)) (tallies (us ++ (m.tally ∷ [])) ++ symbols T (m.word ++ r))
  first_step us A r a m e = record {
    done = us;
    head = A;
    rest = symbols T r;
    rhs = m;
    rule = e;
    was = refl;
    is = sym (next_form us us m (symbols T r) r refl refl);
  }

  pub derives : (s : Input) (us : List T) (w : Word) (t : T) → takes 𝓣 M w s ≡ Some t → Gives us w s t
  derives [] us [] t e = ([], derive_none, some_same e)
  derives [] us (A ∷ r) t e = absurd (none_some e)
  derives (a ∷ s) us [] t e = absurd (none_some e)
  derives (a ∷ s) us (A ∷ r) t e = at (λ vs w u. derives s vs w u) (M.rule A a) refl e
    where
      at : ((vs : List T) (w : Word) (u : T) → takes 𝓣 M w s ≡ Some u → Gives vs w s u) →
          (o : Option (Weighted T)) → M.rule A a ≡ o → follow 𝓣 (λ x. takes 𝓣 M x s) (behind r o) ≡ Some t → Gives us (A ∷ r) (a ∷ s) t
      at ih None d f = absurd (none_some f)
      at ih (Some m) d f = then (takes 𝓣 M (m.word ++ r) s) refl f
        where
          then : (o : Option T) → takes 𝓣 M (m.word ++ r) s ≡ o → shift 𝓣 m.tally o ≡ Some t → Gives us (A ∷ r) (a ∷ s) t
          then None h f = absurd (none_some f)
          then (Some u) h f =
              let k = ih (us ++ (m.tally ∷ [])) (m.word ++ r) u h in
              let rest = subst (λ γ. Derives M (tallies (us ++ (m.tally ∷ [])) ++ symbols T (m.word ++ r)) s γ) (tallies_more us m.tally (tallies k.0)) k.1 in
              (m.tally ∷ k.0, derive_more (first_step us A r a m d) rest, ap (𝓣.add m.tally) k.2 ∙ some_same f)

  sum_more : (us : List T) (t u : T) → 𝓣.add (total 𝓣 (us ++ (t ∷ []))) u ≡ 𝓣.add (total 𝓣 us) (𝓣.add t u)
  sum_more us t u = rw (total_push 𝓣 us t) (𝓣.assoc (total 𝓣 us) t u)

  takes_step : (A : ℕ) (r : Word) (a : ℕ) (s : Input) (m : Weighted T) (t : T) → M.rule A a ≡ Some m → takes 𝓣 M (m.word ++ r) s ≡ Some t →
      takes 𝓣 M (A ∷ r) (a ∷ s) ≡ Some (𝓣.add m.tally t)
  takes_step A r a s m t e h = rw (e, h)

  pub derived : {α γ : Form T} {s : Input} → Derives M α s γ → (us ts : List T) (w : Word) → α ≡ tallies us ++ symbols T w → γ ≡ tallies ts →
      (t : T) × (takes 𝓣 M w s ≡ Some t) × (total 𝓣 ts ≡ 𝓣.add (total 𝓣 us) t)
  derived derive_none us ts w e d =
      let h = closes us ts w (sym e ∙ d) in
      (𝓣.zero, rw h.0, rw h.1 (sym (right 𝓣 (total 𝓣 ts))))
  derived (derive_more {a = a} {s = s} j f) us ts w e d =
      let o = opens us j.done w j.head j.rest (sym e ∙ j.was) in
      let m = j.rhs in
      let h = derived f (us ++ (m.tally ∷ [])) ts (m.word ++ o.tail) (j.is ∙ next_form us j.done m j.rest o.tail o.done o.rest_is) d in
      (𝓣.add m.tally h.0, ap (λ v. takes 𝓣 M v (a ∷ s)) o.word ∙ takes_step j.head o.tail a s m h.0 j.rule h.1, h.2 ∙ sum_more us m.tally h.0)

  pub takes_derives : (w : Word) (s : Input) (t : T) → (takes 𝓣 M w s ≡ Some t) ↔ ((ts : List T) × Derives M (symbols T w) s (tallies ts) × (total 𝓣 ts ≡ t))
  takes_derives w s t = (derives s [] w t, back)
    where
      back : (ts : List T) × Derives M (symbols T w) s (tallies ts) × (total 𝓣 ts ≡ t) → takes 𝓣 M w s ≡ Some t
      back k =
          let h = derived k.1 [] k.0 w refl refl in
          h.1 ∙ ap {B = Option T} Some (sym (𝓣.left h.0) ∙ sym h.2 ∙ k.2)
