-- The front of an input that a word takes; what holds of each of a list of candidates. Assumes nothing.
use Rattle.std.proofs.Common.{◌≡◌, List, [], ◌∷◌, ◌++◌, Some, None, Option, refl, ap}
use Rattle.std.specs.Option.{option_and_then}
use Rattle.std.specs.List.{AllByRecursion}
use Rattle.tally.specs.Group.{Group}
use Rattle.grammar.specs.Meaning.{Word, Input, Weighted, Meaning}
use Rattle.grammar.specs.Takes.{behind, shift, follow, takes}
use Rattle.grammar.proofs.Options.{none_some, some_same}
use Rattle.norm.specs.Norms.{Taken}
use Rattle.witness.specs.Alike.{Cut, longer, cut}

abbrev pub parted : Input → Input → Cut
parted s r = record { front = s; rest = r }

module _ {T : Type 0} (𝓣 : Group T) (M : Meaning T) where
  pub cut_finds : (s r : Input) (w : Word) (t : T) → takes 𝓣 M w s ≡ Some t → cut M w (s ++ r) ≡ Some (parted s r)
  cut_finds [] r [] t e = refl
  cut_finds [] r (A ∷ w) t e = absurd (none_some e)
  cut_finds (a ∷ s) r [] t e = absurd (none_some e)
  cut_finds (a ∷ s) r (A ∷ w) t e = go (λ x q h. cut_finds s r x q h) (M.rule A a) e
    where
      on : (q : T) (x : Word) (o : Option T) → ((p : T) → o ≡ Some p → cut M x (s ++ r) ≡ Some (parted s r)) → shift 𝓣 q o ≡ Some t → longer a (cut M x (s ++ r)) ≡ Some (parted (a ∷ s) r)
      on q x None ih e = absurd (none_some e)
      on q x (Some p) ih e = ap (longer a) (ih p refl)

      go : ((x : Word) (q : T) → takes 𝓣 M x s ≡ Some q → cut M x (s ++ r) ≡ Some (parted s r)) → (o : Option (Weighted T)) → follow 𝓣 (λ x. takes 𝓣 M x s) (behind w o) ≡ Some t →
          longer a (option_and_then (λ m. cut M m.word (s ++ r)) (behind w o)) ≡ Some (parted (a ∷ s) r)
      go ih None e = absurd (none_some e)
      go ih (Some m) e = on m.tally (m.word ++ w) (takes 𝓣 M (m.word ++ w) s) (ih (m.word ++ w)) e

  pub cut_takes : (s : Input) (w : Word) (c : Cut) → cut M w s ≡ Some c → Taken 𝓣 M w c.front × (s ≡ c.front ++ c.rest)
  cut_takes s [] c e =
      let h : [] ≡ c.front = ap (λ (d : Cut). d.front) (some_same e) in
      let k : s ≡ c.rest = ap (λ (d : Cut). d.rest) (some_same e) in
      rw (← h) ((𝓣.zero, refl), k)
  cut_takes [] (A ∷ w) c e = absurd (none_some e)
  cut_takes (a ∷ s) (A ∷ w) c e = go (λ x q h. cut_takes s x q h) (M.rule A a) refl e
    where
      on : (m : Weighted T) (o : Option Cut) → M.rule A a ≡ Some m → ((q : Cut) → o ≡ Some q → Taken 𝓣 M (m.word ++ w) q.front × (s ≡ q.front ++ q.rest)) → longer a o ≡ Some c →
          Taken 𝓣 M (A ∷ w) c.front × (a ∷ s ≡ c.front ++ c.rest)
      on m None f ih e = absurd (none_some e)
      on m (Some q) f ih e =
          let i = ih q refl in
          let h : a ∷ q.front ≡ c.front = ap (λ (d : Cut). d.front) (some_same e) in
          let k : q.rest ≡ c.rest = ap (λ (d : Cut). d.rest) (some_same e) in
          rw (← h, ← k) ((𝓣.add m.tally i.0.0, rw f (ap (shift 𝓣 m.tally) i.0.1)), ap {B = Input} (λ l. a ∷ l) i.1)

      go : ((x : Word) (q : Cut) → cut M x s ≡ Some q → Taken 𝓣 M x q.front × (s ≡ q.front ++ q.rest)) → (o : Option (Weighted T)) → M.rule A a ≡ o →
          longer a (option_and_then (λ m. cut M m.word s) (behind w o)) ≡ Some c → Taken 𝓣 M (A ∷ w) c.front × (a ∷ s ≡ c.front ++ c.rest)
      go ih None f e = absurd (none_some e)
      go ih (Some m) f e = on m (cut M (m.word ++ w) s) f (ih (m.word ++ w)) e

-- of two lists of inputs end to end
pub all_left : (P : Input → Type 0) (a b : List Input) → AllByRecursion P (a ++ b) → AllByRecursion P a
all_left P [] b h = tt
all_left P (c ∷ a) b h = (h.0, all_left P a b h.1)

pub all_right : (P : Input → Type 0) (a b : List Input) → AllByRecursion P (a ++ b) → AllByRecursion P b
all_right P [] b h = h
all_right P (c ∷ a) b h = all_right P a b h.1

pub all_both : (P : Input → Type 0) (a b : List Input) → AllByRecursion P a → AllByRecursion P b → AllByRecursion P (a ++ b)
all_both P [] b h k = k
all_both P (c ∷ a) b h k = (h.0, all_both P a b h.1 k)

pub all_map : (P Q : Input → Type 0) (cs : List Input) → ((c : Input) → P c → Q c) → AllByRecursion P cs → AllByRecursion Q cs
all_map P Q [] f h = tt
all_map P Q (c ∷ cs) f h = (f c h.0, all_map P Q cs f h.1)
