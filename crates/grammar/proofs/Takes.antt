-- What a word takes: concatenations, prefixes, and sameness.
--
-- The idea: letters are used up by the front of the word first. So where x takes s, a run of x and
-- then y over s and more comes to y exactly when s is used up (compose), and every input that x and
-- then y take has such a front (split). All the other laws follow from these two.
--
-- Assumes nothing.
use Rattle.std.proofs.Common.{◌≡◌, suc, ◌<◌, ◌≤◌, ◌↔◌, [], ◌∷◌, ◌++◌, length, is_some, Some, None, Option, sym, refl, ap, ◌∙◌, append_assoc, append-nil, arith, length-append}
use Rattle.tally.specs.Group.{Group}
use Rattle.grammar.specs.Meaning.{Word, Input, Weighted, Meaning, Letter, Each, WellFormed}
use Rattle.grammar.specs.Takes.{behind, shift, follow, takes, Differ, only_first, only_second, by_tally, Same}
use Rattle.grammar.specs.Laws.{Split, WordLaws}
use Rattle.grammar.proofs.Options.{none_some, some_none, some_same}

module _ {T : Type 0} (𝓣 : Group T) where
  pub shift_zero : (m : Option T) → shift 𝓣 𝓣.zero m ≡ m
  shift_zero None = refl
  shift_zero (Some t) = ap {B = Option T} Some (𝓣.left t)

  pub shift_shift : (p q : T) (m : Option T) → shift 𝓣 p (shift 𝓣 q m) ≡ shift 𝓣 (𝓣.add p q) m
  shift_shift p q None = refl
  shift_shift p q (Some t) = ap {B = Option T} Some (sym (𝓣.assoc p q t))

module _ {T : Type 0} (𝓣 : Group T) (M : Meaning T) where
  pub compose : (s : Input) (x y : Word) (r : Input) (p : T) → takes 𝓣 M x s ≡ Some p → takes 𝓣 M (x ++ y) (s ++ r) ≡ shift 𝓣 p (takes 𝓣 M y r)
  compose [] [] y r p e = rw (← some_same e) (sym (shift_zero 𝓣 (takes 𝓣 M y r)))
  compose [] (A ∷ x) y r p e = absurd (none_some e)
  compose (a ∷ s) [] y r p e = absurd (none_some e)
  compose (a ∷ s) (A ∷ x) y r p e = go (λ w q h. compose s w y r q h) (M.rule A a) e
    where
      on : (q : T) (o n : Option T) → ((t : T) → o ≡ Some t → n ≡ shift 𝓣 t (takes 𝓣 M y r)) → shift 𝓣 q o ≡ Some p → shift 𝓣 q n ≡ shift 𝓣 p (takes 𝓣 M y r)
      on q None n ih e = absurd (none_some e)
      on q (Some t) n ih e = ap (shift 𝓣 q) (ih t refl) ∙ shift_shift 𝓣 q t (takes 𝓣 M y r) ∙ ap (λ u. shift 𝓣 u (takes 𝓣 M y r)) (some_same e)

      go : ((w : Word) (q : T) → takes 𝓣 M w s ≡ Some q → takes 𝓣 M (w ++ y) (s ++ r) ≡ shift 𝓣 q (takes 𝓣 M y r)) → (o : Option (Weighted T)) →
          follow 𝓣 (λ w. takes 𝓣 M w s) (behind x o) ≡ Some p → follow 𝓣 (λ w. takes 𝓣 M w (s ++ r)) (behind (x ++ y) o) ≡ shift 𝓣 p (takes 𝓣 M y r)
      go ih None e = absurd (none_some e)
      go ih (Some m) e =
          rw (← append_assoc m.word x y)
          (on m.tally (takes 𝓣 M (m.word ++ x) s) (takes 𝓣 M (m.word ++ x ++ y) (s ++ r)) (λ t h. ih (m.word ++ x) t h) e)

  pub split : (s : Input) (x y : Word) (t : T) → takes 𝓣 M (x ++ y) s ≡ Some t → Split 𝓣 M x y s t
  split s [] y t e = record { front = []; back = s; first = 𝓣.zero; second = t; joined = refl; takes_front = refl; takes_back = e; adds_up = sym (𝓣.left t) }
  split [] (A ∷ x) y t e = absurd (none_some e)
  split (a ∷ s) (A ∷ x) y t e = go (λ w q h. split s w y q h) (M.rule A a) refl e
    where
      on : (m : Weighted T) (o : Option T) → M.rule A a ≡ Some m → ((q : T) → o ≡ Some q → Split 𝓣 M (m.word ++ x) y s q) → shift 𝓣 m.tally o ≡ Some t → Split 𝓣 M (A ∷ x) y (a ∷ s) t
      on m None f ih e = absurd (none_some e)
      on m (Some q) f ih e =
          let i = ih q refl in
          record {
            front = a ∷ i.front;
            back = i.back;
            first = 𝓣.add m.tally i.first;
            second = i.second;
            joined = ap {B = Input} (λ l. a ∷ l) i.joined;
            takes_front = rw f (ap (shift 𝓣 m.tally) i.takes_front);
            takes_back = i.takes_back;
            adds_up = sym (some_same e) ∙ ap (𝓣.add m.tally) i.adds_up ∙ sym (𝓣.assoc m.tally i.first i.second);
          }

      go : ((w : Word) (q : T) → takes 𝓣 M (w ++ y) s ≡ Some q → Split 𝓣 M w y s q) → (o : Option (Weighted T)) → M.rule A a ≡ o →
          follow 𝓣 (λ w. takes 𝓣 M w s) (behind (x ++ y) o) ≡ Some t → Split 𝓣 M (A ∷ x) y (a ∷ s) t
      go ih None f e = absurd (none_some e)
      go ih (Some m) f e = on m (takes 𝓣 M (m.word ++ x ++ y) s) f (λ q h. ih (m.word ++ x) q h) (rw (← append_assoc m.word x y) at e)

  pub prefix_free : (x : Word) (s r : Input) (p q : T) → takes 𝓣 M x s ≡ Some p → takes 𝓣 M x (s ++ r) ≡ Some q → r ≡ []
  prefix_free x s r p q e f = go r (sym (compose s x [] r p e) ∙ ap (λ w. takes 𝓣 M w (s ++ r)) (append-nil x) ∙ f)
    where
      go : (r : Input) → shift 𝓣 p (takes 𝓣 M [] r) ≡ Some q → r ≡ []
      go [] h = refl
      go (a ∷ r) h = absurd (none_some h)

  -- each symbol of a word uses up a letter at least
  pub long_enough : (s : Input) (w : Word) (t : T) → takes 𝓣 M w s ≡ Some t → length w ≤ length s
  long_enough [] [] t e = omega arith
  long_enough [] (A ∷ w) t e = absurd (none_some e)
  long_enough (a ∷ s) [] t e = omega arith
  long_enough (a ∷ s) (A ∷ w) t e = go (λ x q h. long_enough s x q h) (M.rule A a) e
    where
      on : (q : T) (o : Option T) → ((t : T) → o ≡ Some t → length w ≤ length s) → shift 𝓣 q o ≡ Some t → length w ≤ length s
      on q None ih e = absurd (none_some e)
      on q (Some t) ih e = ih t refl

      go : ((x : Word) (q : T) → takes 𝓣 M x s ≡ Some q → length x ≤ length s) → (o : Option (Weighted T)) → follow 𝓣 (λ x. takes 𝓣 M x s) (behind w o) ≡ Some t → suc (length w) ≤ suc (length s)
      go ih None e = absurd (none_some e)
      go ih (Some m) e =
          let h = on m.tally (takes 𝓣 M (m.word ++ w) s) (λ t d. omega (arith, ih (m.word ++ w) t d, length-append m.word w)) e in
          omega arith

  -- a word that is too long for what is left of the input takes nothing
  pub too_long : (s : Input) (w : Word) → length s < length w → takes 𝓣 M w s ≡ None
  too_long s w h = at (takes 𝓣 M w s) refl
    where
      at : (o : Option T) → takes 𝓣 M w s ≡ o → o ≡ None
      at None e = refl
      at (Some t) e = absurd (omega (arith, long_enough s w t e))

  -- a rule stands at letters only, so a taken input is of letters
  pub lettered : WellFormed M → (s : Input) (w : Word) (t : T) → takes 𝓣 M w s ≡ Some t → Each Letter s
  lettered f [] w t e = tt
  lettered f (a ∷ s) [] t e = absurd (none_some e)
  lettered f (a ∷ s) (A ∷ w) t e = go (λ x q h. lettered f s x q h) (M.rule A a) refl e
    where
      on : (q : T) (o : Option T) → ((t : T) → o ≡ Some t → Each Letter s) → shift 𝓣 q o ≡ Some t → Each Letter s
      on q None ih e = absurd (none_some e)
      on q (Some t) ih e = ih t refl

      go : ((x : Word) (q : T) → takes 𝓣 M x s ≡ Some q → Each Letter s) → (o : Option (Weighted T)) → M.rule A a ≡ o → follow 𝓣 (λ x. takes 𝓣 M x s) (behind w o) ≡ Some t → Letter a × Each Letter s
      go ih None d e = absurd (none_some e)
      go ih (Some m) d e = (f.lettered A a (ap is_some d), on m.tally (takes 𝓣 M (m.word ++ w) s) (λ t h. ih (m.word ++ w) t h) e)

  -- what x and y take, x' and y' take
  same_over : (x x' y y' : Word) → Same 𝓣 M x x' → Same 𝓣 M y y' → (s : Input) (t : T) → takes 𝓣 M (x ++ y) s ≡ Some t → takes 𝓣 M (x' ++ y') s ≡ Some t
  same_over x x' y y' e d s t h =
      let k = split s x y t h in
      let joined = compose k.front x' y' k.back k.first (sym (e k.front) ∙ k.takes_front) in
      ap (takes 𝓣 M (x' ++ y')) k.joined ∙ joined ∙ ap (shift 𝓣 k.first) (sym (d k.back) ∙ k.takes_back) ∙ ap {B = Option T} Some (sym k.adds_up)

  pub congruence : (x x' y y' : Word) → Same 𝓣 M x x' → Same 𝓣 M y y' → Same 𝓣 M (x ++ y) (x' ++ y')
  congruence x x' y y' e d s =
      at (takes 𝓣 M (x ++ y) s) (takes 𝓣 M (x' ++ y') s) (same_over x x' y y' e d s) (same_over x' x y' y (λ r. sym (e r)) (λ r. sym (d r)) s)
    where
      at : (o n : Option T) → ((t : T) → o ≡ Some t → n ≡ Some t) → ((t : T) → n ≡ Some t → o ≡ Some t) → o ≡ n
      at (Some t) n f g = sym (f t refl)
      at None (Some t) f g = g t refl
      at None None f g = refl

  pub differ_law : (x y : Word) (s : Input) → Differ 𝓣 M x y s ↔ (¬ (takes 𝓣 M x s ≡ takes 𝓣 M y s))
  differ_law x y s = (to, at (takes 𝓣 M x s) (takes 𝓣 M y s) refl refl)
    where
      to : Differ 𝓣 M x y s → ¬ (takes 𝓣 M x s ≡ takes 𝓣 M y s)
      to (only_first t d f) e = some_none (sym d ∙ e ∙ f)
      to (only_second t d f) e = none_some (sym d ∙ e ∙ f)
      to (by_tally t u d f n) e = n (some_same (sym d ∙ e ∙ f))

      at : (o n : Option T) → takes 𝓣 M x s ≡ o → takes 𝓣 M y s ≡ n → ¬ (takes 𝓣 M x s ≡ takes 𝓣 M y s) → Differ 𝓣 M x y s
      at None None d f h = absurd (h (d ∙ sym f))
      at None (Some u) d f h = only_second u d f
      at (Some t) None d f h = only_first t d f
      at (Some t) (Some u) d f h = by_tally t u d f (λ e. h (d ∙ ap {B = Option T} Some e ∙ sym f))

  -- equality of what is taken can be decided, so words that differ on no input are the same
  pub same_law : (x y : Word) → Same 𝓣 M x y ↔ ((s : Input) → ¬ Differ 𝓣 M x y s)
  same_law x y = (λ e s d. (differ_law x y s).0 d (e s), λ h s. at (takes 𝓣 M x s) (takes 𝓣 M y s) (λ n. h s ((differ_law x y s).1 n)))
    where
      decided : (t u : T) → Dec (t ≡ u) → ¬ (¬ (◌≡◌ {A = Option T} (Some t) (Some u))) → ◌≡◌ {A = Option T} (Some t) (Some u)
      decided t u (yes e) h = ap {B = Option T} Some e
      decided t u (no f) h = absurd (h (λ e. f (some_same e)))

      at : (o n : Option T) → ¬ (¬ (o ≡ n)) → o ≡ n
      at None None h = refl
      at None (Some u) h = absurd (h none_some)
      at (Some t) None h = absurd (h some_none)
      at (Some t) (Some u) h = decided t u (𝓣.decides t u) h

pub word_laws : {T : Type 0} (𝓣 : Group T) → WordLaws 𝓣
word_laws 𝓣 = record {
  append = λ M x y s r p e. compose 𝓣 M s x y r p e;
  split = λ M x y s t e. split 𝓣 M s x y t e;
  prefix_free = prefix_free 𝓣;
  long_enough = λ M w s t e. long_enough 𝓣 M s w t e;
  lettered = λ M f w s t e. lettered 𝓣 M f s w t e;
  congruence = congruence 𝓣;
  differ = differ_law 𝓣;
  same = same_law 𝓣;
}
