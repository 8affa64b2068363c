-- A self-proving sheet: the normal form changes what a word takes by its sum alone.
--
-- The idea: a word and its normal form step together, to words with one normal form again. So letter by letter they take the same, and what the sums differ by stays the same.
--
-- Assumes nothing.
use Rattle.std.proofs.Common.{◌≡◌, ℕ, [], ◌∷◌, ◌++◌, Some, None, Option, sym, refl, ap, ◌∙◌, append_assoc, append-nil}
use mathlib.Core.Path.{◌≡⟨◌⟩◌, ◌∎}
use Rattle.tally.specs.Group.{Group}
use Rattle.tally.proofs.Totals.{right}
use Rattle.grammar.specs.Meaning.{Word, Input, Weighted, Meaning}
use Rattle.grammar.specs.Takes.{behind, step, shift, follow, takes, Same}
use Rattle.grammar.proofs.Takes.{shift_shift}
use Rattle.rows.specs.Sheets.{Sheet, Normal, normal_nil, normal_keep, normal_put, Meets, Agrees, TrueRow}
use Rattle.rows.specs.Laws.{Total}
use Rattle.rows.proofs.Normals.{Filled, from, to, normal_once, normal_append, normal_plain, plain_normal, normal_filled}

module _ {T : Type 0} (𝓣 : Group T) where
  pub left_comm : (a b c : T) → 𝓣.add a (𝓣.add b c) ≡ 𝓣.add b (𝓣.add a c)
  left_comm a b c = sym (𝓣.assoc a b c) ∙ ap (λ u. 𝓣.add u c) (𝓣.comm a b) ∙ 𝓣.assoc b a c

  sum_keep : (p v s : T) → 𝓣.add p (𝓣.add v s) ≡ 𝓣.add (𝓣.add s p) (𝓣.add v 𝓣.zero)
  sum_keep p v s = simp (right 𝓣, 𝓣.assoc, 𝓣.comm)

  sum_put : (p c n o q d s k b j : T) → 𝓣.add p c ≡ 𝓣.add (𝓣.add o q) d → 𝓣.add q j ≡ 𝓣.add (𝓣.add s k) b → j ≡ 𝓣.add d n →
      𝓣.add p (𝓣.add c n) ≡ 𝓣.add (𝓣.add (𝓣.add o s) k) b
  sum_put p c n o q d s k b j here there same =
      𝓣.add p (𝓣.add c n) ≡⟨ sym (𝓣.assoc p c n) ⟩
      𝓣.add (𝓣.add p c) n ≡⟨ rw here (simp 𝓣.assoc) ⟩
      𝓣.add o (𝓣.add q (𝓣.add d n)) ≡⟨ rw (← same, there) (simp 𝓣.assoc) ⟩
      𝓣.add (𝓣.add (𝓣.add o s) k) b ∎

  -- steps of words with a common end
  pub behind_behind : (w r : Word) (M : Meaning T) (a : ℕ) → Filled w → step M (w ++ r) a ≡ behind r (step M w a)
  behind_behind [] r M a h = absurd h
  behind_behind (A ∷ w) r M a h = go (M.rule A a)
    where
      go : (o : Option (Weighted T)) → behind (w ++ r) o ≡ behind r (behind w o)
      go None = refl
      go (Some m) = ap (λ (x : Word). Some (record { word = x; tally = m.tally })) (sym (append_assoc m.word w r))

  module _ (D : Sheet T) (total : Total 𝓣 D) where
    -- a symbol that stays, behind r and behind its normal form z
    keep_meets : (r z : Word) (s : T) → Normal 𝓣 D r z s → (o : Option (Weighted T)) → Meets 𝓣 D s (behind r o) (behind z o)
    keep_meets r z s f None = tt
    keep_meets r z s f (Some m) =
        let v = total m.word in
        record {
          word = v.0 ++ z;
          one = 𝓣.add v.1 s;
          two = 𝓣.add v.1 𝓣.zero;
          normal_one = normal_append 𝓣 D v.2 f;
          normal_two = normal_append 𝓣 D v.2 (plain_normal 𝓣 D z (normal_plain 𝓣 D f));
          even = sum_keep m.tally v.1 s;
        }

    -- a row that agrees, with r behind it, behind a pair that meets
    put_meets : (r : Word) (o s : T) (p q k : Option (Weighted T)) → Meets 𝓣 D o p q → Meets 𝓣 D s (behind r q) k → Meets 𝓣 D (𝓣.add o s) (behind r p) k
    put_meets r o s None None None h j = tt
    put_meets r o s None None (Some k) h j = absurd j
    put_meets r o s None (Some q) k h j = absurd h
    put_meets r o s (Some p) None k h j = absurd h
    put_meets r o s (Some p) (Some q) None h j = absurd j
    put_meets r o s (Some p) (Some q) (Some k) h j =
        let n = total r in
        let here = normal_append 𝓣 D h.normal_two n.2 in
        let same = normal_once 𝓣 D j.normal_one here in
        record {
          word = j.word;
          one = 𝓣.add h.one n.1;
          two = j.two;
          normal_one = to 𝓣 D (sym same.0) (normal_append 𝓣 D h.normal_one n.2);
          normal_two = j.normal_two;
          even = sum_put p.tally h.one n.1 o q.tally h.two s k.tally j.two j.one h.even j.even same.1;
        }

    module _ (M : Meaning T) (self : (A : ℕ) (m : Weighted T) → D A ≡ Some m → (a : ℕ) → Agrees 𝓣 M D A m a) (rows : (A : ℕ) (m : Weighted T) → D A ≡ Some m → Filled m.word) where
      pub step_lemma : {x z : Word} {s : T} → Normal 𝓣 D x z s → (a : ℕ) → Meets 𝓣 D s (step M x a) (step M z a)
      step_lemma normal_nil a = tt
      step_lemma (normal_keep {A = A} {r = r} {z = z} {s = s} e f) a = keep_meets r z s f (M.rule A a)
      step_lemma (normal_put {A = A} {r = r} {z = z} {s = s} {m = m} e f) a =
          put_meets r m.tally s (M.rule A a) (step M m.word a) (step M z a) (self A m e a)
          (rw (behind_behind m.word r M a (rows A m e)) at (step_lemma f a))

      meets_follow : (k : Word → Option T) → ((x z : Word) (s : T) → Normal 𝓣 D x z s → k x ≡ shift 𝓣 s (k z)) →
          (s : T) (p q : Option (Weighted T)) → Meets 𝓣 D s p q → follow 𝓣 k p ≡ shift 𝓣 s (follow 𝓣 k q)
      meets_follow k eq s None None h = refl
      meets_follow k eq s None (Some q) h = absurd h
      meets_follow k eq s (Some p) None h = absurd h
      meets_follow k eq s (Some p) (Some q) h =
          shift 𝓣 p.tally (k p.word) ≡⟨ rw (eq p.word h.word h.one h.normal_one) (shift_shift 𝓣 p.tally h.one (k h.word)) ⟩
          shift 𝓣 (𝓣.add p.tally h.one) (k h.word) ≡⟨ rw h.even (sym (shift_shift 𝓣 (𝓣.add s q.tally) h.two (k h.word))) ⟩
          shift 𝓣 (𝓣.add s q.tally) (shift 𝓣 h.two (k h.word)) ≡⟨ rw (← eq q.word h.word h.two h.normal_two) (sym (shift_shift 𝓣 s q.tally (k q.word))) ⟩
          shift 𝓣 s (shift 𝓣 q.tally (k q.word)) ∎

      filled_none : (z : Word) (s : T) → Filled z → ◌≡◌ {A = Option T} None (shift 𝓣 s (takes 𝓣 M z []))
      filled_none [] s h = absurd h
      filled_none (A ∷ z) s h = refl

      pub takes_normal : (t : Input) (x z : Word) (s : T) → Normal 𝓣 D x z s → takes 𝓣 M x t ≡ shift 𝓣 s (takes 𝓣 M z t)
      takes_normal [] x z s normal_nil = ap {B = Option T} Some (sym (𝓣.left 𝓣.zero))
      takes_normal [] x z s (normal_keep e f) = refl
      takes_normal [] x z s (normal_put {A = A} {r = r} {s = u} {m = m} e f) =
          filled_none z (𝓣.add m.tally u) (normal_filled 𝓣 D rows (normal_put {A = A} {r = r} e f) tt)
      takes_normal (a ∷ t) x z s f = meets_follow (λ w. takes 𝓣 M w t) (takes_normal t) s (step M x a) (step M z a) (step_lemma f a)

      pub true_row : (A : ℕ) (m : Weighted T) → D A ≡ Some m → TrueRow 𝓣 M A m
      true_row A m e t =
          let n = total m.word in
          let put = normal_put {A = A} {r = []} e (from 𝓣 D (sym (append-nil m.word)) n.2) in
          takes 𝓣 M (A ∷ []) t ≡⟨ takes_normal t (A ∷ []) n.0 (𝓣.add m.tally n.1) put ⟩
          shift 𝓣 (𝓣.add m.tally n.1) (takes 𝓣 M n.0 t) ≡⟨ sym (shift_shift 𝓣 m.tally n.1 (takes 𝓣 M n.0 t)) ⟩
          shift 𝓣 m.tally (shift 𝓣 n.1 (takes 𝓣 M n.0 t)) ≡⟨ rw (takes_normal t m.word n.0 n.1 n.2) refl ⟩
          shift 𝓣 m.tally (takes 𝓣 M m.word t) ∎

      pub same_words : (x y z : Word) (s : T) → Normal 𝓣 D x z s → Normal 𝓣 D y z s → Same 𝓣 M x y
      same_words x y z s f h t = takes_normal t x z s f ∙ sym (takes_normal t y z s h)
