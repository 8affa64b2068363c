-- The search for a row to blame, and one stage of the search for a witness.
--
-- The idea: each step of a proof that no row is to blame is a test that can be made. So the proof with "or what is sought" at each step is the search: where a test fails, it has found it.
--
-- Assumes nothing.
use Rattle.std.proofs.Common.{◌≡◌, ℕ, ◌≤◌, ◌⊎◌, List, [], ◌∷◌, ◌++◌, length, Some, None, Option, sym, refl, ap, ◌∙◌, subst, inl, inr, arith, length-append}
use Rattle.std.specs.List.{AllByRecursion}
use Rattle.tally.specs.Group.{Group}
use Rattle.grammar.specs.Meaning.{Word, Input, Weighted, Meaning}
use Rattle.grammar.specs.Takes.{shift, takes}
use Rattle.grammar.proofs.Options.{none_some, some_none, some_same}
use Rattle.grammar.proofs.Takes.{shift_zero, shift_shift}
use Rattle.norm.specs.Norms.{firsts}
use Rattle.norm.specs.Laws.{NormLaws}
use Rattle.rows.specs.Sheets.{Sheet, Normal, normal_nil, normal_keep, normal_put}
use Rattle.witness.specs.Alike.{AlikeOn, TrueOn, Cut, cut}
use Rattle.witness.specs.Forks.{later_word, earlier_word, candidates, ForkAlike}
use Rattle.witness.specs.Laws.{Blamed, BlameFinds, Short, Stage, StageFinds}
use Rattle.witness.proofs.Cuts.{cut_finds, cut_takes}
use Rattle.witness.proofs.Forks.{row_true, candidate_short}
use Rattle.witness.proofs.Walks.{follow_front, put_front, settled}

-- a statement and then another, or what is sought
pub next : {A B X : Type 0} → A ⊎ X → (A → B ⊎ X) → B ⊎ X
next (inl a) f = f a
next (inr x) f = inr x

-- what is sought, where the statement is false
pub sought : {A X : Type 0} → ¬ A → A ⊎ X → X
sought f (inl a) = absurd (f a)
sought f (inr x) = x

-- a test that fails gives what is sought
pub tested : {A X : Type 0} → Dec A → (¬ A → X) → A ⊎ X
tested (yes a) f = inl a
tested (no n) f = inr (f n)

pub all_or : {X : Type 0} (P Q : Input → Type 0) (cs : List Input) → ((c : Input) → P c → Q c ⊎ X) → AllByRecursion P cs → AllByRecursion Q cs ⊎ X
all_or P Q [] f h = inl tt
all_or P Q (c ∷ cs) f h = next (f c h.0) (λ q. next (all_or P Q cs f h.1) (λ qs. inl (q, qs)))

module _ {T : Type 0} (𝓣 : Group T) where
  -- tallies, if they are there, can be compared
  pub told : (m o : Option T) → Dec (m ≡ o)
  told None None = yes refl
  told None (Some b) = no none_some
  told (Some a) None = no some_none
  told (Some a) (Some b) = go (𝓣.decides a b)
    where
      go : Dec (a ≡ b) → Dec (◌≡◌ {A = Option T} (Some a) (Some b))
      go (yes e) = yes (ap {B = Option T} Some e)
      go (no f) = no (λ e. f (some_same e))

module _ {T : Type 0} (𝓣 : Group T) (M : Meaning T) (X : Type 0) where
  -- the front that w takes, tested once
  at_front : (w : Word) (t : Input) (P : Input → Input → Type 0) → ((b c : Input) → t ≡ b ++ c → P b c ⊎ X) → ((t1 t2 : Input) (q : T) → t ≡ t1 ++ t2 → takes 𝓣 M w t1 ≡ Some q → P t1 t2) ⊎ X
  at_front w t P test = go (cut M w t) refl
    where
      go : (o : Option Cut) → cut M w t ≡ o → ((t1 t2 : Input) (q : T) → t ≡ t1 ++ t2 → takes 𝓣 M w t1 ≡ Some q → P t1 t2) ⊎ X
      go None e = inl (λ t1 t2 q h k. absurd (none_some (sym e ∙ ap (cut M w) h ∙ cut_finds 𝓣 M t1 t2 w q k)))
      go (Some c) e =
          next (test c.front c.rest (cut_takes 𝓣 M t w c e).1)
          (λ p. inl (λ t1 t2 q h k. subst (λ (d : Cut). P d.front d.rest) (some_same (sym e ∙ ap (cut M w) h ∙ cut_finds 𝓣 M t1 t2 w q k)) p))

  -- a front is no longer than the whole
  shorter : (t b c : Input) → t ≡ b ++ c → (length b ≤ length t) × (length c ≤ length t)
  shorter t b c h = let d = ap length h in let e = length-append b c in (omega arith, omega arith)

  -- the walk, with a test of a row where it passes one
  pub blame_or : (D : Sheet T) {x z : Word} {s : T} → Normal 𝓣 D x z s → (t : Input) → ((A : ℕ) (m : Weighted T) → D A ≡ Some m → (b : Input) → length b ≤ length t → TrueOn 𝓣 M A m b ⊎ X) →
      (takes 𝓣 M x t ≡ shift 𝓣 s (takes 𝓣 M z t)) ⊎ X
  blame_or D normal_nil t test = inl (sym (shift_zero 𝓣 (takes 𝓣 M [] t)))
  blame_or D (normal_keep {A = A} {r = r} {z = z} {s = s} e f) t test =
      next (at_front (A ∷ []) t (λ b c. takes 𝓣 M r c ≡ shift 𝓣 s (takes 𝓣 M z c))
      (λ b c h. blame_or D f c (λ C m d a l. test C m d a (let k = (shorter t b c h).1 in omega arith))))
      (λ h. inl (follow_front 𝓣 M (A ∷ []) r z s t h))
  blame_or D (normal_put {A = A} {r = r} {z = z} {s = s} {m = m} e f) t test =
      next (at_front (A ∷ []) t (λ b c. TrueOn 𝓣 M A m b) (λ b c h. test A m e b (shorter t b c h).0))
      (λ on_symbol. next (at_front m.word t (λ b c. TrueOn 𝓣 M A m b) (λ b c h. test A m e b (shorter t b c h).0))
      (λ on_word. next (blame_or D f t test)
      (λ h. inl (put_front 𝓣 M A m r t on_symbol on_word ∙ ap (shift 𝓣 m.tally) h ∙ shift_shift 𝓣 m.tally s (takes 𝓣 M z t)))))

module _ {T : Type 0} (𝓣 : Group T) (M : Meaning T) where
  pub blame_finds : BlameFinds 𝓣 M
  blame_finds D x z s t f n =
      sought n (blame_or 𝓣 M (Blamed 𝓣 M D (length t)) D f t (λ C m d b l.
      tested (told 𝓣 (takes 𝓣 M (C ∷ []) b) (shift 𝓣 m.tally (takes 𝓣 M m.word b)))
      (λ k. record { symbol = C; row = m; input = b; marked = d; short = l; untrue = k })))

  pub stage_finds : (norm : ℕ → ℕ) (first : ℕ → Input) → NormLaws 𝓣 M norm first → StageFinds 𝓣 M norm first
  stage_finds norm first N F D x y p q o n offset z untrue =
      sought untrue (next
      (all_or (λ c. Short 𝓣 M norm first F z (firsts first F.common ++ c)) (ForkAlike 𝓣 M norm first F) (candidates 𝓣 M norm first F z)
      (λ c l. alike (firsts first F.common ++ c) l) (candidate_short 𝓣 M norm first N F z))
      (λ all. inl (row_true 𝓣 M norm first N F o offset z all)))
    where
      found : (t : Input) → Short 𝓣 M norm first F z t → (¬ AlikeOn 𝓣 M p q x y t) ⊎ Blamed 𝓣 M D (length t) → Stage 𝓣 M norm first F D x y p q z
      found t l d = record { input = t; short = l; differs = d }

      alike : (t : Input) → Short 𝓣 M norm first F z t → AlikeOn 𝓣 M F.later_sum F.earlier_sum (later_word 𝓣 M norm first F) (earlier_word 𝓣 M norm first F) t ⊎ Stage 𝓣 M norm first F D x y p q z
      alike t l =
          next (tested (told 𝓣 (shift 𝓣 p (takes 𝓣 M x t)) (shift 𝓣 q (takes 𝓣 M y t))) (λ k. found t l (inl k)))
          (λ here. next (tested (told 𝓣 (takes 𝓣 M x t) (shift 𝓣 n.one (takes 𝓣 M (later_word 𝓣 M norm first F) t)))
          (λ k. found t l (inr (blame_finds D x (later_word 𝓣 M norm first F) n.one t n.normal_one k))))
          (λ hx. next (tested (told 𝓣 (takes 𝓣 M y t) (shift 𝓣 n.two (takes 𝓣 M (earlier_word 𝓣 M norm first F) t)))
          (λ k. found t l (inr (blame_finds D y (earlier_word 𝓣 M norm first F) n.two t n.normal_two k))))
          (λ hy. inl (rw (n.sum_one, n.sum_two)
          (settled 𝓣 M x y (later_word 𝓣 M norm first F) (earlier_word 𝓣 M norm first F) p q n.one n.two t hx hy here)))))
