-- What a word takes, what is left in a run, and the same by the words of rules alone.
--
-- The idea: all three recursions look at the rule of the first symbol at the first letter, so each fact is an induction over the input with that rule by cases.
--
-- Assumes nothing.
use Rattle.std.proofs.Common.{◌≡◌, ℕ, ◌↔◌, [], ◌∷◌, ◌++◌, Some, None, Option, sym, refl, ap, ◌∙◌, arith}
use Rattle.tally.specs.Group.{Group}
use Rattle.grammar.specs.Meaning.{Word, Input, Weighted, Meaning}
use Rattle.grammar.specs.Takes.{behind, shift, follow, takes}
use Rattle.grammar.proofs.Options.{none_some, some_same}
use Rattle.norm.specs.Words.{raised, onward, ran, words_of, reads, body}
use Rattle.norm.specs.Norms.{Taken}

-- the word of a rule that is there
pub body_is : {T : Type 0} (M : Meaning T) (A a : ℕ) (m : Weighted T) → M.rule A a ≡ Some m → body (words_of M A a) ≡ m.word
body_is M A a m e = rw e

module _ {T : Type 0} (𝓣 : Group T) where
  -- what a run that ends at the empty word comes to
  abbrev pub emptied : Word → T → Option T
  emptied [] t = Some t
  emptied (A ∷ w) t = None

  abbrev pub ended : Option (Weighted T) → Option T
  ended None = None
  ended (Some m) = emptied m.word m.tally

  ended_raised : (p : T) (o : Option (Weighted T)) → shift 𝓣 p (ended o) ≡ ended (raised 𝓣 p o)
  ended_raised p None = refl
  ended_raised p (Some m) = at m.word
    where
      at : (w : Word) → shift 𝓣 p (emptied w m.tally) ≡ emptied w (𝓣.add p m.tally)
      at [] = refl
      at (A ∷ w) = refl

  -- from an ended run to the run
  pub ended_word : (o : Option (Weighted T)) (t : T) → ended o ≡ Some t → o ≡ Some (record { word = []; tally = t })
  ended_word None t e = absurd (none_some e)
  ended_word (Some m) t e = ap {B = Option (Weighted T)} Some (at m.word refl e)
    where
      at : (w : Word) → m.word ≡ w → emptied w m.tally ≡ Some t → m ≡ record { word = []; tally = t }
      at [] d e = λ i. record { word = d i; tally = some_same e i }
      at (A ∷ w) d e = absurd (none_some e)

module _ {T : Type 0} (𝓣 : Group T) (M : Meaning T) where
  -- the first step of an input that is taken
  pub followed : (k : Word → Option T) (r : Word) (o : Option (Weighted T)) (t : T) → follow 𝓣 k (behind r o) ≡ Some t →
      (m : Weighted T) × (q : T) × (o ≡ Some m) × (k (m.word ++ r) ≡ Some q)
  followed k r None t e = absurd (none_some e)
  followed k r (Some m) t e = go (k (m.word ++ r)) refl
    where
      go : (o : Option T) → k (m.word ++ r) ≡ o → (n : Weighted T) × (q : T) × (◌≡◌ {A = Option (Weighted T)} (Some m) (Some n)) × (k (n.word ++ r) ≡ Some q)
      go None d = absurd (none_some (sym (ap (shift 𝓣 m.tally) d) ∙ e))
      go (Some q) d = (m, q, refl, d)

  pub taken_step : (A a : ℕ) (r : Word) (s : Input) (t : T) → takes 𝓣 M (A ∷ r) (a ∷ s) ≡ Some t → (m : Weighted T) × (q : T) × (M.rule A a ≡ Some m) × (takes 𝓣 M (m.word ++ r) s ≡ Some q)
  taken_step A a r s t e = followed (λ x. takes 𝓣 M x s) r (M.rule A a) t e

  -- and back
  pub step_taken : (A a : ℕ) (r : Word) (s : Input) (m : Weighted T) (q : T) → M.rule A a ≡ Some m → takes 𝓣 M (m.word ++ r) s ≡ Some q → takes 𝓣 M (A ∷ r) (a ∷ s) ≡ Some (𝓣.add m.tally q)
  step_taken A a r s m q e d = ap (λ o. follow 𝓣 (λ x. takes 𝓣 M x s) (behind r o)) e ∙ ap (shift 𝓣 m.tally) d

  pub taken_reads : (s : Input) (w : Word) → Taken 𝓣 M w s → reads (words_of M) w s ≡ Some []
  taken_reads [] [] k = refl
  taken_reads [] (A ∷ w) k = absurd (none_some k.1)
  taken_reads (a ∷ s) [] k = absurd (none_some k.1)
  taken_reads (a ∷ s) (A ∷ w) k =
      let f = taken_step A a w s k.0 k.1 in
      let d = taken_reads s (f.0.word ++ w) (f.1, f.3) in
      rw f.2 d

  pub reads_taken : (s : Input) (w : Word) → reads (words_of M) w s ≡ Some [] → Taken 𝓣 M w s
  reads_taken [] [] e = (𝓣.zero, refl)
  reads_taken [] (A ∷ w) e = absurd (let z : ◌≡◌ {A = ℕ} 0 1 = cc in omega arith)
  reads_taken (a ∷ s) [] e = absurd (none_some e)
  reads_taken (a ∷ s) (A ∷ w) e = go (λ v d. reads_taken s (v ++ w) d) (M.rule A a) refl e
    where
      go : ((v : Word) → reads (words_of M) (v ++ w) s ≡ Some [] → Taken 𝓣 M (v ++ w) s) → (o : Option (Weighted T)) → M.rule A a ≡ o →
          reads (words_of M) (A ∷ w) (a ∷ s) ≡ Some [] → Taken 𝓣 M (A ∷ w) (a ∷ s)
      go ih None d e = absurd (none_some (rw d at e))
      go ih (Some m) d e =
          let k = ih m.word (rw d at e) in
          (𝓣.add m.tally k.0, step_taken A a w s m k.0 d k.1)

  pub takes_ended : (s : Input) (w : Word) → takes 𝓣 M w s ≡ ended 𝓣 (ran 𝓣 M w s)
  takes_ended [] [] = refl
  takes_ended [] (A ∷ w) = refl
  takes_ended (a ∷ s) [] = refl
  takes_ended (a ∷ s) (A ∷ w) = go (λ x. takes_ended s x) (behind w (M.rule A a))
    where
      go : ((x : Word) → takes 𝓣 M x s ≡ ended 𝓣 (ran 𝓣 M x s)) → (o : Option (Weighted T)) → follow 𝓣 (λ x. takes 𝓣 M x s) o ≡ ended 𝓣 (onward 𝓣 (λ x. ran 𝓣 M x s) o)
      go ih None = refl
      go ih (Some m) = ap (shift 𝓣 m.tally) (ih m.word) ∙ ended_raised 𝓣 m.tally (ran 𝓣 M m.word s)

  pub run_takes : (w : Word) (s : Input) (t : T) → (ran 𝓣 M w s ≡ Some (record { word = []; tally = t })) ↔ (takes 𝓣 M w s ≡ Some t)
  run_takes w s t = (λ e. takes_ended s w ∙ ap (ended 𝓣) e, λ e. ended_word 𝓣 (ran 𝓣 M w s) t (sym (takes_ended s w) ∙ e))
