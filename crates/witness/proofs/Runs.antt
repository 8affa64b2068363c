-- Runs that stop in the middle of a word, and what is taken from there.
--
-- The idea: a run and what is taken look at the same rules, letter by letter.
--
-- Assumes nothing.
use Rattle.std.proofs.Common.{◌≡◌, [], ◌∷◌, ◌++◌, Some, None, Option, sym, refl, ap, ◌∙◌, append_assoc}
use Rattle.tally.specs.Group.{Group}
use Rattle.grammar.specs.Meaning.{Word, Input, Weighted, Meaning}
use Rattle.grammar.specs.Takes.{behind, shift, follow, takes}
use Rattle.grammar.proofs.Options.{none_some, some_same}
use Rattle.grammar.proofs.Takes.{shift_zero, shift_shift}
use Rattle.norm.specs.Words.{raised, onward, ran}

module _ {T : Type 0} (𝓣 : Group T) (M : Meaning T) where
  -- a run of x to m, and then what is left of it and y take
  pub run_on : (s : Input) (x y : Word) (r : Input) (m : Weighted T) → ran 𝓣 M x s ≡ Some m → takes 𝓣 M (x ++ y) (s ++ r) ≡ shift 𝓣 m.tally (takes 𝓣 M (m.word ++ y) r)
  run_on [] x y r m e = rw (← some_same e) (sym (shift_zero 𝓣 (takes 𝓣 M (x ++ y) r)))
  run_on (a ∷ s) [] y r m e = absurd (none_some e)
  run_on (a ∷ s) (A ∷ x) y r m e = go (λ w q h. run_on s w y r q h) (M.rule A a) e
    where
      on : (q : T) (o : Option (Weighted T)) (n : Option T) → ((k : Weighted T) → o ≡ Some k → n ≡ shift 𝓣 k.tally (takes 𝓣 M (k.word ++ y) r)) → raised 𝓣 q o ≡ Some m →
          shift 𝓣 q n ≡ shift 𝓣 m.tally (takes 𝓣 M (m.word ++ y) r)
      on q None n ih e = absurd (none_some e)
      on q (Some k) n ih e =
          ap (shift 𝓣 q) (ih k refl) ∙ shift_shift 𝓣 q k.tally (takes 𝓣 M (k.word ++ y) r)
          ∙ ap (λ (u : Weighted T). shift 𝓣 u.tally (takes 𝓣 M (u.word ++ y) r)) (some_same e)

      go : ((w : Word) (q : Weighted T) → ran 𝓣 M w s ≡ Some q → takes 𝓣 M (w ++ y) (s ++ r) ≡ shift 𝓣 q.tally (takes 𝓣 M (q.word ++ y) r)) → (o : Option (Weighted T)) →
          onward 𝓣 (λ w. ran 𝓣 M w s) (behind x o) ≡ Some m → follow 𝓣 (λ w. takes 𝓣 M w (s ++ r)) (behind (x ++ y) o) ≡ shift 𝓣 m.tally (takes 𝓣 M (m.word ++ y) r)
      go ih None e = absurd (none_some e)
      go ih (Some n) e =
          rw (← append_assoc n.word x y)
          (on n.tally (ran 𝓣 M (n.word ++ x) s) (takes 𝓣 M (n.word ++ x ++ y) (s ++ r)) (λ k h. ih (n.word ++ x) k h) e)

  -- what is taken can be run over each front of it
  pub runs : (s r : Input) (x : Word) (t : T) → takes 𝓣 M x (s ++ r) ≡ Some t → (m : Weighted T) × (ran 𝓣 M x s ≡ Some m)
  runs [] r x t e = (record { word = x; tally = 𝓣.zero }, refl)
  runs (a ∷ s) r [] t e = absurd (none_some e)
  runs (a ∷ s) r (A ∷ x) t e = go (λ w q h. runs s r w q h) (M.rule A a) e
    where
      on : (q : T) (w : Word) (n : Option T) → ((t : T) → n ≡ Some t → (m : Weighted T) × (ran 𝓣 M w s ≡ Some m)) → shift 𝓣 q n ≡ Some t → (m : Weighted T) × (raised 𝓣 q (ran 𝓣 M w s) ≡ Some m)
      on q w None ih e = absurd (none_some e)
      on q w (Some t) ih e = let i = ih t refl in (record { word = i.0.word; tally = 𝓣.add q i.0.tally }, ap (raised 𝓣 q) i.1)

      go : ((w : Word) (q : T) → takes 𝓣 M w (s ++ r) ≡ Some q → (m : Weighted T) × (ran 𝓣 M w s ≡ Some m)) → (o : Option (Weighted T)) →
          follow 𝓣 (λ w. takes 𝓣 M w (s ++ r)) (behind x o) ≡ Some t → (m : Weighted T) × (onward 𝓣 (λ w. ran 𝓣 M w s) (behind x o) ≡ Some m)
      go ih None e = absurd (none_some e)
      go ih (Some n) e = on n.tally (n.word ++ x) (takes 𝓣 M (n.word ++ x) (s ++ r)) (λ t h. ih (n.word ++ x) t h) e
