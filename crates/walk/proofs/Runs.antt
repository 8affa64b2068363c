-- A run along an input, up to the front that a word takes.
--
-- The idea: after i letters the cut of the whole input is the cut of what is left, by the word that is left, with the
-- i letters in front. Where that word is empty, the i letters are the front; where it has no cut, neither has the whole.
--
-- Assumes nothing.
use Rattle.std.proofs.Common.{◌≡◌, ℕ, ◌+◌, ◌<◌, ◌≤◌, true, false, [], ◌∷◌, ◌++◌, length, get_or, take, drop, is_some, Some, None, Option, sym, refl, ap, ◌∙◌, append_assoc, append-nil, arith, length-append, length-drop}
use Rattle.std.specs.Option.{option_map, option_and_then}
use Rattle.std.proofs.lemmas.List.{take_more}
use Rattle.tally.specs.Group.{Group}
use Rattle.tally.proofs.Totals.{right}
use Rattle.grammar.specs.Meaning.{Word, Input, Weighted, Meaning, word_of, tally_of}
use Rattle.grammar.specs.Takes.{behind, step, shift, follow, takes}
use Rattle.grammar.proofs.Lists.{opened}
use Rattle.grammar.proofs.Takes.{shift_zero, shift_shift, long_enough}
use Rattle.grammar.proofs.Runs.{stepped}
use Rattle.witness.specs.Alike.{Cut, longer, cut}
use Rattle.witness.proofs.Cuts.{cut_takes}
use Rattle.walk.specs.Fronts.{IsFront}

-- more letters in front of a cut
abbrev pub with_front : Input → Option Cut → Option Cut
with_front p o = option_map (λ c. record { front = p ++ c.front; rest = c.rest }) o

-- no letters in front
pub no_front : (o : Option Cut) → o ≡ with_front [] o
no_front None = refl
no_front (Some c) = refl

-- one letter more in front
pub front_more : (p : Input) (a : ℕ) (o : Option Cut) → with_front p (longer a o) ≡ with_front (p ++ (a ∷ [])) o
front_more p a None = refl
front_more p a (Some c) = ap {B = Option Cut} (λ l. Some (record { front = l; rest = c.rest })) (sym (append_assoc p (a ∷ []) c.front))

module _ {T : Type 0} (𝓣 : Group T) (M : Meaning T) where
  -- a word that is longer than the input takes no front of it
  pub cut_too_long : (s : Input) (w : Word) → length s < length w → cut M w s ≡ None
  cut_too_long s w h = at (cut M w s) refl
    where
      at : (o : Option Cut) → cut M w s ≡ o → o ≡ None
      at None e = refl
      at (Some c) e =
          let k = cut_takes 𝓣 M s w c e in
          absurd (omega (arith, long_enough 𝓣 M c.front w k.0.0 k.0.1, ap length k.1, length-append c.front c.rest))

  -- nor does one whose first symbol has no rule at the first letter
  pub cut_no_rule : (A a : ℕ) (r w : Word) (s : Input) → w ≡ A ∷ r → is_some (M.rule A a) ≡ false → cut M w (a ∷ s) ≡ None
  cut_no_rule A a r w s e h = rw e (at (M.rule A a) h)
    where
      at : (o : Option (Weighted T)) → is_some o ≡ false → longer a (option_and_then (λ m. cut M m.word s) (behind r o)) ≡ None
      at None h = refl
      at (Some m) h = absurd (let z : ◌≡◌ {A = ℕ} 0 1 = cc in omega arith)

  -- nor one whose rule leaves more symbols than letters
  pub cut_stuck : (A a : ℕ) (r w : Word) (s : Input) → w ≡ A ∷ r → length s < length (word_of (M.rule A a)) + length r → cut M w (a ∷ s) ≡ None
  cut_stuck A a r w s e h = rw e (at (M.rule A a) h)
    where
      at : (o : Option (Weighted T)) → length s < length (word_of o) + length r → longer a (option_and_then (λ m. cut M m.word s) (behind r o)) ≡ None
      at None h = refl
      at (Some m) h = ap (longer a) (cut_too_long s (m.word ++ r) (simp length-append (omega arith)))

  cut_step : (A a : ℕ) (r w w' : Word) (t : T) (s : Input) → w ≡ A ∷ r → step M w a ≡ Some (record { word = w'; tally = t }) → cut M w (a ∷ s) ≡ longer a (cut M w' s)
  cut_step A a r w w' t s e h = rw e (ap (λ o. longer a (option_and_then (λ m. cut M m.word s) o)) (ap (λ x. step M x a) (sym e) ∙ h))

  -- Along a run from the word v over s, after i letters: t is the tally so far, w the word that is left.
  module _ (v : Word) (s : Input) where
    pub record Run (i : ℕ) (t : T) (w : Word) : Type 0 where
      pub cuts : cut M v s ≡ with_front (take i s) (cut M w (drop i s))
      pub taken : (r : Input) → takes 𝓣 M v (take i s ++ r) ≡ shift 𝓣 t (takes 𝓣 M w r)
      pub few : length w + i ≤ length s

    -- the word itself, before the first letter
    pub run_begun : (t : T) (w : Word) → t ≡ 𝓣.zero → w ≡ v → length v ≤ length s → Run 0 t w
    run_begun t w z e h = record {
      cuts = rw e (no_front (cut M v s));
      taken = λ r. rw (e, z) (sym (shift_zero 𝓣 (takes 𝓣 M v r)));
      few = omega (arith, ap length e);
    }

    -- a rule at the next letter
    pub run_more : (i A a : ℕ) (t t' q : T) (r w w' : Word) → Run i t w → i < length s → a ≡ get_or s i 0 → w ≡ A ∷ r →
        is_some (M.rule A a) ≡ true → w' ≡ word_of (M.rule A a) ++ r → q ≡ tally_of 𝓣.zero (M.rule A a) → t' ≡ 𝓣.add t q →
        length w' + (i + 1) ≤ length s → Run (i + 1) t' w'
    run_more i A a t t' q r w w' run h read e some put sum more room =
        let k = stepped 𝓣 M A a r w w' q e some put sum in
        let front : take (i + 1) s ≡ take i s ++ (a ∷ []) = take_more s i 0 h ∙ ap (λ x. take i s ++ (x ∷ [])) (sym read) in
        let rest : drop i s ≡ a ∷ drop (i + 1) s = opened s i a 0 h read in
        record {
          cuts = run.cuts ∙ ap (λ x. with_front (take i s) (cut M w x)) rest
              ∙ ap (with_front (take i s)) (cut_step A a r w w' q (drop (i + 1) s) e k)
              ∙ front_more (take i s) a (cut M w' (drop (i + 1) s)) ∙ ap (λ p. with_front p (cut M w' (drop (i + 1) s))) (sym front);
          taken = λ x. ap (λ p. takes 𝓣 M v (p ++ x)) front ∙ ap (takes 𝓣 M v) (append_assoc (take i s) (a ∷ []) x) ∙ run.taken (a ∷ x)
              ∙ ap (λ o. shift 𝓣 t (follow 𝓣 (λ y. takes 𝓣 M y x) o)) k ∙ shift_shift 𝓣 t q (takes 𝓣 M w' x) ∙ ap (λ u. shift 𝓣 u (takes 𝓣 M w' x)) (sym more);
          few = room;
        }

    -- the word that is left takes no front of the letters that are left
    pub run_stuck : (i a : ℕ) (t : T) (w : Word) → Run i t w → i < length s → a ≡ get_or s i 0 →
        ((r : Input) → length r + i + 1 ≡ length s → cut M w (a ∷ r) ≡ None) → cut M v s ≡ None
    run_stuck i a t w run h read k =
        run.cuts ∙ ap (λ x. with_front (take i s) (cut M w x)) (opened s i a 0 h read) ∙ ap (with_front (take i s)) (k (drop (i + 1) s) (simp length-drop (omega arith)))

    -- the letters so far are the front
    pub run_ends : (i n : ℕ) (t : T) (w : Word) → Run i t w → length w ≡ 0 → n ≡ i → IsFront 𝓣 M v s n t
    run_ends i n t [] run e d = rw d (record {
      within = omega (arith, run.few);
      cuts = run.cuts ∙ ap {B = Option Cut} (λ l. Some (record { front = l; rest = drop i s })) (append-nil (take i s));
      taken = ap (takes 𝓣 M v) (sym (append-nil (take i s))) ∙ run.taken [] ∙ ap {B = Option T} Some (right 𝓣 t);
    })
    run_ends i n t (A ∷ w) run e d = absurd (omega arith)
