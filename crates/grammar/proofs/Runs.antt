-- A run, step by step. Assumes nothing.
use Rattle.std.proofs.Common.{◌≡◌, ℕ, ◌+◌, ◌<◌, ◌≤◌, true, [], ◌∷◌, ◌++◌, length, get_or, drop, is_some, Some, None, Ok, Err, Option, sym, refl, ap, ◌∙◌, arith, length-append, length-drop, le-ltb, lt-ltb}
use Rattle.std.proofs.lemmas.List.{drop_all}
use Rattle.tally.specs.Group.{Group}
use Rattle.tally.proofs.Totals.{right}
use Rattle.grammar.specs.Meaning.{Word, Input, Weighted, Meaning, word_of, tally_of}
use Rattle.grammar.specs.Takes.{behind, step, shift, follow, takes}
use Rattle.grammar.specs.Laws.{derived, max_input}
use Rattle.grammar.proofs.Lists.{opened}
use Rattle.grammar.proofs.Takes.{shift_shift, too_long}

module _ {T : Type 0} (𝓣 : Group T) (M : Meaning T) where
  -- a rule whose word leaves too many symbols
  pub stuck_long : (A a : ℕ) (r w : Word) (s : Input) → w ≡ A ∷ r → length s < length (word_of (M.rule A a)) + length r → takes 𝓣 M w (a ∷ s) ≡ None
  stuck_long A a r w s e h = rw e (at (M.rule A a) h)
    where
      at : (o : Option (Weighted T)) → length s < length (word_of o) + length r → follow 𝓣 (λ x. takes 𝓣 M x s) (behind r o) ≡ None
      at None h = refl
      at (Some m) h = ap (shift 𝓣 m.tally) (too_long 𝓣 M s (m.word ++ r) (simp length-append (omega arith)))

  -- a rule that is used
  pub stepped : (A a : ℕ) (r w w' : Word) (t : T) → w ≡ A ∷ r → is_some (M.rule A a) ≡ true → w' ≡ word_of (M.rule A a) ++ r → t ≡ tally_of 𝓣.zero (M.rule A a) →
      step M w a ≡ Some (record { word = w'; tally = t })
  stepped A a r w w' t e h was sum = rw (e, was, sum) (at (M.rule A a) h)
    where
      at : (o : Option (Weighted T)) → is_some o ≡ true → behind r o ≡ Some (record { word = word_of o ++ r; tally = tally_of 𝓣.zero o })
      at None h = absurd (let z : ◌≡◌ {A = ℕ} 0 1 = cc in omega arith)
      at (Some m) h = refl

  -- Along a run from the word v over s: sum is the tally so far, w the word that is left, i the number of letters used.
  module _ (v : Word) (s : Input) where
    abbrev pub Ran : ℕ → T → Word → Type 0
    Ran i sum w = (takes 𝓣 M v s ≡ shift 𝓣 sum (takes 𝓣 M w (drop i s))) × (length w + i ≤ length s)

    pub ran_more : (i a left : ℕ) (sum sum' t : T) (w w' : Word) → Ran i sum w → i < length s → a ≡ get_or s i 0 → left + i + 1 ≡ length s →
        (step M w a ≡ Some (record { word = w'; tally = t })) × (length w' ≤ left) → sum' ≡ 𝓣.add sum t → Ran (i + 1) sum' w'
    ran_more i a left sum sum' t w w' ran h read rest k more = (
      ran.0 ∙ ap (λ r. shift 𝓣 sum (takes 𝓣 M w r)) (opened s i a 0 h read) ∙ ap (λ o. shift 𝓣 sum (follow 𝓣 (λ x. takes 𝓣 M x (drop (i + 1) s)) o)) k.0
          ∙ shift_shift 𝓣 sum t (takes 𝓣 M w' (drop (i + 1) s)) ∙ ap (λ u. shift 𝓣 u (takes 𝓣 M w' (drop (i + 1) s))) (sym more),
      omega arith,
    )

    pub ran_stuck : (i a left : ℕ) (sum : T) (w : Word) → Ran i sum w → i < length s → a ≡ get_or s i 0 → left + i + 1 ≡ length s →
        ((r : Input) → length r ≡ left → takes 𝓣 M w (a ∷ r) ≡ None) → takes 𝓣 M v s ≡ None
    ran_stuck i a left sum w ran h read rest k =
        ran.0 ∙ ap (λ r. shift 𝓣 sum (takes 𝓣 M w r)) (opened s i a 0 h read) ∙ ap (shift 𝓣 sum) (k (drop (i + 1) s) (simp length-drop (omega arith)))

    pub ran_all : (i : ℕ) (sum : T) (w : Word) → Ran i sum w → length s ≤ i → takes 𝓣 M v s ≡ Some sum
    ran_all i sum w ran h = ran.0 ∙ at w (omega arith)
      where
        at : (w : Word) → length w ≤ 0 → shift 𝓣 sum (takes 𝓣 M w (drop i s)) ≡ Some sum
        at [] k = rw (drop_all i s h) (ap {B = Option T} Some (right 𝓣 sum))
        at (A ∷ w) k = absurd (omega arith)

  -- what the run answers
  pub derived_long : (w : Word) (s : Input) → max_input < length s → Err (record { letters = length s }) ≡ derived 𝓣 M w s
  derived_long w s h = rw (lt-ltb max_input (length s) h)

  pub derived_short : (w : Word) (s : Input) (o : Option T) → length s ≤ max_input → takes 𝓣 M w s ≡ o → Ok o ≡ derived 𝓣 M w s
  derived_short w s o h e = rw (le-ltb max_input (length s) h, e)
