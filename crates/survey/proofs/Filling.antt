-- The tables of words and of tallies as they are filled in, rule by rule.
--
-- The idea: no two rules have one place, so what holds of the rules visited so far stays when the next is put in.
--
-- Assumes nothing.
use Rattle.std.proofs.Common.{◌≡◌, ℕ, ◌+◌, ◌<◌, true, false, ◌&&◌, ltb, leb, ◌⊎◌, List, length, get_or, set, is_some, Some, None, Option, sym, refl, ap, ◌∙◌, subst, inl, inr, ⊎_elim, arith, length-set, get_or-set_other, get_or-set_same, ltb-false, ltb-true, leb-false, ◌/◌, ◌%◌, below_more}
use Rattle.std.proofs.lemmas.Bool.{cases_Bool, cases_eq, cond-true, cond-false, and_parts, and_cases}
use Rattle.std.specs.Option.{option_map}
use Rattle.tally.specs.Group.{Group}
use Rattle.grammar.specs.Meaning.{Weighted, Meaning, WellFormed, Letter, Below, word_of}
use Rattle.grammar.specs.Listed.{letter}
use Rattle.norm.specs.Words.{words_of, body}
use Rattle.grammar.specs.Places.{index}
use Rattle.norm.specs.Tabled.{held, stored}
use Rattle.norm.specs.declared.short_word.ShortWord.{ShortWord}
use Rattle.norm.proofs.Stored.{letter_true}
use Rattle.norm.proofs.Weights.{each_at}
use Rattle.survey.specs.Refusals.{Sized, Fine, BadRule, Sooner, Refused, bad_rule}
use Rattle.survey.specs.Laws.{TakenUp}
use Rattle.survey.specs.declared.fault.GrammarFault.{GrammarFault}

-- no letter, told by its test
pub letter_false : (a : ℕ) → letter a ≡ false → ¬ Letter a
letter_false a e h = ⊎_elim (λ d. let x = leb-false 65 a d in omega arith) (λ d. let x = leb-false a 90 d in omega arith) (and_cases (leb 65 a) (leb a 90) e)

-- what is sooner than the next letter, and than the next symbol
sooner_more : (A a B b : ℕ) → Sooner A a B (b + 1) → Sooner A a B b ⊎ ((A ≡ B) × (a ≡ b))
sooner_more A a B b (inl h) = inl (inl h)
sooner_more A a B b (inr h) = ⊎_elim (λ e. inr (h.0, e)) (λ n. let l = h.1 in inl (inr (h.0, omega arith))) (cases_eq a b)

sooner_next : (A a B b : ℕ) → Letter a → 90 < b → Sooner A a (B + 1) 65 → Sooner A a B b
sooner_next A a B b l h (inl s) = let high = l.1 in ⊎_elim (λ e. inr (e, omega arith)) (λ n. inl (omega arith)) (cases_eq A B)
sooner_next A a B b l h (inr s) = let low = l.0 in let d = s.1 in absurd (omega arith)

sooner_first : (A a : ℕ) → Letter a → ¬ Sooner A a 0 65
sooner_first A a l (inl s) = omega arith
sooner_first A a l (inr s) = let low = l.0 in let d = s.1 in omega arith

other_place : (A a B b : ℕ) → Letter a → Letter b → Sooner A a B b → ¬ (index A a ≡ index B b)
other_place A a B b l k (inl s) e = let p = l.0 in let q = l.1 in let r = k.0 in let t = k.1 in omega arith
other_place A a B b l k (inr s) e = let p = l.0 in let q = s.0 in let r = s.1 in let t = k.0 in omega arith

-- P holds of what a table has at the places of all rules sooner than the one at B and b
module _ {X : Type 0} (P : ℕ → ℕ → X → Type 0) where
  pub record Placed (xs : List X) (B b : ℕ) : Type 0 where
    pub size : length xs ≡ 832
    pub each : (A a : ℕ) (d : X) → Letter a → Sooner A a B b → P A a (get_or xs (index A a) d)

  pub placed_more : (xs : List X) (B b : ℕ) (x : X) → Placed xs B b → B < 32 → Letter b → P B b x → Placed (set xs (index B b) x) B (b + 1)
  placed_more xs B b x f small l p = record {
    size = length-set xs (index B b) x ∙ f.size;
    each = λ A a d k s. go A a d k (sooner_more A a B b s);
  }
    where
      room : index B b < length xs
      room = let s = f.size in let low = l.0 in let high = l.1 in omega arith

      go : (A a : ℕ) (d : X) → Letter a → Sooner A a B b ⊎ ((A ≡ B) × (a ≡ b)) → P A a (get_or (set xs (index B b) x) (index A a) d)
      go A a d k (inl s) = subst (P A a) (sym (get_or-set_other xs (index B b) (index A a) x d (other_place A a B b k l s))) (f.each A a d k s)
      go A a d k (inr e) = rw (e.0, e.1) (subst (P B b) (sym (get_or-set_same xs (index B b) x d room)) p)

  pub placed_next : (xs : List X) (B b : ℕ) → 90 < b → Placed xs B b → Placed xs (B + 1) 65
  placed_next xs B b h f = record { size = f.size; each = λ A a d l s. f.each A a d l (sooner_next A a B b l h s) }

module _ {T : Type 0} (M : Meaning T) where
  -- the table has the words of fine rules
  abbrev pub Filled : List (Option (ShortWord 4)) → ℕ → ℕ → Type 0
  Filled = Placed (λ A a o. (option_map held o ≡ words_of M A a) × Fine M.count M A a)

  -- the same by places: those below k have the words of fine rules
  pub record FilledBelow (ws : List (Option (ShortWord 4))) (k : ℕ) : Type 0 where
    pub size : length ws ≡ 832
    pub words : (j : ℕ) → j < k → option_map held (get_or ws j None) ≡ words_of M (j / 26) (65 + j % 26)
    pub rules : (j : ℕ) → j < k → Fine M.count M (j / 26) (65 + j % 26)

  pub filled_more : (ws : List (Option (ShortWord 4))) (k : ℕ) (o : Option (ShortWord 4)) → FilledBelow ws k → k < 832 → option_map held o ≡ words_of M (k / 26) (65 + k % 26) → Fine M.count M (k / 26) (65 + k % 26) → FilledBelow (set ws k o) (k + 1)
  filled_more ws k o f h e r = record {
    size = length-set ws k o ∙ f.size;
    words = below_more (λ j. option_map held (get_or (set ws k o) j None) ≡ words_of M (j / 26) (65 + j % 26)) k
        (λ j l. ap (option_map held) (get_or-set_other ws k j o None (λ d. omega arith)) ∙ f.words j l)
        (ap (option_map held) (get_or-set_same ws k o None (let s = f.size in omega arith)) ∙ e);
    rules = below_more (λ j. Fine M.count M (j / 26) (65 + j % 26)) k f.rules r;
  }

  module _ (F : WellFormed M) where
    -- where there can be no rule, there is none, and nothing is wrong
    no_rule : (A a : ℕ) → ¬ ((A < M.count) × Letter a) → M.rule A a ≡ None
    no_rule A a h = go (M.rule A a) refl
      where
        go : (o : Option (Weighted T)) → M.rule A a ≡ o → M.rule A a ≡ None
        go None e = e
        go (Some m) e = absurd (h (F.counted A a (ap is_some e), F.lettered A a (ap is_some e)))

    fine_none : (A a : ℕ) → ¬ ((A < M.count) × Letter a) → Fine M.count M A a
    fine_none A a h = let e = no_rule A a h in record { short = rw e (omega arith); known = rw e tt }

    fine_sooner : (ws : List (Option (ShortWord 4))) (A a : ℕ) → Filled ws A a → (B b : ℕ) → Sooner B b A a → Fine M.count M B b
    fine_sooner ws A a f B b s =
        ⊎_elim (λ e. (f.each B b None (letter_true b e) s).1) (λ e. fine_none B b (λ h. letter_false b e h.1)) (cases_Bool (letter b))

    -- a rule that is not fine
    pub filled_bad : (n v : ℕ) (𝓣 : Group T) → Sized n M → (ws : List (Option (ShortWord 4))) (A a : ℕ) → Filled ws A a → (f : GrammarFault) → BadRule M.count M A a f → Refused n v 𝓣 M f
    filled_bad n v 𝓣 s ws A a fill f b = bad_rule s A a (fine_sooner ws A a fill) b

    -- all places
    pub filled_all : (n : ℕ) → Sized n M → (ws : List (Option (ShortWord 4))) → Filled ws M.count 65 → TakenUp n M M.count ws
    filled_all n s ws f = record { sized = s; count = refl; rules = fine; words = same }
      where
        here : (A a : ℕ) → (ltb A M.count && letter a) ≡ true → (option_map held (get_or ws (index A a) None) ≡ words_of M A a) × Fine M.count M A a
        here A a e = let p = and_parts (ltb A M.count) (letter a) e in f.each A a None (letter_true a p.1) (inl (ltb-true A M.count p.0))

        gone : (A a : ℕ) → (ltb A M.count && letter a) ≡ false → ¬ ((A < M.count) × Letter a)
        gone A a e h = ⊎_elim (λ d. let x = ltb-false A M.count d in let y = h.0 in omega arith) (λ d. letter_false a d h.1) (and_cases (ltb A M.count) (letter a) e)

        fine : (A a : ℕ) → Fine M.count M A a
        fine A a = ⊎_elim (λ e. (here A a e).1) (λ e. fine_none A a (gone A a e)) (cases_Bool (ltb A M.count && letter a))

        same : (A a : ℕ) → stored M.count ws A a ≡ words_of M A a
        same A a =
            ⊎_elim (λ e. cond-true _ _ _ e ∙ (here A a e).0) (λ e. cond-false _ _ _ e ∙ ap (option_map (λ m. m.word)) (sym (no_rule A a (gone A a e))))
            (cases_Bool (ltb A M.count && letter a))

    -- the same for a count that is told
    pub taken_up : (n k : ℕ) → k ≡ M.count → Sized n M → (ws : List (Option (ShortWord 4))) → Filled ws k 65 → TakenUp n M k ws
    taken_up n k c s ws f = subst (λ x. TakenUp n M x ws) (sym c) (filled_all n s ws (subst (λ x. Filled ws x 65) c f))

-- the word of a rule, by the words alone
body_word : {T : Type 0} (o : Option (Weighted T)) → body (option_map (λ m. m.word) o) ≡ word_of o
body_word None = refl
body_word (Some m) = refl

-- the symbols of a fine grammar's words are known, place by place
pub known_places : {T : Type 0} (n : ℕ) (M : Meaning T) (k : ℕ) (ws : List (Option (ShortWord 4))) → TakenUp n M k ws → (A a i : ℕ) → i < length (body (stored k ws A a)) → get_or (body (stored k ws A a)) i 0 < k
known_places n M k ws t A a i h =
    let e : body (stored k ws A a) ≡ word_of (M.rule A a) = ap body (t.words A a) ∙ body_word (M.rule A a) in
    let b : Below k (body (stored k ws A a)) = subst (Below k) (sym e) (subst (λ x. Below x (word_of (M.rule A a))) (sym t.count) (t.rules A a).known) in
    each_at (λ B. B < k) (body (stored k ws A a)) i 0 h b
