-- The laws of norms and first inputs.
--
-- The idea: an input that a word takes falls into inputs that its symbols take, each at least as long as its symbol's first input and, at equal lengths, no earlier.
-- So the symbols' first inputs, one behind the other, are the word's. A step takes one letter off an input, so norms fall by at most one.
--
-- Assumes nothing.
use Rattle.std.proofs.Common.{◌≡◌, ℕ, suc, ◌+◌, ◌<◌, ◌≤◌, [], ◌∷◌, ◌++◌, length, is_some, Some, None, Option, sym, refl, ap, ◌∙◌, subst, append-nil, arith, length-append}
use Rattle.tally.specs.Group.{Group}
use Rattle.grammar.specs.Meaning.{Word, Input, Weighted, Meaning, Below, WellFormed, word_of}
use Rattle.grammar.specs.Takes.{behind, step, shift, takes}
use Rattle.grammar.proofs.Options.{none_some, some_same}
use Rattle.grammar.proofs.Takes as word_laws
use Rattle.norm.specs.Words.{raised, onward, ran}
use Rattle.norm.specs.Norms.{NoLater, Taken, First, Normed, norms, firsts, Closed}
use Rattle.norm.specs.Laws.{NormLaws}
use Rattle.norm.proofs.Alphabet.{no_later_both, no_later_behind, no_later_tail}
use Rattle.norm.proofs.Bridges.{taken_step, step_taken, run_takes}
use Rattle.norm.proofs.Weights.{norms_append, firsts_append, each_append}

module _ {T : Type 0} (𝓣 : Group T) (M : Meaning T) where
  -- a word has one first input
  pub first_once : (w : Word) (s t : Input) → First 𝓣 M w s → First 𝓣 M w t → s ≡ t
  first_once w s t f g =
      let h = f.shortest t g.taken in
      let k = g.shortest s f.taken in
      let e : length s ≡ length t = omega arith in
      no_later_both s t e (f.earliest t g.taken (sym e)) (g.earliest s f.taken e)

  pub one_normed : (norm norm' : ℕ → ℕ) (first first' : ℕ → Input) → Normed 𝓣 M norm first → Normed 𝓣 M norm' first' → (A : ℕ) → A < M.count → (norm A ≡ norm' A) × (first A ≡ first' A)
  one_normed norm norm' first first' N N' A h =
      let e = first_once (A ∷ []) (first A) (first' A) (N.first_input A h) (N'.first_input A h) in
      (N.size A h ∙ ap length e ∙ sym (N'.size A h), e)

  module _ (norm : ℕ → ℕ) (first : ℕ → Input) (F : WellFormed M) (C : Closed M) (N : Normed 𝓣 M norm first) where
    -- a symbol that takes something is the grammar's
    taken_below : (A : ℕ) (r : Word) (s : Input) → Taken 𝓣 M (A ∷ r) s → A < M.count
    taken_below A r [] k = absurd (none_some k.1)
    taken_below A r (a ∷ s) k = let f = taken_step 𝓣 M A a r s k.0 k.1 in F.counted A a (ap is_some f.2)

    -- the word of a rule that is there is of the grammar's symbols
    rule_below : (A a : ℕ) (m : Weighted T) → M.rule A a ≡ Some m → Below M.count m.word
    rule_below A a m e = subst (λ o. Below M.count (word_of o)) e (C A a)

    shortest : (w : Word) (s : Input) → Taken 𝓣 M w s → norms norm w ≤ length s
    shortest [] s k = omega arith
    shortest (A ∷ w) s k =
        let i = word_laws.split 𝓣 M s (A ∷ []) w k.0 k.1 in
        let b = taken_below A [] i.front (i.first, i.takes_front) in
        let l = (N.first_input A b).shortest i.front (i.first, i.takes_front) in
        let h = shortest w i.back (i.second, i.takes_back) in
        let e = N.size A b in
        rw (i.joined, length-append) (omega arith)

    size : (w : Word) → Below M.count w → length (firsts first w) ≡ norms norm w
    size [] k = refl
    size (A ∷ w) k = let e = N.size A k.0 in let d = size w k.1 in rw length-append (omega arith)

    first_taken : (w : Word) → Below M.count w → Taken 𝓣 M w (firsts first w)
    first_taken [] k = (𝓣.zero, refl)
    first_taken (A ∷ w) k =
        let i = (N.first_input A k.0).taken in
        let j = first_taken w k.1 in
        (𝓣.add i.0 j.0, word_laws.compose 𝓣 M (first A) (A ∷ []) w (firsts first w) i.0 i.1 ∙ ap (shift 𝓣 i.0) j.1)

    first_earliest : (w : Word) → Below M.count w → (r : Input) → Taken 𝓣 M w r → length r ≡ norms norm w → NoLater (firsts first w) r
    first_earliest [] b r k l = tt
    first_earliest (A ∷ w) b r k l =
        let i = word_laws.split 𝓣 M r (A ∷ []) w k.0 k.1 in
        let front : Taken 𝓣 M (A ∷ []) i.front = (i.first, i.takes_front) in
        let back : Taken 𝓣 M w i.back = (i.second, i.takes_back) in
        let p = (N.first_input A b.0).shortest i.front front in
        let q = shortest w i.back back in
        let e = N.size A b.0 in
        let d = ap length i.joined ∙ length-append i.front i.back in
        let same : length i.front ≡ length (first A) = omega arith in
        let rest : length i.back ≡ norms norm w = omega arith in
        subst (λ x. NoLater (first A ++ firsts first w) x) (sym i.joined)
        (no_later_behind (first A) i.front (firsts first w) i.back (sym same) ((N.first_input A b.0).earliest i.front front same) (first_earliest w b.1 i.back back rest))

    first_input : (w : Word) → Below M.count w → First 𝓣 M w (firsts first w)
    first_input w b = record {
      taken = first_taken w b;
      shortest = λ r k. let h = shortest w r k in let e = size w b in omega arith;
      earliest = λ r k l. first_earliest w b r k (l ∙ size w b);
    }

    positive : (A : ℕ) → A < M.count → 1 ≤ norm A
    positive A h = at (first A) (N.first_input A h).taken (N.size A h)
      where
        at : (s : Input) → Taken 𝓣 M (A ∷ []) s → norm A ≡ length s → 1 ≤ norm A
        at [] k e = absurd (none_some k.1)
        at (a ∷ s) k e = omega arith

    long_enough : (w : Word) → Below M.count w → length w ≤ norms norm w
    long_enough [] b = omega arith
    long_enough (A ∷ w) b = let h = positive A b.0 in let k = long_enough w b.1 in omega arith

    -- a rule lowers the norm by at most one
    rule_lowers : (A a : ℕ) (m : Weighted T) → M.rule A a ≡ Some m → norm A ≤ suc (norms norm m.word)
    rule_lowers A a m e =
        let b = rule_below A a m e in
        let k = first_taken m.word b in
        let d : takes 𝓣 M (m.word ++ []) (firsts first m.word) ≡ Some k.0 = ap (λ w. takes 𝓣 M w (firsts first m.word)) (append-nil m.word) ∙ k.1 in
        let h = shortest (A ∷ []) (a ∷ firsts first m.word) (𝓣.add m.tally k.0, step_taken 𝓣 M A a [] (firsts first m.word) m k.0 e d) in
        let l = size m.word b in
        omega arith

    step_lowers : (w : Word) (a : ℕ) (m : Weighted T) → step M w a ≡ Some m → norms norm w ≤ suc (norms norm m.word)
    step_lowers [] a m e = absurd (none_some e)
    step_lowers (A ∷ r) a m e = go (M.rule A a) refl e
      where
        go : (o : Option (Weighted T)) → M.rule A a ≡ o → behind r o ≡ Some m → norm A + norms norm r ≤ suc (norms norm m.word)
        go None d e = absurd (none_some e)
        go (Some n) d e =
            let h = rule_lowers A a n d in
            let l = ap (λ x. norms norm x.word) (some_same e) in
            let k = norms_append norm n.word r in
            omega arith

    step_below : (w : Word) (a : ℕ) (m : Weighted T) → Below M.count w → step M w a ≡ Some m → Below M.count m.word
    step_below [] a m b e = absurd (none_some e)
    step_below (A ∷ r) a m b e = go (M.rule A a) refl e
      where
        go : (o : Option (Weighted T)) → M.rule A a ≡ o → behind r o ≡ Some m → Below M.count m.word
        go None d e = absurd (none_some e)
        go (Some n) d e = subst (λ x. Below M.count x.word) (some_same e) (each_append (λ B. B < M.count) n.word r (rule_below A a n d) b.1)

    first_step : (w : Word) (a : ℕ) (s : Input) → Below M.count w → firsts first w ≡ a ∷ s →
        (m : Weighted T) × (step M w a ≡ Some m) × (norms norm w ≡ suc (norms norm m.word)) × (firsts first m.word ≡ s)
    first_step [] a s b e = absurd (let z : ◌≡◌ {A = ℕ} 0 1 = cc in omega arith)
    first_step (A ∷ r) a s b e =
        let whole : First 𝓣 M (A ∷ r) (a ∷ s) = subst (First 𝓣 M (A ∷ r)) e (first_input (A ∷ r) b) in
        let f = taken_step 𝓣 M A a r s whole.taken.0 whole.taken.1 in
        let n : Weighted T = f.0 in
        let v : Word = n.word ++ r in
        let stepped : step M (A ∷ r) a ≡ Some (record { word = v; tally = n.tally }) = ap (behind r) f.2 in
        let bv : Below M.count v = each_append (λ B. B < M.count) n.word r (rule_below A a n f.2) b.1 in
        let fv = first_input v bv in
        let lv = size v bv in
        let lw : suc (length s) ≡ norms norm (A ∷ r) = ap length (sym e) ∙ size (A ∷ r) b in
        let down = step_lowers (A ∷ r) a (record { word = v; tally = n.tally }) stepped in
        let up = shortest v s (f.1, f.3) in
        let here : length s ≡ norms norm v = omega arith in
        let other : Taken 𝓣 M (A ∷ r) (a ∷ firsts first v) = (𝓣.add n.tally fv.taken.0, step_taken 𝓣 M A a r (firsts first v) n fv.taken.0 f.2 fv.taken.1) in
        let one : NoLater s (firsts first v) = no_later_tail a s (firsts first v) (whole.earliest (a ∷ firsts first v) other (omega arith)) in
        let two : NoLater (firsts first v) s = fv.earliest s (f.1, f.3) (omega arith) in
        (record { word = v; tally = n.tally }, stepped, omega arith, no_later_both (firsts first v) s (omega arith) two one)

    run_lowers : (s : Input) (w : Word) (m : Weighted T) → ran 𝓣 M w s ≡ Some m → norms norm w ≤ length s + norms norm m.word
    run_lowers [] w m e = let d = ap (λ x. norms norm x.word) (some_same e) in omega arith
    run_lowers (a ∷ s) w m e = go (λ x n d. run_lowers s x n d) (step M w a) refl e
      where
        on : (n : Weighted T) (o : Option (Weighted T)) → ((k : Weighted T) → o ≡ Some k → norms norm n.word ≤ length s + norms norm k.word) → raised 𝓣 n.tally o ≡ Some m → norms norm n.word ≤ length s + norms norm m.word
        on n None ih e = absurd (none_some e)
        on n (Some k) ih e = let h = ih k refl in let d = ap (λ x. norms norm x.word) (some_same e) in omega arith

        go : ((x : Word) (n : Weighted T) → ran 𝓣 M x s ≡ Some n → norms norm x ≤ length s + norms norm n.word) → (o : Option (Weighted T)) → step M w a ≡ o →
            onward 𝓣 (λ x. ran 𝓣 M x s) o ≡ Some m → norms norm w ≤ suc (length s) + norms norm m.word
        go ih None d e = absurd (none_some e)
        go ih (Some n) d e =
            let h = step_lowers w a n d in
            let k = on n (ran 𝓣 M n.word s) (λ j p. ih n.word j p) e in
            omega arith

    run_below : (s : Input) (w : Word) (m : Weighted T) → Below M.count w → ran 𝓣 M w s ≡ Some m → Below M.count m.word
    run_below [] w m b e = subst (λ x. Below M.count x.word) (some_same e) b
    run_below (a ∷ s) w m b e = go (λ x n c d. run_below s x n c d) (step M w a) refl e
      where
        on : (n : Weighted T) (o : Option (Weighted T)) → ((k : Weighted T) → o ≡ Some k → Below M.count k.word) → raised 𝓣 n.tally o ≡ Some m → Below M.count m.word
        on n None ih e = absurd (none_some e)
        on n (Some k) ih e = subst (λ x. Below M.count x.word) (some_same e) (ih k refl)

        go : ((x : Word) (n : Weighted T) → Below M.count x → ran 𝓣 M x s ≡ Some n → Below M.count n.word) → (o : Option (Weighted T)) → step M w a ≡ o →
            onward 𝓣 (λ x. ran 𝓣 M x s) o ≡ Some m → Below M.count m.word
        go ih None d e = absurd (none_some e)
        go ih (Some n) d e = on n (ran 𝓣 M n.word s) (λ k p. ih n.word k (step_below w a n b d) p) e

    pub norm_laws : NormLaws 𝓣 M norm first
    norm_laws = record {
      shortest = shortest;
      first_input = first_input;
      size = size;
      positive = positive;
      long_enough = long_enough;
      norms_append = norms_append norm;
      firsts_append = firsts_append first;
      step_lowers = step_lowers;
      first_step = first_step;
      run_lowers = λ w s m e. run_lowers s w m e;
      run_below = λ w s m b e. run_below s w m b e;
      run_takes = run_takes 𝓣 M;
    }
