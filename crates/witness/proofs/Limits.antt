-- What a pair that is looked at weighs: with the letters that lead to it, at most 8 v.
--
-- The idea: a given word has at most 8 symbols. What a row leads to is the word of a rule, of at most 4 symbols, or that and what is left of the row's word, which weighs no more than the row's symbol.
--
-- Assumes nothing.
use Rattle.std.proofs.Common.{◌≡◌, ℕ, ◌+◌, ◌*◌, ◌<◌, ◌≤◌, ◌⊎◌, [], ◌∷◌, ◌++◌, length, Some, None, Option, refl, ap, subst, inl, inr, mul-le-mul_right, arith}
use Rattle.std.specs.Option.{option_map}
use Rattle.tally.specs.Group.{Group}
use Rattle.grammar.specs.Meaning.{Word, Input, Weighted, Meaning, Below, word_of}
use Rattle.grammar.specs.Takes.{behind, step}
use Rattle.grammar.proofs.Options.{none_some, some_same}
use Rattle.norm.specs.Norms.{norms, Closed}
use Rattle.norm.specs.Laws.{NormLaws}
use Rattle.norm.proofs.Weights.{each_append}
use Rattle.rows.specs.Sheets.{Sheet, unweighed, Shaped, Ranked}
use Rattle.witness.specs.History.{Limited, Given, Origin, given, from_row, Pair}
use Rattle.witness.proofs.Bounds.{norms_bound}

module _ {T : Type 0} (𝓣 : Group T) (M : Meaning T) (norm : ℕ → ℕ) (first : ℕ → Input) (N : NormLaws 𝓣 M norm first) (C : Closed M) (v : ℕ) (limits : Limited M norm v) where
  rule_known : (A a : ℕ) (m : Weighted T) → M.rule A a ≡ Some m → Below M.count m.word
  rule_known A a m e = subst (λ o. Below M.count (word_of o)) e (C A a)

  rule_light : (A a : ℕ) (m : Weighted T) → M.rule A a ≡ Some m → norms norm m.word ≤ 4 * v
  rule_light A a m e =
      let short : length m.word ≤ 4 = subst (λ o. length (word_of o) ≤ 4) e (limits.rules A a) in
      let h = norms_bound norm M.count v limits.norms m.word (rule_known A a m e) in
      let k = mul-le-mul_right v short in
      omega arith

  -- a step of a word of known symbols
  step_light : (w : Word) (a : ℕ) (m : Weighted T) → Below M.count w → step M w a ≡ Some m → Below M.count m.word × (norms norm m.word ≤ 4 * v + norms norm w)
  step_light [] a m b e = absurd (none_some e)
  step_light (A ∷ r) a m b e = go (M.rule A a) (λ k d. (rule_known A a k d, rule_light A a k d)) e
    where
      go : (o : Option (Weighted T)) → ((k : Weighted T) → o ≡ Some k → Below M.count k.word × (norms norm k.word ≤ 4 * v)) → behind r o ≡ Some m →
          Below M.count m.word × (norms norm m.word ≤ 4 * v + norms norm (A ∷ r))
      go None h e = absurd (none_some e)
      go (Some k) h e =
          let i = h k refl in
          let same = ap (λ (x : Weighted T). x.word) (some_same e) in
          let n = N.norms_append k.word r in
          let l = i.1 in
          let heavy : norms norm (k.word ++ r) ≤ 4 * v + norms norm (A ∷ r) = omega arith in
          rw (← same) (each_append (λ B. B < M.count) k.word r i.0 b.1, heavy)

  module _ (D : Sheet T) (ranked : Ranked M.count norm (unweighed D)) where
    shaped : (A : ℕ) (m : Weighted T) → D A ≡ Some m → Shaped M.count norm A m.word
    shaped A m e = ranked A m.word (ap (option_map (λ (k : Weighted T). k.word)) e)

    -- a norm is at least 1, so v is where a row is
    some_limit : (A : ℕ) (m : Weighted T) → D A ≡ Some m → 1 ≤ v
    some_limit A m e = let h = (shaped A m e).symbol in let l = N.positive A h in let k = limits.norms A h in omega arith

    -- what a row leads to
    pub symbol_light : (A a : ℕ) (m n : Weighted T) → D A ≡ Some m → M.rule A a ≡ Some n → Below M.count n.word × (norms norm n.word + 1 ≤ 8 * v)
    symbol_light A a m n d e = let one = some_limit A m d in let l = rule_light A a n e in (rule_known A a n e, omega arith)

    pub word_light : (A a : ℕ) (m n : Weighted T) → D A ≡ Some m → step M m.word a ≡ Some n → Below M.count n.word × (norms norm n.word + 1 ≤ 8 * v)
    word_light A a m n d e =
        let sh = shaped A m d in
        let i = step_light m.word a n sh.below e in
        let one = some_limit A m d in
        let w = sh.weighs in
        let k = limits.norms A sh.symbol in
        let l = i.1 in
        (i.0, omega arith)

    given_light : (x : Word) → Given M x → norms norm x ≤ 8 * v
    given_light x g = let h = norms_bound norm M.count v limits.norms x g.0 in let k = mul-le-mul_right v g.1 in omega arith

    module _ (x₀ y₀ : Word) (one_given : Given M x₀) (two_given : Given M y₀) where
      abbrev Light : ℕ → Word → Type 0
      Light k x = Below M.count x × (norms norm x + k ≤ 8 * v)

      origin_light : (k : ℕ) (p q : T) (x y : Word) → Origin 𝓣 M x₀ y₀ D k p q x y → Light k x × Light k y
      origin_light k p q x y (given none ep eq ex ey) =
          let a = given_light x₀ one_given in
          let b = given_light y₀ two_given in
          rw (ex, ey) ((one_given.0, omega arith), (two_given.0, omega arith))
      origin_light k p q x y (from_row A a m n u d e f one ep eq ex ey) = rw (ex, ey, one) (symbol_light A a m n d e, word_light A a m u d f)

      pub pair_light : (P : Pair 𝓣 M x₀ y₀ D) → Light P.letters P.first × Light P.letters P.second
      pair_light P = go P.origin
        where
          go : Origin 𝓣 M x₀ y₀ D P.letters P.first_sum P.second_sum P.first P.second ⊎ Origin 𝓣 M x₀ y₀ D P.letters P.second_sum P.first_sum P.second P.first → Light P.letters P.first × Light P.letters P.second
          go (inl o) = origin_light P.letters P.first_sum P.second_sum P.first P.second o
          go (inr o) = let i = origin_light P.letters P.second_sum P.first_sum P.second P.first o in (i.1, i.0)
