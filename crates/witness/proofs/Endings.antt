-- Where a pair comes from, and that what is found at the end of a comparison is no pair that passes its test.
--
-- The idea: each ending names an input that one side takes, the first input of a word; the other side does not take it, or not with that tally.
--
-- Assumes nothing.
use Rattle.std.proofs.Common.{◌≡◌, ℕ, ◌+◌, ◌<◌, ◌≤◌, [], ◌∷◌, ◌++◌, Some, None, Option, sym, ap, ◌∙◌, append-nil, arith}
use Rattle.tally.specs.Group.{Group}
use Rattle.grammar.specs.Meaning.{Word, Input, Weighted, Meaning, Below}
use Rattle.grammar.specs.Takes.{step, shift, follow, takes}
use Rattle.grammar.proofs.Options.{none_some, some_same}
use Rattle.grammar.proofs.Takes.{shift_shift, split}
use Rattle.norm.specs.Words.{ran}
use Rattle.norm.specs.Norms.{norms, firsts}
use Rattle.norm.specs.Laws.{NormLaws}
use Rattle.witness.specs.Alike.{AlikeOn, TrueOn}
use Rattle.witness.proofs.Sums.{cancel, beside, shifted}
use Rattle.witness.proofs.Runs.{run_on, runs}
use Rattle.witness.proofs.Fronts.{within, least_word, least, first_word, first_size}
use Rattle.witness.proofs.Forks.{left_cancel}

never : {X : Type 0} (o : Option X) → o ≡ None → (x : X) × (o ≡ Some x) → ⊥
never o e f = none_some (sym e ∙ f.1)

module _ {T : Type 0} (𝓣 : Group T) (M : Meaning T) where
  -- what a symbol takes behind a letter, and what a word takes behind one
  symbol_steps : (A c : ℕ) (n : Weighted T) (t : Input) → M.rule A c ≡ Some n → takes 𝓣 M (A ∷ []) (c ∷ t) ≡ shift 𝓣 n.tally (takes 𝓣 M n.word t)
  symbol_steps A c n t e = rw (e, append-nil n.word)

  word_steps : (w : Word) (c : ℕ) (k : Weighted T) (t : Input) → step M w c ≡ Some k → takes 𝓣 M w (c ∷ t) ≡ shift 𝓣 k.tally (takes 𝓣 M k.word t)
  word_steps w c k t f = ap (follow 𝓣 (λ x. takes 𝓣 M x t)) f

  word_stops : (w : Word) (c : ℕ) (t : Input) → step M w c ≡ None → takes 𝓣 M w (c ∷ t) ≡ None
  word_stops w c t f = ap (follow 𝓣 (λ x. takes 𝓣 M x t)) f

  -- from a row at a letter to the pair that it leads to
  pub row_leads : (A c : ℕ) (m n k : Weighted T) (t : Input) → M.rule A c ≡ Some n → step M m.word c ≡ Some k → TrueOn 𝓣 M A m (c ∷ t) →
      AlikeOn 𝓣 M n.tally (𝓣.add m.tally k.tally) n.word k.word t
  row_leads A c m n k t e f h =
      sym (symbol_steps A c n t e) ∙ h ∙ ap (shift 𝓣 m.tally) (word_steps m.word c k t f) ∙ shift_shift 𝓣 m.tally k.tally (takes 𝓣 M k.word t)

  module _ (norm : ℕ → ℕ) (first : ℕ → Input) (N : NormLaws 𝓣 M norm first) where
    pub unlike_norms : (p q : T) (x y : Word) → Below M.count x → norms norm x < norms norm y → ¬ AlikeOn 𝓣 M p q x y (firsts first x)
    unlike_norms p q x y k l h =
        let i = first_word 𝓣 M norm first N x k in
        let j = beside 𝓣 p q i.0 (takes 𝓣 M x (firsts first x)) (takes 𝓣 M y (firsts first x)) i.1 h in
        let a = least_word 𝓣 M norm first N y (firsts first x) j.0 j.1 in
        let b = N.size x k in
        omega arith

    pub unlike_sums : (p q : T) (z : Word) → Below M.count z → AlikeOn 𝓣 M p q z z (firsts first z) → p ≡ q
    unlike_sums p q z k h =
        let i = first_word 𝓣 M norm first N z k in
        cancel 𝓣 i.0 p q (𝓣.comm i.0 p ∙ some_same (ap (shift 𝓣 p) (sym i.1) ∙ h ∙ ap (shift 𝓣 q) i.1) ∙ 𝓣.comm q i.0)

    pub rule_of_symbol : (A c : ℕ) (m n : Weighted T) → Below M.count n.word → M.rule A c ≡ Some n → step M m.word c ≡ None → ¬ TrueOn 𝓣 M A m (c ∷ firsts first n.word)
    rule_of_symbol A c m n k e f h =
        let i = first_word 𝓣 M norm first N n.word k in
        let there = symbol_steps A c n (firsts first n.word) e ∙ ap (shift 𝓣 n.tally) i.1 in
        none_some (sym (h ∙ ap (shift 𝓣 m.tally) (word_stops m.word c (firsts first n.word) f)) ∙ there)

    pub rule_of_word : (A c : ℕ) (m n : Weighted T) → Below M.count n.word → M.rule A c ≡ None → step M m.word c ≡ Some n → ¬ TrueOn 𝓣 M A m (c ∷ firsts first n.word)
    rule_of_word A c m n k e f h =
        let i = first_word 𝓣 M norm first N n.word k in
        let stops : takes 𝓣 M (A ∷ []) (c ∷ firsts first n.word) ≡ None = rw e in
        let there = word_steps m.word c n (firsts first n.word) f ∙ ap (shift 𝓣 n.tally) i.1 in
        none_some (sym stops ∙ h ∙ ap (shift 𝓣 m.tally) there)

    -- behind a common front
    behind_common : (u x y : Word) (c : Input) (p q : T) → Below M.count u → AlikeOn 𝓣 M p q (u ++ x) (u ++ y) (firsts first u ++ c) → AlikeOn 𝓣 M p q x y c
    behind_common u x y c p q k h = let i = first_word 𝓣 M norm first N u k in left_cancel 𝓣 M u x y (firsts first u) c i.0 p q i.1 h

    pub no_run : (A B : ℕ) (u x y : Word) (p q : T) → B < M.count → Below M.count u → Below M.count y → norm B ≤ norm A → ran 𝓣 M (A ∷ []) (first B) ≡ None →
        ¬ AlikeOn 𝓣 M p q (u ++ (A ∷ x)) (u ++ (B ∷ y)) (firsts first u ++ (first B ++ firsts first y))
    no_run A B u x y p q kb ku ky le e h =
        let i = first_word 𝓣 M norm first N (B ∷ y) (kb, ky) in
        let l = behind_common u (A ∷ x) (B ∷ y) (first B ++ firsts first y) p q ku h in
        let j = beside 𝓣 q p i.0 (takes 𝓣 M (B ∷ y) (first B ++ firsts first y)) (takes 𝓣 M (A ∷ x) (first B ++ firsts first y)) i.1 (sym l) in
        let s = split 𝓣 M (first B ++ firsts first y) (A ∷ []) x j.0 j.1 in
        let n = least 𝓣 M norm first N A s.front s.first s.takes_front in
        let b = first_size 𝓣 M norm first N B kb in
        let w = within (first B) (firsts first y) s.front s.back s.joined (omega arith) in
        never (ran 𝓣 M (A ∷ []) (first B)) e (runs 𝓣 M (first B) w.0 (A ∷ []) s.first (rw w.1 at s.takes_front))

    pub too_heavy : (A B : ℕ) (u x y : Word) (p q : T) (m : Weighted T) → B < M.count → Below M.count u → Below M.count y → norm A + norms norm x ≡ norm B + norms norm y →
        ran 𝓣 M (A ∷ []) (first B) ≡ Some m → norm A < norm B + norms norm m.word → ¬ AlikeOn 𝓣 M p q (u ++ (A ∷ x)) (u ++ (B ∷ y)) (firsts first u ++ (first B ++ firsts first y))
    too_heavy A B u x y p q m kb ku ky same e lt h =
        let i = first_word 𝓣 M norm first N (B ∷ y) (kb, ky) in
        let l = behind_common u (A ∷ x) (B ∷ y) (first B ++ firsts first y) p q ku h in
        let o = run_on 𝓣 M (first B) (A ∷ []) x (firsts first y) m e in
        let left = takes 𝓣 M (m.word ++ x) (firsts first y) in
        let j = beside 𝓣 q p i.0 (takes 𝓣 M (B ∷ y) (first B ++ firsts first y)) (shift 𝓣 m.tally left) i.1 (sym l ∙ ap (shift 𝓣 p) o) in
        let k = shifted 𝓣 m.tally left j.0 j.1 in
        let a = least_word 𝓣 M norm first N (m.word ++ x) (firsts first y) k.0 k.1 in
        let b = N.norms_append m.word x in
        let c = N.size y ky in
        omega arith
