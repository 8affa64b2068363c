-- Fronts of an input, and norms of words as they stand to what the words take. Assumes nothing.
use Rattle.std.proofs.Common.{◌≡◌, ℕ, ◌<◌, ◌+◌, ◌≤◌, [], ◌∷◌, ◌++◌, length, Some, sym, refl, ap, ◌∙◌, append-nil, arith, length-append}
use Rattle.tally.specs.Group.{Group}
use Rattle.grammar.specs.Meaning.{Word, Input, Meaning, Below}
use Rattle.grammar.specs.Takes.{shift, takes}
use Rattle.grammar.proofs.Options.{some_same}
use Rattle.grammar.proofs.Takes.{compose, prefix_free}
use Rattle.norm.specs.Norms.{Taken, norms, firsts}
use Rattle.norm.specs.Laws.{NormLaws}

-- of two fronts of one list the shorter is a front of the longer
pub within : (a b c d : Input) → a ++ b ≡ c ++ d → length a ≤ length c → (e : Input) × (c ≡ a ++ e) × (b ≡ e ++ d)
within [] b c d h k = (c, refl, h)
within (x ∷ a) b [] d h k = absurd (omega arith)
within (x ∷ a) b (y ∷ c) d h k =
    let p : x ≡ y = cc in
    let q : a ++ b ≡ c ++ d = cc in
    let i = within a b c d q (omega arith) in
    (i.0, cons_same y x c (a ++ i.0) (sym p) i.1, i.2)
  where
    cons_same : (m n : ℕ) (s t : Input) → m ≡ n → s ≡ t → ◌≡◌ {A = Input} (m ∷ s) (n ∷ t)
    cons_same m n s t e f = cc

-- the lengths of two inputs in two parts
pub same_lengths : (a b c d : Input) → a ++ b ≡ c ++ d → length a + length b ≡ length c + length d
same_lengths a b c d e = let f = ap length e in let g = length-append a b in let h = length-append c d in omega arith

module _ {T : Type 0} (𝓣 : Group T) (M : Meaning T) where
  -- an input in two parts, taken one after the other
  pub taken_both : (x y : Word) (s a b : Input) (p q : T) → s ≡ a ++ b → takes 𝓣 M x a ≡ Some p → takes 𝓣 M y b ≡ Some q → takes 𝓣 M (x ++ y) s ≡ Some (𝓣.add p q)
  taken_both x y s a b p q e f g = ap (takes 𝓣 M (x ++ y)) e ∙ compose 𝓣 M a x y b p f ∙ ap (shift 𝓣 p) g

  -- two fronts of one input that x takes are the same
  pub one_front : (x : Word) (a b c d : Input) (p q : T) → takes 𝓣 M x a ≡ Some p → takes 𝓣 M x c ≡ Some q → a ++ b ≡ c ++ d → length a ≤ length c → (a ≡ c) × (b ≡ d) × (p ≡ q)
  one_front x a b c d p q e f h k =
      let i = within a b c d h k in
      let n : i.0 ≡ [] = prefix_free 𝓣 M x a i.0 p q e (rw i.1 at f) in
      let m : a ≡ c = sym (append-nil a) ∙ ap (λ l. a ++ l) (sym n) ∙ sym i.1 in
      (m, i.2 ∙ ap (λ l. l ++ d) n, some_same (sym e ∙ ap (takes 𝓣 M x) m ∙ f))

  module _ (norm : ℕ → ℕ) (first : ℕ → Input) (N : NormLaws 𝓣 M norm first) where
    pub least_word : (w : Word) (s : Input) (t : T) → takes 𝓣 M w s ≡ Some t → norms norm w ≤ length s
    least_word w s t e = N.shortest w s (t, e)

    pub least : (A : ℕ) (s : Input) (t : T) → takes 𝓣 M (A ∷ []) s ≡ Some t → norm A ≤ length s
    least A s t e = let h = least_word (A ∷ []) s t e in omega arith

    pub first_word : (w : Word) → Below M.count w → Taken 𝓣 M w (firsts first w)
    first_word w k = (N.first_input w k).taken

    pub first_symbol : (A : ℕ) → A < M.count → Taken 𝓣 M (A ∷ []) (first A)
    first_symbol A h = let i = first_word (A ∷ []) (h, tt) in (i.0, ap (takes 𝓣 M (A ∷ [])) (sym (append-nil (first A))) ∙ i.1)

    pub first_size : (A : ℕ) → A < M.count → length (first A) ≡ norm A
    first_size A h = let e = N.size (A ∷ []) (h, tt) in let d = ap length (append-nil (first A)) in omega arith
