-- A run, letter by letter. Assumes nothing.
use Rattle.std.proofs.Common.{◌≡◌, ℕ, ◌+◌, ◌*◌, ◌<◌, ◌≤◌, [], ◌∷◌, ◌++◌, length, get_or, drop, Some, None, Option, sym, refl, ap, ◌∙◌, arith, length-append}
use Rattle.std.proofs.lemmas.List.{drop_more, drop_all}
use Rattle.tally.specs.Group.{Group}
use Rattle.tally.proofs.Totals.{right}
use Rattle.grammar.specs.Meaning.{Word, Input, Weighted, Meaning}
use Rattle.grammar.specs.Takes.{behind}
use Rattle.norm.specs.Words.{raised, onward, ran}

module _ {T : Type 0} (𝓣 : Group T) where
  raised_raised : (p q : T) (o : Option (Weighted T)) → raised 𝓣 p (raised 𝓣 q o) ≡ raised 𝓣 (𝓣.add p q) o
  raised_raised p q None = refl
  raised_raised p q (Some m) = ap {B = Option (Weighted T)} (λ t. Some (record { word = m.word; tally = t })) (sym (𝓣.assoc p q m.tally))

  pub raised_zero : (o : Option (Weighted T)) → raised 𝓣 𝓣.zero o ≡ o
  raised_zero None = refl
  raised_zero (Some m) = ap {B = Option (Weighted T)} (λ t. Some (record { word = m.word; tally = t })) (𝓣.left m.tally)

  -- After i letters of s from the word w, with room for all symbols: x is left, with the tally t.
  module _ (M : Meaning T) (w : Word) (s : Input) where
    abbrev pub Along : ℕ → Word → T → Type 0
    Along i x t = length w + 3 * length s ≤ 512 → (ran 𝓣 M w s ≡ raised 𝓣 t (ran 𝓣 M x (drop i s))) × (length x ≤ length w + 3 * i)

    pub along_none : (x : Word) (t : T) → (length w ≤ 512 → x ≡ w) → t ≡ 𝓣.zero → Along 0 x t
    along_none x t e d h =
        let put : x ≡ w = e (omega arith) in
        let long = ap length put in
        (sym (raised_zero (ran 𝓣 M w s)) ∙ ap (λ z. raised 𝓣 z (ran 𝓣 M w s)) (sym d) ∙ ap (λ y. raised 𝓣 t (ran 𝓣 M y s)) (sym put), omega arith)

    -- no symbol is left, or no rule is there
    pub along_empty : (i : ℕ) (x : Word) (t : T) → Along i x t → i < length s → x ≡ [] → length w + 3 * length s ≤ 512 → None ≡ ran 𝓣 M w s
    along_empty i x t a l e h =
        sym ((a h).0 ∙ ap (λ r. raised 𝓣 t (ran 𝓣 M x r)) (drop_more s i 0 l) ∙ ap (λ y. raised 𝓣 t (ran 𝓣 M y (get_or s i 0 ∷ drop (i + 1) s))) e)

    pub along_stuck : (i A : ℕ) (x r : Word) (t : T) → Along i x t → i < length s → x ≡ A ∷ r → M.rule A (get_or s i 0) ≡ None → length w + 3 * length s ≤ 512 → None ≡ ran 𝓣 M w s
    along_stuck i A x r t a l e d h =
        sym ((a h).0 ∙ ap (λ r. raised 𝓣 t (ran 𝓣 M x r)) (drop_more s i 0 l) ∙ ap (λ y. raised 𝓣 t (ran 𝓣 M y (get_or s i 0 ∷ drop (i + 1) s))) e
        ∙ ap (λ o. raised 𝓣 t (onward 𝓣 (λ y. ran 𝓣 M y (drop (i + 1) s)) (behind r o))) d)

    pub along_more : (i A : ℕ) (x r y : Word) (t u : T) (m : Weighted T) → Along i x t → i < length s → x ≡ A ∷ r → M.rule A (get_or s i 0) ≡ Some m → length m.word ≤ 4 →
        (length m.word + length r ≤ 512 → y ≡ m.word ++ r) → u ≡ 𝓣.add t m.tally → Along (i + 1) y u
    along_more i A x r y t u m a l e d short put sum h =
        let was = (a h).1 in
        let size = ap length e in
        let is : y ≡ m.word ++ r = put (omega arith) in
        let long = ap length is ∙ length-append m.word r in (
          (a h).0 ∙ ap (λ r. raised 𝓣 t (ran 𝓣 M x r)) (drop_more s i 0 l) ∙ ap (λ y. raised 𝓣 t (ran 𝓣 M y (get_or s i 0 ∷ drop (i + 1) s))) e
              ∙ ap (λ o. raised 𝓣 t (onward 𝓣 (λ y. ran 𝓣 M y (drop (i + 1) s)) (behind r o))) d
              ∙ raised_raised t m.tally (ran 𝓣 M (m.word ++ r) (drop (i + 1) s))
              ∙ ap (λ z. raised 𝓣 z (ran 𝓣 M (m.word ++ r) (drop (i + 1) s))) (sym sum)
              ∙ ap (λ z. raised 𝓣 u (ran 𝓣 M z (drop (i + 1) s))) (sym is),
          omega arith,
        )

    pub along_all : (i : ℕ) (x : Word) (t : T) → Along i x t → length s ≤ i → length w + 3 * length s ≤ 512 → Some (record { word = x; tally = t }) ≡ ran 𝓣 M w s
    along_all i x t a l h =
        sym ((a h).0 ∙ ap (λ r. raised 𝓣 t (ran 𝓣 M x r)) (drop_all i s l) ∙ ap {B = Option (Weighted T)} (λ z. Some (record { word = x; tally = z })) (right 𝓣 t))
