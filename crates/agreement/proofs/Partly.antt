-- Forms put for the symbols of a word, from the last symbol on. Assumes nothing.
use Rattle.std.proofs.Common.{◌≡◌, ◌<◌, ◌≤◌, ◌+◌, length, ltb, ℕ, if◌then◌else◌, [], ◌∷◌, ◌++◌, None, sym, ap, ◌∙◌, refl, subst, ap₂, length-append, append_assoc, append-nil, lt-ltb, arith}
use Rattle.tally.specs.Group.{Group}
use Rattle.grammar.specs.Meaning.{Word, Weighted}
use Rattle.grammar.specs.WordStacks.{put_before}
use Rattle.grammar.proofs.Held.{fits}
use Rattle.rows.specs.Replacing.{Replacing, put, gain}
use Rattle.agreement.specs.Forms.{or_itself, replaced}

-- the last symbols of a word are done, and h and s are what they become, where that has room
pub record Partly {T : Type 0} (𝓣 : Group T) (N : ℕ) (ρ : Replacing T) (w rest h : Word) (s : T) : Type 0 where
  pub done : Word
  pub split : w ≡ rest ++ done
  pub word : length (put ρ done) ≤ N → h ≡ put ρ done
  pub sum : length (put ρ done) ≤ N → s ≡ gain 𝓣 ρ done

push_fits : (N A : ℕ) (h : Word) → length h < N → (if ltb (length h) N then A ∷ h else h) ≡ A ∷ h
push_fits N A h l = rw (lt-ltb (length h) N l) refl

module _ {T : Type 0} (𝓣 : Group T) (N : ℕ) (ρ : Replacing T) where
  pub partly_none : (w rest h : Word) (s : T) → rest ≡ w → h ≡ [] → s ≡ 𝓣.zero → Partly 𝓣 N ρ w rest h s
  partly_none w rest h s e f i = record { done = []; split = sym (append-nil rest ∙ e); word = λ l. f; sum = λ l. i }

  pub partly_form : (w rest rest' h h' : Word) (s s' : T) (A : ℕ) (m : Weighted T) → rest ≡ rest' ++ A ∷ [] → m ≡ ρ A →
      h' ≡ put_before N m.word h → s' ≡ 𝓣.add m.tally s → Partly 𝓣 N ρ w rest h s → Partly 𝓣 N ρ w rest' h' s'
  partly_form w rest rest' h h' s s' A m e i f g p = record {
    done = A ∷ p.done;
    split = p.split ∙ ap (λ x. x ++ p.done) e ∙ append_assoc rest' (A ∷ []) p.done;
    word = λ l.
        let k : length (ρ A).word + length (put ρ p.done) ≤ N = omega (arith, sym (length-append (ρ A).word (put ρ p.done)), l) in
        let was = p.word (omega arith) in
        f ∙ ap (λ x. put_before N x.word h) i ∙ ap (put_before N (ρ A).word) was ∙ fits N (ρ A).word (put ρ p.done) _ refl k;
    sum = λ l.
        let k : length (ρ A).word + length (put ρ p.done) ≤ N = omega (arith, sym (length-append (ρ A).word (put ρ p.done)), l) in
        g ∙ ap (λ x. 𝓣.add x.tally s) i ∙ ap (𝓣.add (ρ A).tally) (p.sum (omega arith));
  }

  -- a symbol without a form is put in front as it is
  pub partly_itself : (w rest rest' h h' : Word) (s : T) (A : ℕ) → rest ≡ rest' ++ A ∷ [] → or_itself 𝓣 A None ≡ ρ A →
      h' ≡ (if ltb (length h) N then A ∷ h else h) → Partly 𝓣 N ρ w rest h s → Partly 𝓣 N ρ w rest' h' s
  partly_itself w rest rest' h h' s A e i f p = record {
    done = A ∷ p.done;
    split = p.split ∙ ap (λ x. x ++ p.done) e ∙ append_assoc rest' (A ∷ []) p.done;
    word = λ l.
        let own : A ∷ [] ≡ (ρ A).word = ap (λ (x : Weighted T). x.word) i in
        let size : 1 ≡ length (ρ A).word = ap length own in
        let k : length (ρ A).word + length (put ρ p.done) ≤ N = omega (arith, sym (length-append (ρ A).word (put ρ p.done)), l) in
        let was = p.word (omega arith) in
        let few : length h < N = let n = ap length was in omega arith in
        f ∙ push_fits N A h few ∙ ap (λ x. A ∷ x) was ∙ ap (λ x. x ++ put ρ p.done) own;
    sum = λ l.
        let own : 𝓣.zero ≡ (ρ A).tally = ap (λ (x : Weighted T). x.tally) i in
        let k : length (ρ A).word + length (put ρ p.done) ≤ N = omega (arith, sym (length-append (ρ A).word (put ρ p.done)), l) in
        p.sum (omega arith) ∙ sym (𝓣.left (gain 𝓣 ρ p.done)) ∙ ap (λ x. 𝓣.add x (gain 𝓣 ρ p.done)) own;
  }

  -- with all symbols done
  pub partly_all : (w rest h : Word) (s : T) → length rest ≡ 0 → Partly 𝓣 N ρ w rest h s → length (put ρ w) ≤ N → (record { word = h; tally = s }) ≡ replaced 𝓣 ρ w
  partly_all w (A ∷ rest) h s e p l = absurd (omega arith)
  partly_all w [] h s e p l =
      let k : length (put ρ p.done) ≤ N = subst (λ x. length (put ρ x) ≤ N) p.split l in
      ap₂ {C = Weighted T} (λ x y. record { word = x; tally = y }) (p.word k) (p.sum k) ∙ ap (replaced 𝓣 ρ) (sym p.split)
