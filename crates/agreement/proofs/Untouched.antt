-- Forms that are refilled only where they name the symbol that something else is put for. Assumes nothing.
use Rattle.std.proofs.Common.{◌≡◌, ℕ, ◌<◌, ◌≤◌, ◌+◌, ◌||◌, ◌==◌, cond, Bool, true, false, List, length, set, get_or, slice_get, option_map, [], ◌∷◌, ◌++◌, Some, sym, refl, ap, ap₂, ◌∙◌, subst, length-set, arith}
use Rattle.std.specs.List.{list_any}
use Rattle.std.proofs.Math.Dec.{eqb}
use Rattle.std.proofs.lemmas.Bool.{eq-eqb, ne_eqb}
use Rattle.std.proofs.lemmas.Option.{slice_get-get_or}
use native.Mathlib.Decide.{ℕ_discrete}
use Rattle.tally.specs.Group.{Group}
use Rattle.grammar.specs.Meaning.{Word, Weighted}
use Rattle.grammar.proofs.Options.{some_same}
use Rattle.rows.specs.Replacing.{Replacing, put}
use Rattle.agreement.specs.Forms.{form_of, replaced, refilled, IsItselfBut, Passed}
use Rattle.agreement.specs.declared.form.Form.{Form}
use Rattle.agreement.proofs.Places.{get_set_same, get_set_other}

module _ {T : Type 0} (𝓣 : Group T) (A : ℕ) (σ : Replacing T) where
  -- forms that were plain, with one set for the symbol
  pub one_set : (ρ : Replacing T) (m : Weighted T) → ((C : ℕ) → ρ C ≡ record { word = C ∷ []; tally = 𝓣.zero }) →
      ((C : ℕ) → σ C ≡ cond (C == A) m (ρ C)) → IsItselfBut 𝓣 A σ
  one_set ρ m plain set C h = set C ∙ ap (λ b. cond b m (ρ C)) (ne_eqb C A h) ∙ plain C

  -- a word that does not name the symbol stays, with nothing to add
  pub replaced_absent : IsItselfBut 𝓣 A σ → (w : Word) → list_any (λ y. eqb y A) w ≡ false → replaced 𝓣 σ w ≡ record { word = w; tally = 𝓣.zero }
  replaced_absent but [] e = refl
  replaced_absent but (C ∷ w) e = go (eqb C A) refl e (replaced_absent but w)
    where
      go : (b : Bool) → eqb C A ≡ b → (b || list_any (λ y. eqb y A) w) ≡ false →
          (list_any (λ y. eqb y A) w ≡ false → replaced 𝓣 σ w ≡ record { word = w; tally = 𝓣.zero }) → replaced 𝓣 σ (C ∷ w) ≡ record { word = C ∷ w; tally = 𝓣.zero }
      go true h k rest = absurd (let z : true ≡ false = k in cc)
      go false h k rest =
          ap₂ {C = Weighted T} (λ x y. record { word = x.word ++ y.word; tally = 𝓣.add x.tally y.tally }) (but C (λ q. let z : true ≡ false = sym (eq-eqb C A q) ∙ h in cc)) (rest k)
          ∙ ap {B = Weighted T} (λ s. record { word = C ∷ w; tally = s }) (𝓣.left 𝓣.zero)

  -- such a form is refilled to itself
  pub refilled_absent : IsItselfBut 𝓣 A σ → (m : Weighted T) → list_any (λ y. eqb y A) m.word ≡ false → refilled 𝓣 σ m ≡ m
  refilled_absent but m e =
      ap {B = Weighted T} (λ (x : Weighted T). record { word = x.word; tally = 𝓣.add m.tally x.tally }) (replaced_absent but m.word e)
      ∙ ap {B = Weighted T} (λ s. record { word = m.word; tally = s }) (𝓣.comm m.tally 𝓣.zero ∙ 𝓣.left m.tally)

  -- the first k forms are passed, if only the symbol has something else
  abbrev pub PassedTo : List (Form T 64) → List (Form T 64) → ℕ → Type 0
  PassedTo os ns k = (length ns ≡ length os) × (IsItselfBut 𝓣 A σ → Passed 𝓣 σ os ns k)

  module _ (os ns ms : List (Form T 64)) (k : ℕ) (d g : Form T 64) (small : k < length os) (p : PassedTo os ns k) (e : ms ≡ set ns k g) where
    size : k < length ns
    size = let l = p.0 in omega arith

    passed_next : (length (put σ (form_of (get_or ns k d)).word) ≤ 64 → form_of g ≡ refilled 𝓣 σ (form_of (get_or ns k d))) →
        Passed 𝓣 σ os ns k → Passed 𝓣 σ os (set ns k g) (k + 1)
    passed_next is q = record { long = length-set ns k g ∙ q.long; before = before; behind = behind }
      where
        here : (f : Form T 64) → slice_get os k ≡ Some f → get_or ns k d ≡ f
        here f e = some_same (sym (slice_get-get_or ns k d size) ∙ q.behind k (omega arith) ∙ e)

        before : (B : ℕ) (f : Form T 64) → B < k + 1 → slice_get os B ≡ Some f → length (put σ (form_of f).word) ≤ 64 →
            option_map form_of (slice_get (set ns k g) B) ≡ Some (refilled 𝓣 σ (form_of f))
        before B f l e room = go (ℕ_discrete B k)
          where
            go : Dec (B ≡ k) → option_map form_of (slice_get (set ns k g) B) ≡ Some (refilled 𝓣 σ (form_of f))
            go (yes h) =
                let same = here f (ap (slice_get os) (sym h) ∙ e) in
                ap (λ j. option_map form_of (slice_get (set ns k g) j)) h ∙ ap (option_map form_of) (get_set_same ns k g size)
                ∙ ap Some (is (subst (λ x. length (put σ (form_of x).word) ≤ 64) (sym same) room) ∙ ap (λ x. refilled 𝓣 σ (form_of x)) same)
            go (no h) = ap (option_map form_of) (get_set_other ns k B g h) ∙ q.before B f (omega (arith, h)) e room

        behind : (B : ℕ) → k + 1 ≤ B → slice_get (set ns k g) B ≡ slice_get os B
        behind B l = get_set_other ns k B g (λ h. omega arith) ∙ q.behind B (omega arith)

    -- one form more is refilled
    pub form_refilled : (IsItselfBut 𝓣 A σ → length (put σ (form_of (get_or ns k d)).word) ≤ 64 → form_of g ≡ refilled 𝓣 σ (form_of (get_or ns k d))) → PassedTo os ms (k + 1)
    form_refilled is = (ap length e ∙ length-set ns k g ∙ p.0, λ but. subst (λ x. Passed 𝓣 σ os x (k + 1)) (sym e) (passed_next (is but) (p.1 but)))

    -- one form more does not name the symbol, and is left
    pub form_left : g ≡ get_or ns k d → list_any (λ y. eqb y A) (form_of (get_or ns k d)).word ≡ false → PassedTo os ms (k + 1)
    form_left same h = form_refilled (λ but room. ap form_of same ∙ sym (refilled_absent but (form_of (get_or ns k d)) h))
