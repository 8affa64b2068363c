-- A workspace of a sheet, as rows come to it. Assumes nothing.
use Rattle.std.proofs.Common.{◌≡◌, ℕ, ◌<◌, ◌≤◌, ◌⊎◌, length, set, slice_get, option_map, [], ◌∷◌, Some, None, Option, sym, refl, ap, ◌∙◌, subst, inl, inr, arith}
use Rattle.std.proofs.lemmas.Bool.{cases_lt}
use Rattle.std.proofs.lemmas.Option.{slice_get_past, slice_get_cases}
use native.Mathlib.Decide.{ℕ_discrete}
use Rattle.tally.specs.Group.{Group}
use Rattle.grammar.specs.Meaning.{Word, Weighted, Below}
use Rattle.grammar.proofs.Options.{none_some, some_same}
use Rattle.rows.specs.Sheets.{Sheet, unweighed, Normal, normal_nil, normal_keep, Shaped, Ranked}
use Rattle.rows.specs.Replacing.{Replacing, put, gain, just, after, Normals, Grown}
use Rattle.rows.proofs.Normals.{normal_once, each_map, row_shaped}
use Rattle.rows.proofs.Replacing.{normal_word, short_kept, row_unused, normals_grown}
use Rattle.agreement.specs.Forms.{form_of, or_itself, puts, refilled, Passed}
use Rattle.agreement.specs.Works.{Works, Within}
use Rattle.agreement.specs.declared.form.Form.{Form}
use Rattle.agreement.specs.declared.forms.Forms.{Forms}
use Rattle.agreement.specs.declared.workspace.Workspace.{Workspace}
use Rattle.agreement.proofs.Places.{get_set_same, get_set_other}

module _ {T : Type 0} (𝓣 : Group T) where
  -- forms that stand for themselves
  pub plain_puts : (fs : Forms T) → ((A : ℕ) → A < 32 → (f : Form T 64) × (slice_get fs.forms A ≡ Some f) × (form_of f ≡ record { word = A ∷ []; tally = 𝓣.zero })) →
      (A : ℕ) → puts 𝓣 fs A ≡ record { word = A ∷ []; tally = 𝓣.zero }
  plain_puts fs h A = elim (cases_lt A 32) [
    | inl l ↦ ap (or_itself 𝓣 A) (h A l).1 ∙ (h A l).2
    | inr l ↦ ap (or_itself 𝓣 A) (slice_get_past fs.forms A (let r = fs.room in omega arith))
  ]

  -- a sheet without rows
  pub plain_works : (w : Workspace T) → ((A : ℕ) → puts 𝓣 w.forms A ≡ record { word = A ∷ []; tally = 𝓣.zero }) → Works 𝓣 (λ A. None) w
  plain_works w h = record {
    forms = λ A l. subst (λ (m : Weighted T). Normal 𝓣 (λ B. None) (A ∷ []) m.word m.tally) (sym (h A)) (normal_keep refl normal_nil);
    offsets = λ A m e. absurd (none_some e);
  }

  read_form : (A : ℕ) (o : Option (Form T 64)) (m : Weighted T) → option_map form_of o ≡ Some m → or_itself 𝓣 A o ≡ m
  read_form A None m e = absurd (none_some e)
  read_form A (Some f) m e = some_same e

  -- forms that were refilled
  pub refilled_puts : (σ : Replacing T) (old new : Forms T) → Passed 𝓣 σ old.forms new.forms 32 → (A : ℕ) → A < 32 → length (after 𝓣 σ (puts 𝓣 old) A).word ≤ 64 →
      puts 𝓣 new A ≡ after 𝓣 σ (puts 𝓣 old) A
  refilled_puts σ old new p A l = elim (slice_get_cases old.forms A).1 [
    | inl c ↦
        let is : puts 𝓣 old A ≡ form_of c.0 = ap (or_itself 𝓣 A) c.2 in
        λ room. read_form A (slice_get new.forms A) _ (p.before A c.0 l c.2 (subst (λ (m : Weighted T). length (put σ m.word) ≤ 64) is room)) ∙ ap (refilled 𝓣 σ) (sym is)
    | inr c ↦ absurd (let r = old.room in let m = c.0 in omega arith)
  ]

  module _ (n : ℕ) (norm : ℕ → ℕ) (within : Within 64 n norm) (D E : Sheet T) (ranked : Ranked n norm (unweighed E)) (A : ℕ) (m : Weighted T) (grown : Grown D A m E) where
    sh : Shaped n norm A m.word
    sh = row_shaped n norm within.positive 𝓣 E ranked A m grown.here

    pub row_symbol : A < n
    row_symbol = sh.symbol

    -- a normal form has room
    pub form_short : (C : ℕ) → C < 32 → {z : Word} {s : T} → Normal 𝓣 E (C ∷ []) z s → length z ≤ 64
    form_short C l {z} {s} f = go (E C) refl (cases_lt C n)
      where
        go : (o : Option (Weighted T)) → E C ≡ o → (C < n) ⊎ (n ≤ C) → length z ≤ 64
        go o e (inl k) = let small = within.small C k in let h = short_kept 𝓣 n norm within.positive E ranked f (k, tt) in omega arith
        go None e (inr k) = let one = ap length (normal_once 𝓣 E f (normal_keep e normal_nil)).0 in omega arith
        go (Some x) e (inr k) = let known = (row_shaped n norm within.positive 𝓣 E ranked C x e).symbol in absurd (omega arith)

    module _ (ρ : Replacing T) (normals : Normals 𝓣 D 32 ρ) where
      below32 : Below 32 m.word
      below32 = each_map (λ B l. let few = within.few in omega arith) m.word sh.below

      own : Normal 𝓣 D m.word (put ρ m.word) (gain 𝓣 ρ m.word)
      own = normal_word 𝓣 D 32 ρ normals m.word below32

      -- the normal form of the new row's word has room
      pub word_short : length (put ρ m.word) ≤ 64
      word_short =
          let small = within.small A sh.symbol in
          let weighs = sh.weighs in
          let h = short_kept 𝓣 n norm within.positive E ranked (row_unused 𝓣 n norm within.positive D E ranked A m grown own) sh.below in
          omega arith

      abbrev pub row_put : Replacing T
      row_put = just 𝓣 A (record { word = put ρ m.word; tally = 𝓣.add m.tally (gain 𝓣 ρ m.word) })

      pub all_grown : Normals 𝓣 E 32 (after 𝓣 row_put ρ)
      all_grown = normals_grown 𝓣 n norm within.positive D E ranked A m grown 32 ρ normals _ _ own

  -- a workspace with one more row
  pub grown_works : (n : ℕ) (norm : ℕ → ℕ) → Within 64 n norm → (D E : Sheet T) → Ranked n norm (unweighed E) → (A : ℕ) (m : Weighted T) → Grown D A m E →
      (w v : Workspace T) (σ : Replacing T) → Works 𝓣 D w →
      (length (put (puts 𝓣 w.forms) m.word) ≤ 64 → (C : ℕ) → σ C ≡ just 𝓣 A (record { word = put (puts 𝓣 w.forms) m.word; tally = 𝓣.add m.tally (gain 𝓣 (puts 𝓣 w.forms) m.word) }) C) →
      Passed 𝓣 σ w.forms.forms v.forms.forms 32 → v.offsets ≡ set w.offsets A m.tally → Works 𝓣 E v
  grown_works n norm within D E ranked A m grown w v σ works is passed wrote = record { forms = forms; offsets = offsets }
    where
      ρ : Replacing T
      ρ = puts 𝓣 w.forms

      row : Replacing T
      row = row_put n norm within D E ranked A m grown ρ works.forms

      same : σ ≡ row
      same = λ i C. is (word_short n norm within D E ranked A m grown ρ works.forms) C i

      forms : Normals 𝓣 E 32 (puts 𝓣 v.forms)
      forms C l =
          let f = all_grown n norm within D E ranked A m grown ρ works.forms C l in
          let room : length (after 𝓣 row ρ C).word ≤ 64 = form_short n norm within D E ranked A m grown C l f in
          let e = refilled_puts row w.forms v.forms (subst (λ (x : Replacing T). Passed 𝓣 x w.forms.forms v.forms.forms 32) same passed) C l room in
          subst (λ (x : Weighted T). Normal 𝓣 E (C ∷ []) x.word x.tally) (sym e) f

      offsets : (C : ℕ) (k : Weighted T) → E C ≡ Some k → slice_get v.offsets C ≡ Some k.tally
      offsets C k e = go (ℕ_discrete C A)
        where
          go : Dec (C ≡ A) → slice_get v.offsets C ≡ Some k.tally
          go (yes h) =
              let size : A < length w.offsets = let few = within.few in let l = (sh n norm within D E ranked A m grown).symbol in let r = w.offset_room in omega arith in
              let moved : m ≡ k = some_same (sym grown.here ∙ ap E (sym h) ∙ e) in
              ap (λ o. slice_get o C) wrote ∙ ap (slice_get (set w.offsets A m.tally)) h ∙ get_set_same w.offsets A m.tally size ∙ ap (λ (x : Weighted T). Some x.tally) moved
          go (no h) = ap (λ o. slice_get o C) wrote ∙ get_set_other w.offsets A C m.tally h ∙ works.offsets C k (sym (grown.others C h) ∙ e)
