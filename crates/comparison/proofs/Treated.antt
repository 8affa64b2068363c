-- A pair of words over a survey, as tests of it tell. Assumes nothing.
use Rattle.std.proofs.Common.{◌≡◌, ℕ, ◌-◌, ◌^◌, ◌<◌, ◌≤◌, min, [], ◌∷◌, ◌++◌, sym, ap, ◌∙◌, subst, append-nil, inl, inr, arith}
use Rattle.std.proofs.lemmas.Bool.{cases_lt}
use Rattle.tally.specs.Group.{Group}
use Rattle.grammar.specs.Meaning.{Word, Below, Each}
use Rattle.norm.specs.Norms.{norms, Earlier}
use Rattle.norm.specs.Skeletons.{summed}
use Rattle.norm.specs.declared.skeleton.Skeleton.{Skeleton}
use Rattle.norm.proofs.Weights.{norms_append}
use Rattle.rows.specs.Sheets.{View, Normal}
use Rattle.rows.proofs.Replacing.{norm_kept, known_kept}
use Rattle.survey.specs.Surveyed.{norm_in}
use Rattle.survey.specs.declared.table.Survey.{Survey}
use Rattle.agreement.specs.Works.{rows_over}
use Rattle.agreement.specs.Agreeing.{Ready}
use Rattle.agreement.specs.declared.workspace.Workspace.{Workspace}
use Rattle.agreement.proofs.Cutting.{view_ranked, survey_within}
use Rattle.comparison.specs.Treating.{Pair, Workable, ForkAt, OneBegins}

each_right : (P : ℕ → Type 0) (x y : Word) → Each P (x ++ y) → Each P y
each_right P [] y h = h
each_right P (A ∷ x) y h = each_right P x y h.1

-- of two symbols one is earlier
pub one_earlier : (norm : ℕ → ℕ) (A B : ℕ) → ¬ (A ≡ B) → ¬ Earlier norm A B → Earlier norm B A
one_earlier norm A B ne h = elim (cases_lt (norm B) (norm A)) [
  | inl l ↦ inl l
  | inr k ↦ elim (cases_lt (norm A) (norm B)) [
    | inl l ↦ absurd (h (inl l))
    | inr j ↦
        let e : norm A ≡ norm B = omega arith in
        elim (cases_lt A B) [
          | inl l ↦ absurd (h (inr (e, l)))
          | inr m ↦ inr (sym e, (let x : B < A = omega (arith, ne) in x))
        ]
  ]
]

-- where norms are positive, a word that begins with one of its norm is that word
begins_same : (n : ℕ) (norm : ℕ → ℕ) → ((A : ℕ) → A < n → 1 ≤ norm A) → (x y r : Word) → Below n x → x ≡ y ++ r → norms norm x ≡ norms norm y → x ≡ y
begins_same n norm positive x y r known e same = go r e
  where
    go : (r : Word) → x ≡ y ++ r → x ≡ y
    go [] d = d ∙ append-nil y
    go (A ∷ r) d =
        let k = each_right (λ B. B < n) y (A ∷ r) (subst (Below n) d known) in
        let p = positive A k.0 in
        let sum = ap (norms norm) d ∙ norms_append norm y (A ∷ r) in
        absurd (omega arith)

module _ {T : Type 0} (𝓣 : Group T) (s : Survey T) where
  -- sums that were compared are the norms
  pub sums_alike : (k : Skeleton) (P : Pair T) (n j : ℕ) → Workable s.skeleton.words.count (norm_in s) P → k ≡ s.skeleton → n ≡ summed k P.one → j ≡ summed k P.two →
      (n ≡ j → norms (norm_in s) P.one ≡ norms (norm_in s) P.two) × (norms (norm_in s) P.one ≡ norms (norm_in s) P.two → n ≡ j)
  sums_alike k P n j w is one two =
      let a = w.small_one in
      let b = w.small_two in
      let n_is : n ≡ min (norms (norm_in s) P.one) (2 ^ 64 - 1) = one ∙ ap (λ h. summed h P.one) is in
      let j_is : j ≡ min (norms (norm_in s) P.two) (2 ^ 64 - 1) = two ∙ ap (λ h. summed h P.two) is in
      (λ e. omega arith, λ e. omega arith)

  module _ (V : View) (w : Workspace T) (ready : Ready 𝓣 s V w) (P : Pair T) (able : Workable s.skeleton.words.count (norm_in s) P) (even : norms (norm_in s) P.one ≡ norms (norm_in s) P.two) where
    module _ (x y : Word) (t r : T) (one : Normal 𝓣 (rows_over 𝓣 s V) P.one x t) (two : Normal 𝓣 (rows_over 𝓣 s V) P.two y r) where
      known_x : Below s.skeleton.words.count x
      known_x = known_kept 𝓣 s.skeleton.words.count (norm_in s) (rows_over 𝓣 s V) (view_ranked 𝓣 s V ready.ranked) one able.known_one

      known_y : Below s.skeleton.words.count y
      known_y = known_kept 𝓣 s.skeleton.words.count (norm_in s) (rows_over 𝓣 s V) (view_ranked 𝓣 s V ready.ranked) two able.known_two

      same_norm : norms (norm_in s) x ≡ norms (norm_in s) y
      same_norm = norm_kept 𝓣 s.skeleton.words.count (norm_in s) (rows_over 𝓣 s V) (view_ranked 𝓣 s V ready.ranked) one ∙ even
          ∙ sym (norm_kept 𝓣 s.skeleton.words.count (norm_in s) (rows_over 𝓣 s V) (view_ranked 𝓣 s V ready.ranked) two)

      -- normal forms of which one begins with the other are equal
      pub forms_same : OneBegins x y → x ≡ y
      forms_same (q, inl e) = begins_same s.skeleton.words.count (norm_in s) (survey_within 𝓣 s V).positive x y q known_x e same_norm
      forms_same (q, inr e) = sym (begins_same s.skeleton.words.count (norm_in s) (survey_within 𝓣 s V).positive y x q known_y e (sym same_norm))

      -- and the symbols of a fork are known
      pub fork_known : (A B : ℕ) → ForkAt x y A B → (A < s.skeleton.words.count) × (B < s.skeleton.words.count)
      fork_known A B f = (
        (each_right (λ C. C < s.skeleton.words.count) f.common (A ∷ f.left) (subst (Below s.skeleton.words.count) f.one known_x)).0,
        (each_right (λ C. C < s.skeleton.words.count) f.common (B ∷ f.right) (subst (Below s.skeleton.words.count) f.two known_y)).0,
      )
