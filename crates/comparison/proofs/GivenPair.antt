-- The given words as a pair, and the rows of a view as rows of a sheet. Assumes nothing.
use Rattle.std.proofs.Common.{◌≡◌, ℕ, ◌≤◌, option_map, Some, None, refl, ap, subst, arith}
use Rattle.tally.specs.Group.{Group}
use Rattle.grammar.specs.Meaning.{Word, Weighted}
use Rattle.norm.specs.Norms.{norms}
use Rattle.rows.specs.Sheets.{View, offset}
use Rattle.survey.specs.Surveyed.{surveyed, norm_in, first_in}
use Rattle.survey.specs.declared.table.Survey.{Survey}
use Rattle.agreement.specs.Works.{rows_over}
use Rattle.agreement.specs.Agreeing.{Ready}
use Rattle.agreement.specs.declared.workspace.Workspace.{Workspace}
use Rattle.witness.specs.History as history
use Rattle.witness.proofs.Bounds.{norms_bound}
use Rattle.comparison.specs.Treating.{Workable, Treats}
use Rattle.comparison.specs.Turning.{TreatsAt, both}
use Rattle.comparison.specs.declared.origin.Origin.TheVariants.{Given}
use Rattle.comparison.specs.declared.treatment.Treatment.{Treatment}

module _ {T : Type 0} (𝓣 : Group T) (s : Survey T) (V : View) where
  pub no_row : (A : ℕ) → V A ≡ None → rows_over 𝓣 s V A ≡ None
  no_row A e = ap (option_map (λ w. record { word = w; tally = offset 𝓣 (surveyed s) (first_in s) A w })) e

  abbrev pub row_of : ℕ → Word → Weighted T
  row_of A w = record { word = w; tally = offset 𝓣 (surveyed s) (first_in s) A w }

  pub view_row : (A : ℕ) (w : Word) → V A ≡ Some w → rows_over 𝓣 s V A ≡ Some (row_of A w)
  view_row A w e = ap (option_map (λ w. record { word = w; tally = offset 𝓣 (surveyed s) (first_in s) A w })) e

  module _ (w : Workspace T) (ready : Ready 𝓣 s V w) (x y : Word) (given_x : history.Given (surveyed s) x) (given_y : history.Given (surveyed s) y) where
    pub small : (z : Word) → history.Given (surveyed s) z → norms (norm_in s) z ≤ 512
    small z h = let b = norms_bound (norm_in s) s.skeleton.words.count 64 (λ A l. s.skeleton.small A l) z h.0 in let l = h.1 in omega arith

    pub given_treated : (p q : T) → p ≡ 𝓣.zero → q ≡ 𝓣.zero → (t : Treatment) →
        ((U : View) → Ready 𝓣 s U w → Workable s.skeleton.words.count (norm_in s) (record { one = x; two = y; before_one = p; before_two = q }) →
        Treats 𝓣 (surveyed s) (norm_in s) (first_in s) (rows_over 𝓣 s U) (record { one = x; two = y; before_one = p; before_two = q }) t) →
        TreatsAt 𝓣 (surveyed s) (norm_in s) (first_in s) (rows_over 𝓣 s V) x y Given t
    given_treated p q e f t h =
        both (record { word = x; tally = 𝓣.zero }) (record { word = y; tally = 𝓣.zero }) refl refl
        (subst (λ b. Treats 𝓣 (surveyed s) (norm_in s) (first_in s) (rows_over 𝓣 s V) (record { one = x; two = y; before_one = 𝓣.zero; before_two = b }) t) f
        (subst (λ a. Treats 𝓣 (surveyed s) (norm_in s) (first_in s) (rows_over 𝓣 s V) (record { one = x; two = y; before_one = a; before_two = q }) t) e
        (h V ready (record { known_one = given_x.0; known_two = given_y.0; small_one = small x given_x; small_two = small y given_y }))))
