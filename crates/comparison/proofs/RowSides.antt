-- The two sides of a row at a letter, as runs of one letter give them. Assumes nothing.
use Rattle.std.proofs.Common.{◌≡◌, ℕ, ◌+◌, ◌≤◌, length, option_map, [], ◌∷◌, Some, None, Option, refl, ap, ◌∙◌, arith}
use Rattle.tally.specs.Group.{Group}
use Rattle.grammar.specs.Meaning.{Word, Weighted, Below}
use Rattle.grammar.specs.Takes.{step}
use Rattle.norm.specs.Words.{ran, raised}
use Rattle.rows.specs.Sheets.{View}
use Rattle.survey.specs.Surveyed.{surveyed, norm_in, first_in, run_of}
use Rattle.survey.specs.declared.run.Run.{Run}
use Rattle.survey.specs.declared.table.Survey.{Survey}
use Rattle.survey.proofs.Holding.{laws_in}
use Rattle.agreement.specs.Works.{rows_over}
use Rattle.agreement.specs.Agreeing.{Ready}
use Rattle.agreement.specs.declared.workspace.Workspace.{Workspace}
use Rattle.agreement.proofs.Sides.{one_ran, behind_nothing, after_known, after_small, own_known, own_small, other_small, row_word}
use Rattle.comparison.specs.Treating.{Pair, Workable, Treats}
use Rattle.comparison.specs.Turning.{TreatsSides, both}
use Rattle.comparison.specs.declared.treatment.Treatment.{Treatment}

-- zero before a tally
raised_zero : {T : Type 0} (𝓣 : Group T) (o : Option (Weighted T)) → raised 𝓣 𝓣.zero o ≡ o
raised_zero 𝓣 None = refl
raised_zero 𝓣 (Some m) = ap (λ t. Some (record { word = m.word; tally = t })) (𝓣.left m.tally)

module _ {T : Type 0} (𝓣 : Group T) (s : Survey T) (V : View) (w : Workspace T) (ready : Ready 𝓣 s V w) (A a : ℕ) (m : Weighted T) (row : rows_over 𝓣 s V A ≡ Some m) where
  pub word_known : Below s.skeleton.words.count m.word
  word_known = (ready.ranked A m.word (row_word 𝓣 s V w ready A m row)).below

  -- the symbol's run is its rule, and the word's its step
  pub own_rule : (o : Option (Run T)) → (4 ≤ 512 → option_map run_of o ≡ ran 𝓣 (surveyed s) (A ∷ []) (a ∷ [])) → option_map run_of o ≡ (surveyed s).rule A a
  own_rule o runs = runs (omega arith) ∙ one_ran 𝓣 (surveyed s) (A ∷ []) a ∙ behind_nothing 𝓣 ((surveyed s).rule A a)

  pub other_step : (x : Word) → x ≡ m.word → (o : Option (Run T)) → (length x + 3 ≤ 512 → option_map run_of o ≡ ran 𝓣 (surveyed s) x (a ∷ [])) → option_map run_of o ≡ step (surveyed s) m.word a
  other_step x e o runs =
      let long = (laws_in s 𝓣).long_enough m.word word_known in
      let small = other_small 𝓣 s V w ready A a m row in
      let size = ap length e in
      runs (omega arith) ∙ ap (λ y. ran 𝓣 (surveyed s) y (a ∷ [])) e ∙ one_ran 𝓣 (surveyed s) m.word a

  -- the same of steps with a sum before their tallies
  own_step : step (surveyed s) (A ∷ []) a ≡ (surveyed s).rule A a
  own_step = behind_nothing 𝓣 ((surveyed s).rule A a)

  pub own_side : (t : T) → t ≡ 𝓣.zero → (o : Option (Weighted T)) → (4 ≤ 512 → o ≡ raised 𝓣 t (step (surveyed s) (A ∷ []) a)) → o ≡ (surveyed s).rule A a
  own_side t e o is = is (omega arith) ∙ ap (λ z. raised 𝓣 z (step (surveyed s) (A ∷ []) a)) e ∙ raised_zero 𝓣 (step (surveyed s) (A ∷ []) a) ∙ own_step

  pub other_side : (x : Word) → x ≡ m.word → (t : T) → t ≡ m.tally → (o : Option (Weighted T)) → (length x + 3 ≤ 512 → o ≡ raised 𝓣 t (step (surveyed s) x a)) →
      o ≡ raised 𝓣 m.tally (step (surveyed s) m.word a)
  other_side x e t f o is =
      let long = (laws_in s 𝓣).long_enough m.word word_known in
      let small = other_small 𝓣 s V w ready A a m row in
      let size = ap length e in
      is (omega arith) ∙ ap (λ y. raised 𝓣 t (step (surveyed s) y a)) e ∙ ap (λ z. raised 𝓣 z (step (surveyed s) m.word a)) f

  module _ (p q : Weighted T) (own : (surveyed s).rule A a ≡ Some p) (other : step (surveyed s) m.word a ≡ Some q) where
    abbrev pub row_pair : Pair T
    row_pair = record { one = p.word; two = q.word; before_one = p.tally; before_two = 𝓣.add m.tally q.tally }

    own_stepped : step (surveyed s) (A ∷ []) a ≡ Some p
    own_stepped = own_step ∙ own

    pub row_workable : Workable s.skeleton.words.count (norm_in s) row_pair
    row_workable = record {
      known_one = after_known 𝓣 s V w ready (A ∷ []) a p (own_known 𝓣 s V w ready A a m row) own_stepped;
      known_two = after_known 𝓣 s V w ready m.word a q word_known other;
      small_one = let h = after_small 𝓣 s V w ready (A ∷ []) a p own_stepped in let l = own_small 𝓣 s V w ready A a m row in omega arith;
      small_two = let h = after_small 𝓣 s V w ready m.word a q other in let l = other_small 𝓣 s V w ready A a m row in omega arith;
    }

    pub row_treated : (t : Treatment) → Treats 𝓣 (surveyed s) (norm_in s) (first_in s) (rows_over 𝓣 s V) row_pair t →
        TreatsSides 𝓣 (surveyed s) (norm_in s) (first_in s) (rows_over 𝓣 s V) ((surveyed s).rule A a) (raised 𝓣 m.tally (step (surveyed s) m.word a)) t
    row_treated t h = both p (record { word = q.word; tally = 𝓣.add m.tally q.tally }) own (ap (raised 𝓣 m.tally) other) h
