-- The rows of a view below a symbol, as one more is taken up. Assumes nothing.
use Rattle.std.proofs.Common.{◌≡◌, ℕ, ◌+◌, ◌<◌, ◌≤◌, cond, nat_lt, length, option_map, Some, None, Option, sym, ap, ◌∙◌, inl, inr, lt-ltb, le-ltb, length-take-le, arith}
use Rattle.std.proofs.lemmas.Bool.{cases_lt}
use Rattle.tally.specs.Group.{Group}
use Rattle.grammar.specs.Meaning.{Word, Weighted}
use Rattle.grammar.proofs.Options.{none_some}
use Rattle.norm.specs.Tabled.{held}
use Rattle.norm.specs.declared.short_word.ShortWord.{ShortWord}
use Rattle.rows.specs.Sheets.{View, Sheet, offset, weighed, unweighed, Ranked}
use Rattle.rows.specs.Replacing.{Grown}
use Rattle.sheet.specs.Rowed.{NextRow}
use Rattle.rows.specs.Laws.{RowLaws}
use Rattle.rows.proofs.Standing.{rows_law}
use Rattle.survey.specs.WellSurveyed.{surveyed_wellformed}
use Rattle.survey.specs.Surveyed.{surveyed, norm_in, first_in}
use Rattle.survey.specs.declared.table.Survey.{Survey}
use Rattle.survey.proofs.Holding.{laws_in}
use Rattle.agreement.specs.Works.{Within}

-- the rows of symbols below k
abbrev pub cut : ℕ → View → View
cut k V A = cond (nat_lt A k) (V A) None

cut_below : (k : ℕ) (V : View) (A : ℕ) → A < k → cut k V A ≡ V A
cut_below k V A l = ap (λ b. cond b (V A) None) (lt-ltb A k l)

cut_above : (k : ℕ) (V : View) (A : ℕ) → k ≤ A → cut k V A ≡ None
cut_above k V A l = ap (λ b. cond b (V A) None) (le-ltb A k l)

cut_some : (k : ℕ) (V : View) (A : ℕ) (w : Word) → cut k V A ≡ Some w → V A ≡ Some w
cut_some k V A w e = elim (cases_lt A k) [ inl l ↦ sym (cut_below k V A l) ∙ e | inr l ↦ absurd (none_some (sym (cut_above k V A l) ∙ e)) ]

-- a row without its offset
pub unwrap : {T : Type 0} (𝓣 : Group T) (s : Survey T) (A : ℕ) (w : Word) (o : Option Word) →
    option_map (λ (m : Weighted T). m.word) (option_map (λ w. record { word = w; tally = offset 𝓣 (surveyed s) (first_in s) A w }) o) ≡ Some w → o ≡ Some w
unwrap 𝓣 s A w None d = absurd (none_some d)
unwrap 𝓣 s A w (Some v) d = d

module _ {T : Type 0} (𝓣 : Group T) (s : Survey T) (V : View) where
  abbrev pub over_cut : ℕ → Sheet T
  over_cut k = weighed 𝓣 (surveyed s) (first_in s) (cut k V)

  -- no row is below 0
  pub cut_none : (λ A. None) ≡ over_cut 0
  cut_none = λ i A. ap (option_map (λ w. record { word = w; tally = offset 𝓣 (surveyed s) (first_in s) A w })) (sym (cut_above 0 V A (omega arith))) i

  -- every row is below what no row is from
  pub cut_all : (k : ℕ) → ((A : ℕ) → k ≤ A → V A ≡ None) → over_cut k ≡ weighed 𝓣 (surveyed s) (first_in s) V
  cut_all k h = λ i A. ap (option_map (λ w. record { word = w; tally = offset 𝓣 (surveyed s) (first_in s) A w })) (same A) i
    where
      same : (A : ℕ) → cut k V A ≡ V A
      same A = elim (cases_lt A k) [ inl l ↦ cut_below k V A l | inr l ↦ cut_above k V A l ∙ sym (h A l) ]

  pub survey_within : Within 64 s.skeleton.words.count (norm_in s)
  survey_within = record { few = s.skeleton.words.few; positive = λ A l. (laws_in s 𝓣).positive A l; small = λ A l. s.skeleton.small A l }

  module _ (ranked : Ranked s.skeleton.words.count (norm_in s) V) where
    pub cut_ranked : (k : ℕ) → Ranked s.skeleton.words.count (norm_in s) (unweighed (over_cut k))
    cut_ranked k A w e = ranked A w (cut_some k V A w (unwrap 𝓣 s A w (cut k V A) e))

    pub view_ranked : Ranked s.skeleton.words.count (norm_in s) (unweighed (weighed 𝓣 (surveyed s) (first_in s) V))
    view_ranked A w e = ranked A w (unwrap 𝓣 s A w (V A) e)

    -- the next row
    pub cut_grown : (k A : ℕ) (w : Word) (t : T) → NextRow V k A → V A ≡ Some w → t ≡ offset 𝓣 (surveyed s) (first_in s) A w → Grown (over_cut k) A (record { word = w; tally = t }) (over_cut (A + 1))
    cut_grown k A w t next is sum = record {
      free = ap (option_map (λ w. record { word = w; tally = offset 𝓣 (surveyed s) (first_in s) A w })) (cut_above k V A next.from);
      here = ap (option_map (λ w. record { word = w; tally = offset 𝓣 (surveyed s) (first_in s) A w })) (cut_below (A + 1) V A (omega arith) ∙ is) ∙ ap (λ x. Some (record { word = w; tally = x })) (sym sum);
      others = λ C ne. ap (option_map (λ w. record { word = w; tally = offset 𝓣 (surveyed s) (first_in s) C w })) (same C ne);
    }
      where
        same : (C : ℕ) → ¬ (C ≡ A) → cut (A + 1) V C ≡ cut k V C
        same C ne = elim (cases_lt C k) [
          | inl l ↦ let f = next.from in cut_below (A + 1) V C (omega arith) ∙ sym (cut_below k V C l)
          | inr l ↦ elim (cases_lt C A) [
            | inl b ↦ cut_below (A + 1) V C (omega arith) ∙ next.before C l b ∙ sym (cut_above k V C l)
            | inr b ↦ cut_above (A + 1) V C (let far : A < C = omega (arith, ne) in omega arith) ∙ sym (cut_above k V C l)
          ]
        ]

-- a row's word is short
pub row_short : (r : ShortWord 64) → length (held r) ≤ 64
row_short r = let l = length-take-le r.len r.symbols in let f = r.within in let m = r.room in omega arith

-- the laws of rows in the grammar of a survey
pub survey_rows : {T : Type 0} (𝓣 : Group T) (s : Survey T) → RowLaws 𝓣 (surveyed s) (norm_in s)
survey_rows 𝓣 s = rows_law 𝓣 (surveyed s) (norm_in s) (surveyed_wellformed s) (λ A l. (laws_in s 𝓣).positive A l)
