-- A row that is told, with its offset, is that of the sheet; a norm that is told is that of the survey. Assumes nothing.
use Rattle.std.proofs.Common.{◌≡◌, ℕ, ◌<◌, ◌≤◌, length, List, Some, None, Option, if◌then◌else◌, nat_lt, lt-ltb, le-ltb, Ok, Result, sym, ap, ap₂, subst, ◌∙◌, arith, length-take}
use Rattle.std.specs.Option.{option_map}
use Rattle.std.specs.Borrow.{Bor}
use Rattle.tally.specs.Group.{Group}
use Rattle.grammar.specs.Meaning.{Word, Weighted}
use Rattle.norm.specs.Tabled.{held}
use Rattle.norm.specs.declared.short_word.ShortWord.{ShortWord}
use Rattle.rows.specs.Sheets.{Ranked, weighed, offset}
use Rattle.survey.specs.Surveyed.{surveyed, norm_in, first_in}
use Rattle.survey.specs.declared.table.Survey.{Survey}
use Rattle.norm.specs.Skeletons.{norm_at}
use Rattle.norm.specs.declared.skeleton.Skeleton.{Skeleton}
use Rattle.comparer.specs.Comparers.{rows_of, has_survey, Over, row_read}
use Rattle.comparer.specs.declared.comparer.Comparer.{Comparer}
use Rattle.comparer.specs.declared.desk.Desk.{Desk}
use Rattle.comparer.specs.declared.refused.Refused.{Refused}

held_short : (x : ShortWord 64) → length (held x) ≤ 64
held_short x = omega (arith, length-take x.len x.symbols, x.within, x.room)

pub row_told : {T : Type 0} (𝓣 : Group T) (c : Comparer T) (d : Desk T) → c.desk ≡ Ok d → (A : ℕ) (x : ShortWord 64) (w : Bor (List ℕ)) (t : T) → rows_of c A ≡ Some (held x) → w.now ≡ held x →
    (A < d.survey.skeleton.words.count → length w.now ≤ 64 → t ≡ offset 𝓣 (surveyed d.survey) (first_in d.survey) A w.now) →
    (s : Survey T) → Over c s → Ranked s.skeleton.words.count (norm_in s) (rows_of c) → ◌≡◌ {A = Option (Weighted T)} (Some (row_read (w, t))) (weighed 𝓣 (surveyed s) (first_in s) (rows_of c) A)
row_told {T} 𝓣 c d e A x w t there word told s over ranked =
    let same : d.survey ≡ s = subst (λ (r : Result (Desk T) Refused). has_survey r s) e over in
    let below = (ranked A (held x) there).symbol in
    let tally = told (subst (λ (r : Survey T). A < r.skeleton.words.count) (sym same) below) (subst (λ (v : Word). length v ≤ 64) (sym word) (held_short x)) in
    ap₂ {C = Option (Weighted T)} (λ (v : Word) (y : T). Some (record { word = v; tally = y })) word (tally ∙ ap (λ (v : Word). offset 𝓣 (surveyed d.survey) (first_in d.survey) A v) word ∙ ap (λ (r : Survey T). offset 𝓣 (surveyed r) (first_in r) A (held x)) same)
    ∙ ap (λ (q : Option Word). option_map (λ v. record { word = v; tally = offset 𝓣 (surveyed s) (first_in s) A v }) q) (sym there)

module _ {T : Type 0} (c : Comparer T) (d : Desk T) (e : c.desk ≡ Ok d) (A k : ℕ) (count : k ≡ d.survey.skeleton.words.count) where
  -- the norm of a symbol, over a survey
  abbrev told_in : Survey T → Option ℕ
  told_in s = if nat_lt A s.skeleton.words.count then Some (norm_in s A) else None

  same_told : (s : Survey T) → Over c s → told_in d.survey ≡ told_in s
  same_told s over = ap told_in (subst (λ (r : Result (Desk T) Refused). has_survey r s) e over)

  pub no_norm : k ≤ A → (s : Survey T) → Over c s → None ≡ told_in s
  no_norm l s over = sym (ap (λ b. if b then Some (norm_in d.survey A) else None) (le-ltb A d.survey.skeleton.words.count (omega (arith, l, count)))) ∙ same_told s over

  pub norm_told : A < k → (n : ℕ) (x : Skeleton) → x ≡ d.survey.skeleton → n ≡ norm_at x A → (s : Survey T) → Over c s → Some n ≡ told_in s
  norm_told l n x is norm s over =
      ap {B = Option ℕ} Some (norm ∙ ap (λ (y : Skeleton). norm_at y A) is) ∙ sym (ap (λ b. if b then Some (norm_in d.survey A) else None) (lt-ltb A d.survey.skeleton.words.count (omega (arith, l, count)))) ∙ same_told s over
