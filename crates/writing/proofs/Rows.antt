-- The rows that are written of a view: in a grammar that was surveyed, rows that may be rows are few and short, so they are legal; and they are found again just where the view has them.
--
-- Assumes nothing.
use Rattle.std.proofs.Common.{◌≡◌, ℕ, zero, suc, ◌<◌, ◌≤◌, [], ◌∷◌, ◌++◌, length, Some, None, Option, sym, refl, ap, ◌∙◌, subst, arith}
use Rattle.std.specs.Option.{option_map, option_to_list}
use Rattle.tally.specs.Group.{Group}
use Rattle.grammar.specs.Meaning.{Word}
use Rattle.grammar.proofs.Options.{none_some, some_same}
use Rattle.norm.specs.Norms.{norms}
use Rattle.layout.specs.Contents.{FileRow, Rising, RowAfter, LegalRow, LegalRows}
use Rattle.rows.specs.Sheets.{View, weighed, Ranked, marked}
use Rattle.sheet.specs.Rowed.{row_at}
use Rattle.survey.specs.Surveyed.{surveyed, norm_in, first_in}
use Rattle.survey.specs.declared.table.Survey.{Survey}
use Rattle.survey.proofs.Holding.{laws_in}
use Rattle.agreement.proofs.Cutting.{survey_rows}
use Rattle.calls.specs.Offers.{rows_in}
use Rattle.calls.proofs.Ground.{weighed_ranked, weighed_marked}
use Rattle.calls.proofs.Copies.{rows_number, rows_all, rows_rising, rows_whole, marked_past}

module _ {T : Type 0} (𝓣 : Group T) (s : Survey T) (some : 1 ≤ s.skeleton.words.count) (V : View) (ranked : Ranked s.skeleton.words.count (norm_in s) V) where
  pub none_above : (A : ℕ) → s.skeleton.words.count ≤ A → V A ≡ None
  none_above A l = go (V A) refl
    where
      go : (o : Option Word) → V A ≡ o → o ≡ None
      go None e = refl
      go (Some w) e = absurd (let h = (ranked A w e).symbol in omega arith)

  pub fewer_rows : marked V s.skeleton.words.count < s.skeleton.words.count
  fewer_rows =
      subst (λ k. k < s.skeleton.words.count) (weighed_marked 𝓣 (surveyed s) (first_in s) V s.skeleton.words.count)
      ((survey_rows 𝓣 s).fewer (weighed 𝓣 (surveyed s) (first_in s) V) (weighed_ranked 𝓣 (surveyed s) (first_in s) V s.skeleton.words.count (norm_in s) ranked) some)

  pub few_rows : length (rows_in V 32) ≤ 31
  few_rows =
      let n = rows_number V 32 in
      let p = marked_past V s.skeleton.words.count none_above 32 s.skeleton.words.few in
      let f = fewer_rows in
      let few = s.skeleton.words.few in
      omega arith

  row_legal : (A : ℕ) (w : Word) → V A ≡ Some w → LegalRow s.skeleton.words.count (record { symbol = A; word = w })
  row_legal A w e =
      let row = ranked A w e in
      let weighs = row.weighs in
      let small = s.skeleton.small A row.symbol in
      let positive = (laws_in s 𝓣).positive A row.symbol in
      let long = (laws_in s 𝓣).long_enough w row.below in
      record { symbol = row.symbol; filled = filled w (omega arith); short = omega arith; word = row.below }
    where
      filled : (v : Word) → 1 ≤ norms (norm_in s) v → 1 ≤ length v
      filled [] h = h
      filled (B ∷ v) h = omega arith

  pub rows_legal : LegalRows s.skeleton.words.count (rows_in V 32)
  rows_legal = record { few = few_rows; each = rows_all V (LegalRow s.skeleton.words.count) row_legal 32; rising = rows_rising V 32 }

  pub ranked_back : (A : ℕ) → row_at A (rows_in V 32) ≡ V A
  ranked_back = rows_whole V s.skeleton.words.count none_above 32 s.skeleton.words.few
