-- An offer that is taken: its rows may be rows, and are added to those that were there. Assumes nothing.
use Rattle.std.proofs.Common.{◌≡◌, ℕ, ◌==◌, cond, List, [], ◌∷◌, Some, None, Option, Ok, refl, sym, ap, ◌∙◌, subst, eq-eqb, ne_eqb}
use native.Mathlib.Decide.{ℕ_discrete}
use Rattle.tally.specs.Group.{Group}
use Rattle.grammar.specs.Meaning.{Word, Input, Meaning}
use Rattle.grammar.proofs.Options.{none_some, some_same}
use Rattle.layout.specs.Contents.{FileRow, All, LegalRow}
use Rattle.rows.specs.Sheets.{View, Shaped, Ranked, Extends}
use Rattle.sheet.specs.Rowed.{row_at, over}
use Rattle.sheet.proofs.Ended.{candidates_law}
use Rattle.calls.specs.Offers.{with_rows, Pass, Offered, taken}
use Rattle.calls.specs.declared.test.Test.TheVariants.{Free, Like}
use Rattle.calls.proofs.Ground.{Standing}

-- what holds of all rows holds of the one that is found
pub row_from : (P : FileRow → Type 0) (A : ℕ) (rs : List FileRow) (w : Word) → All P rs → row_at A rs ≡ Some w → P (record { symbol = A; word = w })
row_from P A [] w h e = absurd (none_some e)
row_from P A (r ∷ rs) w h e = go (row_at A rs) refl (ℕ_discrete A r.symbol) e (λ d. row_from P A rs w h.1 d)
  where
    at : A ≡ r.symbol → r.word ≡ w → P (record { symbol = A; word = w })
    at d f = subst P (λ i. record { symbol = sym d i; word = f i }) h.0

    go : (o : Option Word) → row_at A rs ≡ o → Dec (A ≡ r.symbol) → over o (cond (A == r.symbol) (Some r.word) None) ≡ Some w → (row_at A rs ≡ Some w → P (record { symbol = A; word = w })) → P (record { symbol = A; word = w })
    go (Some v) d k f ih = ih (d ∙ f)
    go None d (yes k) f ih = at k (some_same (sym (ap (λ b. cond b (Some r.word) None) (eq-eqb A r.symbol k)) ∙ f))
    go None d (no k) f ih = absurd (none_some (sym (ap (λ b. cond b (Some r.word) None) (ne_eqb A r.symbol k)) ∙ f))

module _ {T : Type 0} (𝓣 : Group T) (M : Meaning T) (norm : ℕ → ℕ) (first : ℕ → Input) (V : View) (rs : List FileRow) where
  pub rows_ranked : Ranked M.count norm V → All (LegalRow M.count) rs → Pass 𝓣 M norm first V Like rs → Ranked M.count norm (with_rows V rs)
  rows_ranked ranked legal like A w e = go (row_at A rs) refl e
    where
      go : (o : Option Word) → row_at A rs ≡ o → over o (V A) ≡ Some w → Shaped M.count norm A w
      go None d f = ranked A w f
      go (Some v) d f =
          let row = row_from (LegalRow M.count) A rs w legal (d ∙ f) in
          let stands = like A w (d ∙ f) in
          record { symbol = row.symbol; below = row.word; weighs = stands.weighs; lower = stands.lower }

  rows_extend : Pass 𝓣 M norm first V Free rs → Extends V (with_rows V rs)
  rows_extend free A m e = go (row_at A rs) refl
    where
      go : (o : Option Word) → row_at A rs ≡ o → over o (V A) ≡ Some m
      go None d = e
      go (Some w) d = absurd (none_some (sym (free A w d) ∙ e))

  -- the rows that are there then stand, and those that were there are kept
  pub taken_stands : (bs : List ℕ) → Ranked M.count norm V → Offered 𝓣 M norm first V bs (Ok rs) → Standing 𝓣 M norm first (with_rows V rs) × Extends V (with_rows V rs)
  taken_stands bs ranked (taken _ is free like first_taken proving) =
      (record { ranked = rows_ranked ranked ((candidates_law M.count bs rs).0 is).0.each like; proving = proving }, rows_extend free)
