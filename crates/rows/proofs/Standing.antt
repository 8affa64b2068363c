-- The laws of rows, put together. Assumes nothing.
use Rattle.std.proofs.Common.{◌≡◌, ℕ, ◌<◌, ◌≤◌, ◌⊎◌, [], ◌∷◌, is_some, Some, None, Option, sym, refl, ap, subst, inl, inr, arith}
use Rattle.std.proofs.lemmas.Bool.{cases_lt}
use Rattle.tally.specs.Group.{Group}
use Rattle.grammar.specs.Meaning.{Word, Weighted, Meaning, Letter, WellFormed}
use Rattle.grammar.specs.Takes.{behind, step}
use Rattle.rows.specs.Sheets.{Sheet, Meets, Agrees, SelfProving}
use Rattle.rows.specs.Laws.{RowsLaw}
use Rattle.rows.proofs.Normals.{normal_once, rows_filled, ranked_total}
use Rattle.rows.proofs.Sound.{true_row, same_words}
use Rattle.rows.proofs.More.{alike_more, meets_more}
use Rattle.rows.proofs.Marks.{fewer}
use Rattle.rows.proofs.Replacing.{norm_kept, known_kept, normal_word, row_unused, normal_grown, normals_grown}

module _ {T : Type 0} (𝓣 : Group T) (M : Meaning T) (F : WellFormed M) where
  -- at a byte that is no letter there is no rule
  no_rule : (A a : ℕ) → ¬ Letter a → M.rule A a ≡ None
  no_rule A a h = go (M.rule A a) refl
    where
      go : (o : Option (Weighted T)) → M.rule A a ≡ o → M.rule A a ≡ None
      go None e = e
      go (Some m) e = absurd (h (F.lettered A a (ap is_some e)))

  no_step : (w : Word) (a : ℕ) → ¬ Letter a → step M w a ≡ None
  no_step [] a h = refl
  no_step (A ∷ r) a h = ap (behind r) (no_rule A a h)

  -- so agreement at the letters is agreement everywhere
  pub agrees_everywhere : (D : Sheet T) → SelfProving 𝓣 M D → (A : ℕ) (m : Weighted T) → D A ≡ Some m → (a : ℕ) → Agrees 𝓣 M D A m a
  agrees_everywhere D self A m e a = at (cases_lt a 65) (cases_lt 90 a)
    where
      none : ¬ Letter a → Agrees 𝓣 M D A m a
      none h = subst (λ p. Meets 𝓣 D m.tally p (step M m.word a)) (sym (no_rule A a h)) (subst (Meets 𝓣 D m.tally None) (sym (no_step m.word a h)) tt)

      at : (a < 65) ⊎ (65 ≤ a) → (90 < a) ⊎ (a ≤ 90) → Agrees 𝓣 M D A m a
      at (inl h) k = none (λ l. let x = l.0 in omega arith)
      at (inr h) (inl k) = none (λ l. let x = l.1 in omega arith)
      at (inr h) (inr k) = self A m e a (h, k)

pub rows_law : {T : Type 0} (𝓣 : Group T) → RowsLaw 𝓣
rows_law 𝓣 M norm F positive = record {
  once = λ D x z y s t f h. normal_once 𝓣 D f h;
  there = λ D r. ranked_total M.count norm positive 𝓣 D r;
  true_rows = λ D r self. true_row 𝓣 D (ranked_total M.count norm positive 𝓣 D r) M (agrees_everywhere 𝓣 M F D self) (rows_filled M.count norm positive 𝓣 D r);
  proved_same = λ D r self x y p. same_words 𝓣 D (ranked_total M.count norm positive 𝓣 D r) M (agrees_everywhere 𝓣 M F D self) (rows_filled M.count norm positive 𝓣 D r) x y p.0 p.1 p.2 p.3;
  fewer = λ D r some. fewer 𝓣 D M.count norm positive r some;
  more_agree = λ D E more r A m a h. meets_more 𝓣 D E more (ranked_total M.count norm positive 𝓣 E r) m.tally (M.rule A a) (step M m.word a) h;
  more_prove = λ D E more r x y p.
      let n = alike_more 𝓣 D E more (ranked_total M.count norm positive 𝓣 E r) x y p.0 p.1 p.1 p.2 p.3 in
      (n.0, 𝓣.add p.1 n.1, n.2, n.3);
  norm_kept = λ D r x z s f. norm_kept 𝓣 M.count norm D r f;
  below_kept = λ D r x z s f. known_kept 𝓣 M.count norm D r f;
  normal_word = λ D n ρ f x h. normal_word 𝓣 D n ρ f x h;
  row_unused = λ D E A m grown r z s f. row_unused 𝓣 M.count norm positive D E r A m grown f;
  normal_grown = λ D E A m grown z s f x y t h. normal_grown 𝓣 D E A m grown z s f h;
  normals_grown = λ D E A m grown r n ρ f z s h. normals_grown 𝓣 M.count norm positive D E r A m grown n ρ f z s h;
}
