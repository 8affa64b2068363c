-- The law of written files over a survey; and a comparer without rows over it takes the rows of the file. Assumes nothing.
use Rattle.std.proofs.Common.{◌≡◌, ℕ, ◌≤◌, List, [], ◌∷◌, length, Some, None, Option, Ok, sym, refl, ap, ◌∙◌, subst, inl, inr, arith}
use Rattle.std.proofs.lemmas.Bool.{cases_lt}
use Rattle.std.specs.List.{slice_get}
use Rattle.tally.specs.Group.{Group}
use Rattle.grammar.specs.Places.{index}
use Rattle.grammar.specs.Meaning.{Word}
use Rattle.grammar.proofs.Options.{none_some}
use Rattle.norm.proofs.Stored.{body_short}
use Rattle.layout.specs.Contents.{FileRow}
use Rattle.layout.proofs.Steps.{ok_same}
use Rattle.format.specs.Kinds.{Lossless}
use Rattle.rows.specs.Sheets.{View, Ranked}
use Rattle.sheet.proofs.Ended.{candidates_law}
use Rattle.survey.specs.Refusals.{Fine}
use Rattle.survey.specs.Surveyed.{words_in, surveyed, norm_in, first_in}
use Rattle.survey.specs.WellSurveyed.{weighed_word, surveyed_closed, surveyed_wellformed}
use Rattle.survey.specs.declared.table.Survey.{Survey}
use Rattle.survey.proofs.Holding.{normed_in, laws_in}
use Rattle.agreement.proofs.Cutting.{survey_rows}
use Rattle.calls.specs.Refusals.{first_of}
use Rattle.calls.specs.Offers.{with_rows, rows_in, copied, Offered, taken}
use Rattle.calls.proofs.Ground.{Ground, Standing}
use Rattle.calls.proofs.Copies.{carries}
use Rattle.writing.specs.Files.{file_faults, file_of}
use Rattle.writing.specs.Laws.{FileLaw, Taken}
use Rattle.writing.proofs.Names.{unrefused}
use Rattle.writing.proofs.Rows.{rows_legal, ranked_back}
use Rattle.writing.proofs.Law.{file_law}

module _ {T : Type 0} (𝓣 : Group T) (s : Survey T) (some : 1 ≤ s.skeleton.words.count) where
  -- the rules of a survey are fine
  fine_in : (A a : ℕ) → Fine s.skeleton.words.count (surveyed s) A a
  fine_in A a = record {
    short = weighed_word (λ w. length w ≤ 4) (words_in s A a) (slice_get s.tallies (index A a)) (omega arith) (body_short s.skeleton.words.count s.skeleton.words.words A a);
    known = surveyed_closed s A a;
  }

  ground_in : Ground 𝓣 (surveyed s) (norm_in s) (first_in s)
  ground_in = record {
    some = some;
    few = s.skeleton.words.few;
    small = s.skeleton.small;
    closed = surveyed_closed s;
    taken = λ A l. ((normed_in s 𝓣).first_input A l).taken;
    norm_laws = laws_in s 𝓣;
    row_laws = survey_rows 𝓣 s;
  }

  pub survey_law : (ks : List ℕ) (numbers : T → List ℕ) (made : ℕ → ℕ → T) → Lossless ks numbers made → (V : View) (names : List ℕ) → Ranked s.skeleton.words.count (norm_in s) V →
      first_of (file_faults s.skeleton.words.count ks names) ≡ None → FileLaw names ks made (surveyed s) V (file_of names ks numbers (surveyed s) V)
  survey_law ks numbers made lossless V names ranked e =
      file_law names ks numbers made lossless (surveyed s) V (surveyed_wellformed s) fine_in s.skeleton.words.few
      (unrefused s.skeleton.words.count ks names some s.skeleton.words.few e) (rows_legal 𝓣 s some V ranked) (ranked_back 𝓣 s some V ranked)

  some_taken : (ks : List ℕ) (numbers : T → List ℕ) (V : View) (names : List ℕ) → Standing 𝓣 (surveyed s) (norm_in s) (first_in s) V →
      Taken 𝓣 (surveyed s) (norm_in s) (first_in s) V (file_of names ks numbers (surveyed s) V)
  some_taken ks numbers V names stands =
      let t = (carries 𝓣 (surveyed s) (norm_in s) (first_in s) ground_in V stands).taken (λ A. None) (λ A. refl) in
      at t.0 t.1 t.2
    where
      at : (rs : List FileRow) → Offered 𝓣 (surveyed s) (norm_in s) (first_in s) (λ A. None) (copied V) (Ok rs) → ((A : ℕ) → with_rows (λ A. None) rs A ≡ V A) →
          Taken 𝓣 (surveyed s) (norm_in s) (first_in s) V (file_of names ks numbers (surveyed s) V)
      at rs offered same =
          let e : rs ≡ rows_in V 32 = is_copy offered in
          record {
            offered = subst (λ (qs : List FileRow). Offered 𝓣 (surveyed s) (norm_in s) (first_in s) (λ A. None) (copied V) (Ok qs)) e offered;
            rows = λ A. ap (λ (qs : List FileRow). with_rows (λ A. None) qs A) (sym e) ∙ same A;
          }
        where
          is_copy : Offered 𝓣 (surveyed s) (norm_in s) (first_in s) (λ A. None) (copied V) (Ok rs) → rs ≡ rows_in V 32
          is_copy (taken _ is free like first_taken proving) =
              ok_same (sym is ∙ (candidates_law s.skeleton.words.count (copied V) (rows_in V 32)).1 (rows_legal 𝓣 s some V stands.ranked, refl))

module _ {T : Type 0} (𝓣 : Group T) (s : Survey T) (ks : List ℕ) (numbers : T → List ℕ) (names : List ℕ) where
  abbrev Takes : View → Type 0
  Takes V = Standing 𝓣 (surveyed s) (norm_in s) (first_in s) V → Taken 𝓣 (surveyed s) (norm_in s) (first_in s) V (file_of names ks numbers (surveyed s) V)

  -- no rows are taken
  none_taken : Takes (λ A. None)
  none_taken stands = record {
    offered = taken [] ((candidates_law s.skeleton.words.count (0 ∷ []) []).1 (record { few = omega arith; each = tt; rising = tt }, refl)) (λ A w e. refl) (λ A w e. absurd (none_some e)) (λ A w e. absurd (none_some e)) stands.proving;
    rows = λ A. refl;
  }

  -- without symbols there are no rows
  pub survey_taken : (V : View) → Takes V
  survey_taken V stands = elim (cases_lt 0 s.skeleton.words.count) [
    | inl l ↦ some_taken 𝓣 s (omega arith) ks numbers V names stands
    | inr l ↦ subst Takes (λ i A. sym (free l A (V A) refl) i) none_taken stands
  ]
    where
      free : s.skeleton.words.count ≤ 0 → (A : ℕ) (o : Option Word) → V A ≡ o → V A ≡ None
      free l A None e = e
      free l A (Some w) e = absurd (let h = (stands.ranked A w e).symbol in omega arith)
