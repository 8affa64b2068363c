-- The law of a comparer over its survey, and what a call owes for it.
--
-- The idea: a survey with a symbol is an accepted grammar with its norms and first inputs, so the law over histories speaks of it. A call then owes one step of the history, from the rows that it found to those that it leaves; it may use that the rows which it found stand, since a history led to them. Over a refused grammar there is no survey, and nothing is owed.
--
-- Assumes nothing.
use Rattle.std.proofs.Common.{◌≡◌, ℕ, ◌<◌, ◌≤◌, List, ◌∷◌, length, None, Ok, Err, Result, refl, sym, ◌∙◌, subst, arith}
use Rattle.std.specs.List.{slice_get}
use Rattle.tally.specs.Group.{Group}
use Rattle.grammar.specs.Meaning.{word_of}
use Rattle.grammar.specs.Places.{index}
use Rattle.grammar.proofs.Options.{none_some}
use Rattle.norm.proofs.Stored.{body_short}
use Rattle.rows.specs.Sheets.{View}
use Rattle.survey.specs.Refusals.{Accepted, Within}
use Rattle.survey.specs.Surveyed.{words_in, surveyed, norm_in, first_in}
use Rattle.survey.specs.WellSurveyed.{weighed_word, surveyed_closed, surveyed_wellformed}
use Rattle.survey.specs.declared.table.Survey.{Survey}
use Rattle.survey.proofs.Holding.{normed_in}
use Rattle.calls.specs.Offers.{copied}
use Rattle.calls.specs.Histories.{Event, Next, then}
use Rattle.calls.proofs.Ground.{Standing}
use Rattle.calls.proofs.Histories.{histories_law}
use Rattle.calls.proofs.Taking.{taken_stands}
use Rattle.comparer.specs.Comparers.{rows_of, has_survey, Over, Without, SameGrammar}
use Rattle.comparer.specs.Lawful.{HistoryOver, LawOver, Lawful}
use Rattle.comparer.specs.declared.comparer.Comparer.{Comparer}
use Rattle.comparer.specs.declared.desk.Desk.{Desk}
use Rattle.comparer.specs.declared.refused.Refused.{Refused}

module _ {T : Type 0} where
  -- the survey of a desk is the one that there is
  pub desk_survey : (c : Comparer T) (d : Desk T) (s : Survey T) → c.desk ≡ Ok d → Over c s → d.survey ≡ s
  desk_survey c d s e o = subst (λ (r : Result (Desk T) Refused). has_survey r s) e o

  pub desk_over : (c : Comparer T) (d : Desk T) → c.desk ≡ Ok d → Over c d.survey
  desk_over c d e = subst (λ (r : Result (Desk T) Refused). has_survey r d.survey) (sym e) refl

  -- a refused grammar has none
  pub never_over : (c : Comparer T) (r : Refused) (s : Survey T) → Without c r → ¬ Over c s
  never_over c r s e o = subst (λ (q : Result (Desk T) Refused). has_survey q s) e o

  pub never_without : (c : Comparer T) (d : Desk T) (r : Refused) → c.desk ≡ Ok d → ¬ Without c r
  never_without c d r e w = never_over c r d.survey w (desk_over c d e)

  -- a grammar that is not refused has a symbol
  pub over_some : (c : Comparer T) (s : Survey T) → Over c s → 1 ≤ s.skeleton.words.count
  over_some c s o = go c.desk o
    where
      go : (r : Result (Desk T) Refused) → has_survey r s → 1 ≤ s.skeleton.words.count
      go (Ok d) e = subst (λ (t : Survey T). 1 ≤ t.skeleton.words.count) e d.some
      go (Err r) e = absurd e

  -- with one desk there is one grammar
  pub same_desk : (c d : Comparer T) → d.desk ≡ c.desk → SameGrammar c d
  same_desk c d e = record {
    over = λ s o. subst (λ (r : Result (Desk T) Refused). has_survey r s) (sym e) o;
    without = λ r w. e ∙ w;
  }

module _ {T : Type 0} (𝓣 : Group T) (s : Survey T) where
  abbrev pub Stands : View → Type 0
  Stands = Standing 𝓣 (surveyed s) (norm_in s) (first_in s)

  abbrev pub Step : View → Event T → View → Type 0
  Step = Next 𝓣 (surveyed s) (norm_in s) (first_in s)

  -- a survey with a symbol is accepted
  pub survey_accepted : 1 ≤ s.skeleton.words.count → Accepted 32 64 𝓣 (surveyed s)
  survey_accepted some = record {
    sized = record { some = some; few = s.skeleton.words.few };
    rules = λ A a. record { short = short A a; known = surveyed_closed s A a };
    norms = within;
  }
    where
      short : (A a : ℕ) → length (word_of ((surveyed s).rule A a)) ≤ 4
      short A a =
          weighed_word (λ w. length w ≤ 4) (words_in s A a) (slice_get s.tallies (index A a)) (omega arith)
          (body_short s.skeleton.words.count s.skeleton.words.words A a)

      within : (A : ℕ) → A < s.skeleton.words.count → Within 𝓣 (surveyed s) 64 A
      within A h =
          let N = normed_in s 𝓣 in
          let l = N.size A h in
          let small = s.skeleton.small A h in
          (first_in s A, (N.first_input A h).taken, omega arith)

  module _ (some : 1 ≤ s.skeleton.words.count) (es : List (Event T)) (V : View) (h : HistoryOver 𝓣 s es V) where
    -- every history over it has the law
    pub survey_law : LawOver 𝓣 s es V
    survey_law = histories_law 𝓣 (surveyed s) (norm_in s) (first_in s) (surveyed_wellformed s) (survey_accepted some) (normed_in s 𝓣) es V h

    -- the rows that a history leads to may be rows, and prove themselves: a copy of them would be taken
    pub history_stands : Stands V
    history_stands =
        let t = survey_law.carries.taken (λ A. None) (λ A. refl) in
        let stands = (taken_stands 𝓣 (surveyed s) (norm_in s) (first_in s) (λ A. None) t.0 (copied V) (λ A w e. absurd (none_some e)) t.1).0 in
        subst (λ (U : View). Stands U) (λ i A. t.2 A i) stands

module _ {T : Type 0} (𝓣 : Group T) (c d : Comparer T) (e : Event T) where
  -- a call is lawful that keeps the grammar, and takes a step from rows that stand
  pub lawful : SameGrammar c d → ((s : Survey T) → Over c s → Stands 𝓣 s (rows_of c) → Step 𝓣 s (rows_of c) e (rows_of d)) → Lawful 𝓣 c e d
  lawful same step = record {
    same_grammar = same;
    history = on;
    law = λ s o es h. survey_law 𝓣 s (over_some c s o) (e ∷ es) (rows_of d) (on s o es h);
  }
    where
      on : (s : Survey T) → Over c s → (es : List (Event T)) → HistoryOver 𝓣 s es (rows_of c) → HistoryOver 𝓣 s (e ∷ es) (rows_of d)
      on s o es h = then h e (step s o (history_stands 𝓣 s (over_some c s o) es (rows_of c) h))

  -- so is one that leaves the desk, and the rows, as they are
  pub lawful_still : d.desk ≡ c.desk → ((A : ℕ) → rows_of d A ≡ rows_of c A) →
      ((s : Survey T) → Over c s → Stands 𝓣 s (rows_of c) → Step 𝓣 s (rows_of c) e (rows_of c)) → Lawful 𝓣 c e d
  lawful_still desk rows step =
      lawful (same_desk c d desk) (λ s o stands. subst (λ (U : View). Step 𝓣 s (rows_of c) e U) (λ i A. sym (rows A) i) (step s o stands))

  -- and one over a refused grammar
  pub lawful_without : (r : Refused) → Without c r → d.desk ≡ c.desk → Lawful 𝓣 c e d
  lawful_without r w desk = lawful (same_desk c d desk) (λ s o stands. absurd (never_over c r s w o))
