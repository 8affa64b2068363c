-- An offer: from the tests of its rows to the rows that stand then, and the step of a history that it is. Assumes nothing.
use Rattle.std.proofs.Common.{◌≡◌, ℕ, ◌<◌, ◌≤◌, List, Ok, Err, Result, refl, sym, ap, ◌∙◌, subst}
use Rattle.tally.specs.Group.{Group}
use Rattle.grammar.specs.Meaning.{Word}
use Rattle.layout.specs.Contents.{FileRow, LegalRow, LegalRows}
use Rattle.layout.specs.declared.fault.Fault.{Fault}
use Rattle.rows.specs.Sheets.{View, SelfProving, Ranked}
use Rattle.sheet.specs.Rowed.{shows, row_at, over}
use Rattle.sheet.specs.Candidates.{candidates, Offers}
use Rattle.sheet.specs.declared.sheet.Sheet.{Sheet}
use Rattle.sheet.proofs.Ended.{candidates_law}
use Rattle.survey.specs.Surveyed.{surveyed, norm_in, first_in}
use Rattle.survey.specs.declared.table.Survey.{Survey}
use Rattle.agreement.specs.Works.{rows_over, Works}
use Rattle.agreement.specs.Agreeing.{Ready, FirstWrong}
use Rattle.agreement.specs.declared.agreeing.Disagreement.{Disagreement}
use Rattle.agreement.specs.declared.workspace.Workspace.{Workspace}
use Rattle.calls.specs.Offers.{with_rows, rows_at, AllOf, FirstOf, fault_of, Passes, Pass, FailsFirst, Offered, malformed, marked, unlike, misses, disagrees, taken}
use Rattle.calls.specs.Histories.{offered, offer_refused, offer_taken}
use Rattle.calls.specs.declared.test.Test.{Test}
use Rattle.calls.specs.declared.test.Test.TheVariants.{Free, Like, TakesFirst}
use Rattle.calls.specs.declared.fault.CallFault.{CallFault}
use Rattle.calls.specs.declared.fault.CallFault.TheVariants.{File, Disagrees}
use Rattle.calls.proofs.Taking.{row_from, rows_ranked}
use Rattle.comparer.specs.Comparers.{rows_of, has_survey, Over, rows_read, offering, after_offer, sheet_after}
use Rattle.comparer.specs.Lawful.{Lawful}
use Rattle.comparer.specs.declared.comparer.Comparer.{Comparer}
use Rattle.comparer.specs.declared.desk.Desk.{Desk}
use Rattle.comparer.specs.declared.refused.Refused.{Refused}
use Rattle.comparer.proofs.Lawfulness.{Step, desk_survey, same_desk, lawful}

-- The rows rs are offered, and read as the view U, to the rows of V.
module _ {T : Type 0} (𝓣 : Group T) (s : Survey T) (V U : View) (bs : List ℕ) (rs : List FileRow) (is : candidates s.skeleton.words.count bs ≡ Ok rs) (same : (A : ℕ) → U A ≡ row_at A rs) where
  abbrev Fits : Test → ℕ → Word → Type 0
  Fits t = Passes 𝓣 (surveyed s) (norm_in s) (first_in s) V t

  -- a row does not pass the test, and those before it do
  abbrev Fails : Test → CallFault → Type 0
  Fails t f = (A : ℕ) × (f ≡ fault_of t A) × FirstOf (λ B w. ¬ Fits t B w) U A

  legal : LegalRows s.skeleton.words.count rs
  legal = ((candidates_law s.skeleton.words.count bs rs).0 is).0

  rows_path : U ≡ rows_at rs
  rows_path = λ i A. same A i

  -- their symbols are the grammar's
  pub known : AllOf (λ A w. A < s.skeleton.words.count) U
  known A w e = (row_from (LegalRow s.skeleton.words.count) A rs w legal.each (sym (same A) ∙ e)).symbol

  pass : (t : Test) → AllOf (Fits t) U → Pass 𝓣 (surveyed s) (norm_in s) (first_in s) V t rs
  pass t h = subst (AllOf (Fits t)) rows_path h

  fail : (t : Test) (A : ℕ) → FirstOf (λ B w. ¬ Fits t B w) U A → FailsFirst 𝓣 (surveyed s) (norm_in s) (first_in s) V t rs A
  fail t A h = subst (λ (W : View). FirstOf (λ B w. ¬ Fits t B w) W A) rows_path h

  refused : (f g : CallFault) → f ≡ g → Offered 𝓣 (surveyed s) (norm_in s) (first_in s) V bs (Err g) → after_offer 𝓣 s V bs (Err f) V
  refused f g e o = (subst (λ (h : CallFault). Offered 𝓣 (surveyed s) (norm_in s) (first_in s) V bs (Err h)) (sym e) o, λ A. refl)

  -- the first row that does not pass its test is the fault
  pub not_free : (f : CallFault) → Fails Free f → after_offer 𝓣 s V bs (Err f) V
  not_free f (A, e, h) = refused f (fault_of Free A) e (marked rs A is (fail Free A h))

  module _ (free : AllOf (Fits Free) U) where
    pub not_like : (f : CallFault) → Fails Like f → after_offer 𝓣 s V bs (Err f) V
    not_like f (A, e, h) = refused f (fault_of Like A) e (unlike rs A is (pass Free free) (fail Like A h))

    module _ (like : AllOf (Fits Like) U) where
      pub not_taking : (f : CallFault) → Fails TakesFirst f → after_offer 𝓣 s V bs (Err f) V
      not_taking f (A, e, h) = refused f (fault_of TakesFirst A) e (misses rs A is (pass Free free) (pass Like like) (fail TakesFirst A h))

      -- all pass: W are the rows of V with those of U
      module _ (takes : AllOf (Fits TakesFirst) U) (ranked : Ranked s.skeleton.words.count (norm_in s) V) (W : View) (grown : (A : ℕ) → W A ≡ over (U A) (V A)) where
        with_path : (A : ℕ) → W A ≡ with_rows V rs A
        with_path A = grown A ∙ ap (λ o. over o (V A)) (same A)

        trial_ranked : Ranked s.skeleton.words.count (norm_in s) W
        trial_ranked =
            subst (Ranked s.skeleton.words.count (norm_in s)) (λ i A. sym (with_path A) i)
            (rows_ranked 𝓣 (surveyed s) (norm_in s) (first_in s) V rs ranked legal.each (pass Like like))

        -- what is told over W, as lent twice, with a workspace for it
        pub trial_told : (w : Workspace T) (X Y : View) → ((A : ℕ) → X A ≡ W A) → ((A : ℕ) → Y A ≡ W A) →
            (Ranked s.skeleton.words.count (norm_in s) X → Works 𝓣 (rows_over 𝓣 s X) w) → (P : View → Type 0) → (Ready 𝓣 s Y w → P Y) → P (with_rows V rs)
        trial_told w X Y x y works P tell =
            let ready : Ready 𝓣 s W w = record {
              ranked = trial_ranked;
              works = subst (λ (Z : View). Works 𝓣 (rows_over 𝓣 s Z) w) (λ i A. x A i) (works (subst (Ranked s.skeleton.words.count (norm_in s)) (λ i A. sym (x A) i) trial_ranked));
            } in
            subst P (λ i A. (y A ∙ with_path A) i) (tell (subst (λ (Z : View). Ready 𝓣 s Z w) (λ i A. sym (y A) i) ready))

        pub not_agreeing : (d : Disagreement) → FirstWrong 𝓣 (surveyed s) (rows_over 𝓣 s (with_rows V rs)) d.symbol d.letter → after_offer 𝓣 s V bs (Err (Disagrees d)) V
        not_agreeing d wrong = refused (Disagrees d) (Disagrees d) refl (disagrees rs d is (pass Free free) (pass Like like) (pass TakesFirst takes) wrong)

        pub all_agreeing : SelfProving 𝓣 (surveyed s) (rows_over 𝓣 s (with_rows V rs)) → after_offer 𝓣 s V bs (Ok tt) W
        all_agreeing proving = (rs, taken rs is (pass Free free) (pass Like like) (pass TakesFirst takes) proving, with_path)

-- a trial over the survey of a desk is one over the comparer's, and over its rows, as they are lent
pub trial_over : {T : Type 0} (𝓣 : Group T) (c : Comparer T) (d : Desk T) → c.desk ≡ Ok d → (X U : View) → ((A : ℕ) → X A ≡ rows_of c A) → (bs : List ℕ) (rs : List FileRow) (r : Result Sheet CallFault) →
    (candidates d.survey.skeleton.words.count bs ≡ Ok rs → ((A : ℕ) → U A ≡ row_at A rs) → Ranked d.survey.skeleton.words.count (norm_in d.survey) X → sheet_after 𝓣 d.survey X bs r) →
    (s : Survey T) → Over c s → candidates s.skeleton.words.count bs ≡ Ok rs → ((A : ℕ) → U A ≡ row_at A rs) → Ranked s.skeleton.words.count (norm_in s) (rows_of c) → sheet_after 𝓣 s (rows_of c) bs r
trial_over {T} 𝓣 c d is X U x bs rs r tell s o read rows ranked =
    let same : d.survey ≡ s = desk_survey c d s is o in
    let lent = subst (λ (V : View). Ranked d.survey.skeleton.words.count (norm_in d.survey) V) (λ i A. sym (x A) i)
    (subst (λ (q : Survey T). Ranked q.skeleton.words.count (norm_in q) (rows_of c)) (sym same) ranked) in
    subst (λ (q : Survey T). sheet_after 𝓣 q (rows_of c) bs r) same
    (subst (λ (V : View). sheet_after 𝓣 d.survey V bs r) (λ i A. x A i)
    (tell (subst (λ (q : Survey T). candidates q.skeleton.words.count bs ≡ Ok rs) (sym same) read) rows lent))

-- what is told of rows that are offered is told of those that were read
pub offer_read : {T : Type 0} (s : Survey T) (bs : List ℕ) (n : ℕ) → n ≡ s.skeleton.words.count → (t : Sheet) → Offers n (candidates n bs) (Ok t) → (U : View) → ((A : ℕ) → U A ≡ shows t A) → (P : Type 0) →
    ((rs : List FileRow) → candidates s.skeleton.words.count bs ≡ Ok rs → ((A : ℕ) → U A ≡ row_at A rs) → P) → P
offer_read s bs n e t offers U u P tell =
    tell offers.0 (subst (λ k. candidates k bs ≡ Ok offers.0) e offers.1) (λ A. u A ∙ offers.2 (subst (λ k. k ≤ 32) (sym e) s.skeleton.words.few) A)

-- bytes that are no rows of the grammar
pub malformed_offer : {T : Type 0} (𝓣 : Group T) (s : Survey T) (V : View) (bs : List ℕ) (n : ℕ) (f : Fault) → n ≡ s.skeleton.words.count → candidates n bs ≡ Err f →
    after_offer 𝓣 s V bs (Err (File f)) V
malformed_offer 𝓣 s V bs n f e is = (malformed f (subst (λ k. candidates k bs ≡ Err f) e is), λ A. refl)

module _ {T : Type 0} (𝓣 : Group T) (s : Survey T) (V W : View) (bs : List ℕ) where
  -- the rows that were read are those that were taken
  taken_read : (rs : List FileRow) → Offered 𝓣 (surveyed s) (norm_in s) (first_in s) V bs (Ok rs) → rows_read (candidates s.skeleton.words.count bs) ≡ rs
  taken_read rs (taken _ is free like takes proving) = ap rows_read is

  -- a history goes on with the offer
  offer_step : (r : Result (Unit {0}) CallFault) → after_offer 𝓣 s V bs r W → Step 𝓣 s V (offering s.skeleton.words.count bs r) W
  offer_step (Ok u) (rs, o, same) = subst (λ (xs : List FileRow). Step 𝓣 s V (offered bs (Ok xs)) W) (sym (taken_read rs o)) (offer_taken bs rs W o same)
  offer_step (Err f) (o, same) = offer_refused bs f W o same

module _ {T : Type 0} (𝓣 : Group T) (c d : Comparer T) (bs : List ℕ) (r : Result (Unit {0}) CallFault) where
  -- there is one survey
  one_survey : (s t : Survey T) → Over c s → Over c t → s ≡ t
  one_survey s t o p = go c.desk o p
    where
      go : (q : Result (Desk T) Refused) → has_survey q s → has_survey q t → s ≡ t
      go (Ok d) e f = sym e ∙ f
      go (Err r) e f = absurd e

  -- what an offer comes to is lawful
  pub offer_lawful : d.desk ≡ c.desk → ((s : Survey T) → Over c s → Ranked s.skeleton.words.count (norm_in s) (rows_of c) → after_offer 𝓣 s (rows_of c) bs r (rows_of d)) →
      (n : ℕ) (s : Survey T) → Over c s → n ≡ s.skeleton.words.count → Lawful 𝓣 c (offering n bs r) d
  offer_lawful desk come n s o e =
      lawful 𝓣 c d (offering n bs r) (same_desk c d desk)
      (λ t p stands.
      subst (λ k. Step 𝓣 t (rows_of c) (offering k bs r) (rows_of d)) (ap (λ (u : Survey T). u.skeleton.words.count) (one_survey t s p o) ∙ sym e)
      (offer_step 𝓣 t (rows_of c) (rows_of d) bs r (come t p stands.ranked)))
