-- A new comparer over the grammar of a file, which is offered the file's rows.
--
-- The idea: the rows of legal contents are read back from their bytes. So over a refused grammar the offer is refused for the grammar, and where the offer is taken, these rows are.
--
-- Assumes nothing.
use Rattle.std.proofs.Common.{◌≡◌, ℕ, List, [], None, Ok, Err, Result, refl, sym, ap, ◌∙◌, subst}
use Rattle.tally.specs.Group.{Group}
use Rattle.grammar.specs.Meaning.{Input, Meaning}
use Rattle.grammar.proofs.Options.{none_some}
use Rattle.layout.specs.Contents.{FileRow, LegalRows, rows_bytes}
use Rattle.layout.proofs.Steps.{ok_same}
use Rattle.rows.specs.Sheets.{View, Ranked}
use Rattle.sheet.specs.Candidates.{candidates}
use Rattle.sheet.proofs.Ended.{candidates_law}
use Rattle.survey.specs.Refusals.{Refused as RefusedFor}
use Rattle.survey.specs.Laws.{Surveys}
use Rattle.survey.specs.Surveyed.{surveyed, norm_in, first_in}
use Rattle.survey.specs.declared.table.Survey.{Survey}
use Rattle.calls.specs.Offers.{Offered, with_rows, taken}
use Rattle.calls.specs.declared.fault.CallFault.{CallFault}
use Rattle.calls.specs.declared.fault.CallFault.TheVariants.{Grammar}
use Rattle.comparer.specs.Comparers.{rows_of, has_survey, Over, Without, offering, refused_offer, after_offer}
use Rattle.comparer.specs.Lawful.{HistoryOver, Lawful}
use Rattle.comparer.specs.declared.comparer.Comparer.{Comparer}
use Rattle.comparer.specs.declared.desk.Desk.{Desk}
use Rattle.comparer.specs.declared.refused.Refused.{Refused}
use Rattle.comparer.proofs.CarriedOver.{made, history_begun}
use Rattle.listing.specs.Listed.{no_rows}
use Rattle.listing.specs.Opened as opened
use Rattle.listing.specs.Opened.{Opened}

-- the rows that are taken are those that the bytes hold
taken_rows : {T : Type 0} (𝓣 : Group T) (M : Meaning T) (norm : ℕ → ℕ) (first : ℕ → Input) (V : View) (bs : List ℕ) (rs : List FileRow) → Offered 𝓣 M norm first V bs (Ok rs) → candidates M.count bs ≡ Ok rs
taken_rows 𝓣 M norm first V bs rs (taken _ is free like first_taken proving) = is

-- what a new comparer is over
abbrev pub Taken : {T : Type 0} → Group T → Meaning T → Result (Desk T) Refused → Type 0
Taken 𝓣 M desk = elim desk as (λ x. Type 0) [ Ok k ↦ Surveys 32 64 𝓣 M k.survey | Err q ↦ RefusedFor 32 64 𝓣 M q.fault × (q.count ≡ M.count) ]

module _ {T : Type 0} (𝓣 : Group T) (M : Meaning T) (rs : List FileRow) (legal : LegalRows M.count rs) (d e : Comparer T) (desk : e.desk ≡ d.desk)
    (N : Meaning T) (means : N ≡ M) (value : Taken 𝓣 N d.desk) (empty : (A : ℕ) → rows_of d A ≡ None) (begins : (s : Survey T) → Over d s → HistoryOver 𝓣 s [] (rows_of d))
    (bs : List ℕ) (is : bs ≡ rows_bytes rs) (r : Result (Unit {0}) CallFault)
    (offer : (s : Survey T) → Over d s → Ranked s.skeleton.words.count (norm_in s) (rows_of d) → after_offer 𝓣 s (rows_of d) bs r (rows_of e))
    (without : (q : Refused) → Without d q → r ≡ Err (refused_offer q (candidates q.count bs)))
    (lawful : (n : ℕ) (s : Survey T) → Over d s → n ≡ s.skeleton.words.count → Lawful 𝓣 d (offering n bs r) e) where
  read_back : candidates M.count bs ≡ Ok rs
  read_back = (candidates_law M.count bs rs).1 (legal, is)

  -- the offer of the file's rows to a comparer without rows
  abbrev Answered : Survey T → Result (List FileRow) CallFault → Type 0
  Answered s = Offered 𝓣 M (norm_in s) (first_in s) no_rows (rows_bytes rs)

  offered : (s : Survey T) → surveyed s ≡ M → (q : Result (List FileRow) CallFault) → Offered 𝓣 (surveyed s) (norm_in s) (first_in s) (rows_of d) bs q → Answered s q
  offered s m q o =
      subst (λ L. Offered 𝓣 L (norm_in s) (first_in s) no_rows (rows_bytes rs) q) m
      (subst (λ cs. Offered 𝓣 (surveyed s) (norm_in s) (first_in s) no_rows cs q) is
      (subst (λ V. Offered 𝓣 (surveyed s) (norm_in s) (first_in s) V bs q) (λ i A. empty A i) o))

  opens : Opened 𝓣 M rs (made e r)
  opens = go d.desk refl (subst (λ N. Taken 𝓣 N d.desk) means value)
    where
      over : (s : Survey T) → Surveys 32 64 𝓣 M s → Over d s → (q : Result (Unit {0}) CallFault) → r ≡ q → after_offer 𝓣 s (rows_of d) bs q (rows_of e) → Opened 𝓣 M rs (made e q)
      over s v o (Ok u) was a =
          let told = offered s v.meaning (Ok a.0) a.1 in
          let same : a.0 ≡ rs = ok_same (sym (taken_rows 𝓣 M (norm_in s) (first_in s) no_rows (rows_bytes rs) a.0 told) ∙ ap (candidates M.count) (sym is) ∙ read_back) in
          let here : Over e s = subst (λ (x : Result (Desk T) Refused). has_survey x s) (sym desk) o in
          let begun = history_begun 𝓣 d e desk bs r was begins lawful s here in
          opened.taken s e v (subst (λ qs. Answered s (Ok qs)) same told) (record { over = here; events = begun.0; history = begun.1 })
          (λ A. a.2 A ∙ ap (λ (V : View). with_rows V a.0 A) (λ i B. empty B i) ∙ ap (λ qs. with_rows no_rows qs A) same)
      over s v o (Err f) was a = opened.not_taken s f v (offered s v.meaning (Err f) a.0)

      go : (x : Result (Desk T) Refused) → d.desk ≡ x → Taken 𝓣 M x → Opened 𝓣 M rs (made e r)
      go (Ok k) f v =
          let here : Over d k.survey = subst (λ (x : Result (Desk T) Refused). has_survey x k.survey) (sym f) refl in
          over k.survey v here r refl (offer k.survey here (λ A w z. absurd (none_some (sym (empty A) ∙ z))))
      go (Err q) f v =
          let fault : r ≡ Err (Grammar q.fault) = without q f ∙ ap (λ n. Err (refused_offer q (candidates n bs))) v.1 ∙ ap (λ o. Err (refused_offer q o)) read_back in
          subst (λ x. Opened 𝓣 M rs (made e x)) (sym fault) (opened.over_refused q.fault v.0)

  -- what it becomes where the offer comes to q
  pub opened_as : (q : Result (Unit {0}) CallFault) → r ≡ q → Opened 𝓣 M rs (made e q)
  opened_as q was = subst (λ (x : Result (Unit {0}) CallFault). Opened 𝓣 M rs (made e x)) was opens
