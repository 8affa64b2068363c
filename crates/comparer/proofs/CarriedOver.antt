-- Rows that are carried over to a new comparer, whose grammar has the same meaning.
--
-- The idea: a grammar has one norm and one first input for each symbol, so rows that stand over one survey of it stand over each. A copy of such rows is taken by a comparer without rows, which then has them; and since an offer comes to one thing, it is not refused.
--
-- Assumes nothing.
use Rattle.std.proofs.Common.{◌≡◌, ℕ, ◌+◌, ◌<◌, ◌≤◌, List, [], ◌∷◌, ◌++◌, length, take, drop, Some, None, Option, Ok, Err, Result, refl, sym, ap, ap₂, ◌∙◌, subst, le-ltb, length-append, arith, Bor}
use Rattle.std.proofs.Math.Seq.{take-append_seam}
use Rattle.std.specs.Option.{option_map, unwrap_or}
use Rattle.std.specs.Slice.{IsGetRangeResult}
use Rattle.tally.specs.Group.{Group}
use Rattle.grammar.specs.Meaning.{Word, Input, Weighted, Meaning, Below}
use Rattle.grammar.specs.Takes.{takes}
use Rattle.grammar.proofs.Options.{none_some}
use Rattle.norm.specs.Norms.{Normed, norms}
use Rattle.norm.proofs.Lawful.{one_normed}
use Rattle.layout.specs.Contents.{FileRow}
use Rattle.layout.proofs.Steps.{ok_err, ok_same, err_same}
use Rattle.rows.specs.Sheets.{View, difference, weighed, SelfProving, Ranked}
use Rattle.survey.specs.Refusals.{Accepted, Refused as RefusedFor}
use Rattle.survey.specs.Laws.{Surveys}
use Rattle.survey.specs.Surveyed.{surveyed, norm_in, first_in}
use Rattle.survey.specs.WellSurveyed.{surveyed_wellformed}
use Rattle.survey.specs.declared.table.Survey.{Survey}
use Rattle.survey.proofs.Holding.{normed_in}
use Rattle.survey.proofs.Verdicts as verdicts
use Rattle.comparison.proofs.Ranges.{read_front}
use Rattle.calls.specs.Refusals.{copy_fault, answered, when}
use Rattle.calls.specs.Offers.{with_rows, Offered, copied}
use Rattle.calls.specs.Histories.{Event}
use Rattle.calls.specs.declared.fault.CallFault.{CallFault}
use Rattle.calls.specs.declared.fault.CallFault.TheVariants.{ShortCopy}
use Rattle.calls.proofs.Ground.{Standing, ground}
use Rattle.calls.proofs.Copies.{carries}
use Rattle.calls.proofs.Renormed.{norms_same, weighed_too}
use Rattle.calls.proofs.OneOffer.{never_both, same_rows}
use Rattle.sheet.specs.Candidates.{candidates}
use Rattle.comparer.specs.Comparers.{rows_of, has_survey, Over, Without, offering, refused_offer, after_offer, CarriedOver, not_over, not_taken, taken}
use Rattle.comparer.specs.Lawful.{HistoryOver, Lawful}
use Rattle.comparer.specs.declared.comparer.Comparer.{Comparer}
use Rattle.comparer.specs.declared.desk.Desk.{Desk}
use Rattle.comparer.specs.declared.refused.Refused.{Refused}
use Rattle.comparer.proofs.Lawfulness.{Stands, over_some, survey_accepted, history_stands}

module _ {T : Type 0} (𝓣 : Group T) (M : Meaning T) (norm other : ℕ → ℕ) (first second : ℕ → Input) (N : Normed 𝓣 M norm first) (K : Normed 𝓣 M other second)
    (V : View) (stands : Standing 𝓣 M norm first V) where
  same : (A : ℕ) → A < M.count → (norm A ≡ other A) × (first A ≡ second A)
  same = one_normed 𝓣 M norm other first second N K

  ranked_too : Ranked M.count other V
  ranked_too A w e =
      let row = stands.ranked A w e in
      record {
        symbol = row.symbol;
        below = row.below;
        weighs = sym (norms_same M.count norm other (λ B l. (same B l).0) w row.below) ∙ row.weighs ∙ (same A row.symbol).0;
        lower = row.lower;
      }

  -- rows that stand over norms and first inputs stand over others that the grammar has
  standing_too : Standing 𝓣 M other second V
  standing_too = record { ranked = ranked_too; proving = subst (λ D. SelfProving 𝓣 M D) (weighed_too 𝓣 M norm other first second V N K V (λ A w e. (stands.ranked A w e).symbol)) stands.proving }

-- what an offer to a new comparer has come to, with the rows of W there then: those of V
abbrev pub Carried : View → View → Result (Unit {0}) CallFault → Type 0
Carried V W (Ok u) = (A : ℕ) → W A ≡ V A
Carried V W (Err f) = ⊥

module _ {T : Type 0} (𝓣 : Group T) where
  -- they stand over each survey of it
  stands_too : (s t : Survey T) (V : View) → surveyed s ≡ surveyed t → Stands 𝓣 s V → Stands 𝓣 t V
  stands_too s t V e stands =
      standing_too 𝓣 (surveyed t) (norm_in s) (norm_in t) (first_in s) (first_in t) (subst (λ M. Normed 𝓣 M (norm_in s) (first_in s)) e (normed_in s 𝓣)) (normed_in t 𝓣) V
      (subst (λ M. Standing 𝓣 M (norm_in s) (first_in s) V) e stands)

  -- a grammar whose meaning is that of a survey is not refused
  taken_up : (M : Meaning T) (s : Survey T) → 1 ≤ s.skeleton.words.count → surveyed s ≡ M → (r : Result (Desk T) Refused) →
      elim r as (λ x. Type 0) [ Ok d ↦ Surveys 32 64 𝓣 M d.survey | Err q ↦ RefusedFor 32 64 𝓣 M q.fault × (q.count ≡ M.count) ] → (t : Survey T) × has_survey r t × (surveyed t ≡ M)
  taken_up M s some e (Ok d) v = (d.survey, refl, v.meaning)
  taken_up M s some e (Err q) v = absurd (verdicts.never_both 32 64 𝓣 M q.fault v.0 (subst (Accepted 32 64 𝓣) e (survey_accepted 𝓣 s some)))

  -- what an offer comes to of a copy of rows that stand, to a comparer without rows
  copy_taken : (t : Survey T) (some : 1 ≤ t.skeleton.words.count) (V E W : View) → Stands 𝓣 t V → ((A : ℕ) → E A ≡ None) → (r : Result (Unit {0}) CallFault) → after_offer 𝓣 t E (copied V) r W → Carried V W r
  copy_taken t some V E W stands empty r after = go r after
    where
      there : (rs : List FileRow) × Offered 𝓣 (surveyed t) (norm_in t) (first_in t) E (copied V) (Ok rs) × ((A : ℕ) → with_rows E rs A ≡ V A)
      there = (carries 𝓣 (surveyed t) (norm_in t) (first_in t) (ground 𝓣 (surveyed t) (norm_in t) (first_in t) (surveyed_wellformed t) (survey_accepted 𝓣 t some) (normed_in t 𝓣)) V stands).taken E empty

      go : (r : Result (Unit {0}) CallFault) → after_offer 𝓣 t E (copied V) r W → Carried V W r
      go (Ok u) a = λ A. a.2 A ∙ ap (λ rs. with_rows E rs A) (same_rows 𝓣 (surveyed t) (norm_in t) (first_in t) E (copied V) a.0 there.0 a.1 there.1) ∙ there.2 A
      go (Err f) a = absurd (never_both 𝓣 (surveyed t) (norm_in t) (first_in t) E (copied V) there.0 f there.1 a.0)

-- a buffer of 2,047 bytes is long enough, so a copy is answered
copy_answered : (k n : ℕ) (r : Result ℕ CallFault) → 2047 ≤ k → r ≡ answered (copy_fault k) n → r ≡ Ok n
copy_answered k n r long e = e ∙ ap (λ b. answered (when b (ShortCopy k)) n) (le-ltb k 2047 long)

-- the bytes at its start are those that were written
pub copy_read : (bs old new : List ℕ) (n : ℕ) → n ≡ length bs → new ≡ bs ++ drop (length bs) old → (o : Option (Bor (List ℕ))) (d r : Bor (List ℕ)) → r ≡ unwrap_or o d →
    IsGetRangeResult new 0 n o → r.now ≡ bs
copy_read bs old new n size is o d r e read =
    let long : n ≤ length new = rw (is, length-append) (omega arith) in
    read_front new n long o d r e read ∙ ap₂ take size is ∙ take-append_seam bs (drop (length bs) old)

module _ {T : Type 0} (𝓣 : Group T) (c : Comparer T) (s : Survey T) (over : Over c s) (es : List (Event T)) (h : HistoryOver 𝓣 s es (rows_of c)) where
  -- the rows may be rows
  rows_ranked : Ranked s.skeleton.words.count (norm_in s) (rows_of c)
  rows_ranked = (history_stands 𝓣 s (over_some c s over) es (rows_of c) h).ranked

  module _ (old : List ℕ) (long : 2047 ≤ length old) (a : Result ℕ CallFault) (over_rows : Ranked s.skeleton.words.count (norm_in s) (rows_of c) → a ≡ answered (copy_fault (length old)) (length (copied (rows_of c)))) where
    answer : a ≡ Ok (length (copied (rows_of c)))
    answer = copy_answered (length old) (length (copied (rows_of c))) a long (over_rows rows_ranked)

    -- so a copy is not refused
    pub never_refused : {f : CallFault} → a ≡ Err f → ⊥
    never_refused e = ok_err (sym answer ∙ e)

    -- and its bytes are read back from the buffer
    pub copy_is : (new : List ℕ) (n : ℕ) → a ≡ Ok n → (Ranked s.skeleton.words.count (norm_in s) (rows_of c) → a ≡ Ok (length (copied (rows_of c))) → new ≡ copied (rows_of c) ++ drop (length (copied (rows_of c))) old) →
        (o : Option (Bor (List ℕ))) (d r : Bor (List ℕ)) → r ≡ unwrap_or o d → IsGetRangeResult new 0 n o → r.now ≡ copied (rows_of c)
    copy_is new n e out = copy_read (copied (rows_of c)) old new n (ok_same (sym e ∙ answer)) (out rows_ranked answer)

  -- a new comparer takes the copy of them
  pub carried : (M : Meaning T) → surveyed s ≡ M → (d e : Comparer T) →
      elim d.desk as (λ x. Type 0) [ Ok k ↦ Surveys 32 64 𝓣 M k.survey | Err q ↦ RefusedFor 32 64 𝓣 M q.fault × (q.count ≡ M.count) ] → ((A : ℕ) → rows_of d A ≡ None) →
      (bs : List ℕ) → bs ≡ copied (rows_of c) → (r : Result (Unit {0}) CallFault) →
      ((t : Survey T) → Over d t → Ranked t.skeleton.words.count (norm_in t) (rows_of d) → after_offer 𝓣 t (rows_of d) bs r (rows_of e)) →
      Carried (rows_of c) (rows_of e) r
  carried M m d e value empty bs is r offer =
      let some = over_some c s over in
      let up = taken_up 𝓣 M s some m d.desk value in
      let t = up.0 in
      let stands = stands_too 𝓣 s t (rows_of c) (m ∙ sym up.2) (history_stands 𝓣 s some es (rows_of c) h) in
      copy_taken 𝓣 t (over_some d t up.1) (rows_of c) (rows_of d) (rows_of e) stands empty r
      (subst (λ bs. after_offer 𝓣 t (rows_of d) bs r (rows_of e)) is (offer t up.1 (λ A w k. absurd (none_some (sym (empty A) ∙ k)))))

-- what a new comparer is that took an offer
module _ {T : Type 0} (𝓣 : Group T) (d e : Comparer T) (desk : e.desk ≡ d.desk) (bs : List ℕ) (r : Result (Unit {0}) CallFault) (is : r ≡ Ok tt) where
  -- its grammar is not refused
  pub grammar_kept : (M : Meaning T) → elim d.desk as (λ x. Type 0) [ Ok k ↦ Surveys 32 64 𝓣 M k.survey | Err q ↦ RefusedFor 32 64 𝓣 M q.fault × (q.count ≡ M.count) ] →
      ((q : Refused) → Without d q → r ≡ Err (refused_offer q (candidates q.count bs))) → elim e.desk as (λ x. Type 0) [ Ok k ↦ Surveys 32 64 𝓣 M k.survey | Err q ↦ ⊥ ]
  grammar_kept M value without = subst (λ (x : Result (Desk T) Refused). elim x as (λ y. Type 0) [ Ok k ↦ Surveys 32 64 𝓣 M k.survey | Err q ↦ ⊥ ]) (sym desk) (go d.desk refl value)
    where
      go : (x : Result (Desk T) Refused) → d.desk ≡ x → elim x as (λ y. Type 0) [ Ok k ↦ Surveys 32 64 𝓣 M k.survey | Err q ↦ RefusedFor 32 64 𝓣 M q.fault × (q.count ≡ M.count) ] →
          elim x as (λ y. Type 0) [ Ok k ↦ Surveys 32 64 𝓣 M k.survey | Err q ↦ ⊥ ]
      go (Ok k) f v = v
      go (Err q) f v = absurd (ok_err (sym is ∙ without q f))

  -- and a history leads to its rows
  pub history_begun : ((s : Survey T) → Over d s → HistoryOver 𝓣 s [] (rows_of d)) → ((n : ℕ) (s : Survey T) → Over d s → n ≡ s.skeleton.words.count → Lawful 𝓣 d (offering n bs r) e) →
      (t : Survey T) → Over e t → (es : List (Event T)) × HistoryOver 𝓣 t es (rows_of e)
  history_begun begins lawful t o =
      let over : Over d t = subst (λ (x : Result (Desk T) Refused). has_survey x t) desk o in
      (offering t.skeleton.words.count bs r ∷ [], (lawful t.skeleton.words.count t over refl).history t over [] (begins t over))

-- a copy to a buffer that is too short is refused, and no byte is written
pub short_refused : (k n : ℕ) (a : Result ℕ CallFault) (f g : CallFault) → a ≡ answered (copy_fault k) n → copy_fault k ≡ Some f → a ≡ Err g → g ≡ f
short_refused k n a f g e short is = err_same (sym is ∙ e ∙ ap (λ o. answered o n) short)

-- it is not answered
pub short_answered : {X : Type 0} (k n m : ℕ) (a : Result ℕ CallFault) (f : CallFault) → a ≡ answered (copy_fault k) n → copy_fault k ≡ Some f → a ≡ Ok m → X
short_answered k n m a f e short is = absurd (ok_err (sym is ∙ e ∙ ap (λ o. answered o n) short))

-- one to a buffer that is long enough is answered
pub long_answered : (k n : ℕ) (a : Result ℕ CallFault) → a ≡ answered (copy_fault k) n → copy_fault k ≡ None → a ≡ Ok n
long_answered k n a e long = e ∙ ap (λ o. answered o n) long

-- the comparer that took the offer, or the fault
abbrev pub made : {T : Type 0} → Comparer T → Result (Unit {0}) CallFault → Result (Comparer T) CallFault
made e (Ok u) = Ok e
made e (Err f) = Err f

module _ {T : Type 0} (𝓣 : Group T) (M : Meaning T) (V : View) (d e : Comparer T) (desk : e.desk ≡ d.desk)
    (value : elim d.desk as (λ x. Type 0) [ Ok k ↦ Surveys 32 64 𝓣 M k.survey | Err q ↦ RefusedFor 32 64 𝓣 M q.fault × (q.count ≡ M.count) ]) (empty : (A : ℕ) → rows_of d A ≡ None)
    (bs : List ℕ) (is : bs ≡ copied V) (r : Result (Unit {0}) CallFault)
    (offer : (t : Survey T) → Over d t → Ranked t.skeleton.words.count (norm_in t) (rows_of d) → after_offer 𝓣 t (rows_of d) bs r (rows_of e))
    (without : (q : Refused) → Without d q → r ≡ Err (refused_offer q (candidates q.count bs))) where
  offered : (t : Survey T) → Over d t → after_offer 𝓣 t (λ A. None) (copied V) r (rows_of e)
  offered t over =
      subst (λ U. after_offer 𝓣 t U (copied V) r (rows_of e)) (λ i A. empty A i)
      (subst (λ b. after_offer 𝓣 t (rows_of d) b r (rows_of e)) is (offer t over (λ A w k. absurd (none_some (sym (empty A) ∙ k)))))

  -- what the offer of a copy to a new comparer comes to
  pub carried_over : CarriedOver 𝓣 M V (made e r)
  carried_over = go d.desk refl value
    where
      over : (t : Survey T) → Surveys 32 64 𝓣 M t → Over e t → (q : Result (Unit {0}) CallFault) → after_offer 𝓣 t (λ A. None) (copied V) q (rows_of e) → CarriedOver 𝓣 M V (made e q)
      over t v o (Ok u) a = taken t e v o a
      over t v o (Err f) a = not_taken t f (rows_of e) v a

      go : (x : Result (Desk T) Refused) → d.desk ≡ x → elim x as (λ y. Type 0) [ Ok k ↦ Surveys 32 64 𝓣 M k.survey | Err q ↦ RefusedFor 32 64 𝓣 M q.fault × (q.count ≡ M.count) ] → CarriedOver 𝓣 M V (made e r)
      go (Ok k) f v = over k.survey v (subst (λ (x : Result (Desk T) Refused). has_survey x k.survey) (sym (desk ∙ f)) refl) r (offered k.survey (subst (λ (x : Result (Desk T) Refused). has_survey x k.survey) (sym f) refl))
      go (Err q) f v =
          subst (λ x. CarriedOver 𝓣 M V (made e x)) (sym (without q f ∙ ap (λ b. Err (refused_offer q (candidates q.count b))) is))
          (not_over q v.0 v.1)
