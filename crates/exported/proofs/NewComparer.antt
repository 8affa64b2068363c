-- What one call to a new comparer tells of its grammar.
--
-- The idea: the grammar is refused, and then each call is, for the same fault; or there is a survey of it, and what a call tells of the survey it tells of the grammar.
--
-- Assumes nothing.
use Rattle.std.proofs.Common.{◌≡◌, ℕ, ◌↔◌, List, [], ◌∷◌, ◌++◌, length, drop, Some, None, Option, Ok, Err, Result, refl, sym, ap, ◌∙◌, subst, inl, inr}
use Rattle.tally.specs.Group.{Group}
use Rattle.grammar.specs.Meaning.{Word, Input, Meaning}
use Rattle.grammar.specs.Takes.{takes}
use Rattle.layout.proofs.Steps.{ok_err, ok_same, err_same}
use Rattle.rows.specs.Sheets.{Ranked}
use Rattle.survey.specs.Laws.{Surveys}
use Rattle.survey.specs.Refusals.{Refused as RefusedFor}
use Rattle.survey.specs.Surveyed.{surveyed, norm_in}
use Rattle.survey.specs.declared.table.Survey.{Survey}
use Rattle.calls.specs.Histories.{compared}
use Rattle.calls.specs.Laws.{Decides}
use Rattle.calls.specs.Offers.{copied}
use Rattle.calls.specs.Refusals.{compare_fault, run_fault, copy_fault, answered}
use Rattle.calls.specs.declared.answer.Answer.{Answer}
use Rattle.calls.specs.declared.fault.CallFault.{CallFault}
use Rattle.calls.specs.declared.fault.CallFault.TheVariants.{Grammar}
use Rattle.comparer.specs.Comparers.{rows_of, Over, Without, comparing}
use Rattle.comparer.specs.Lawful.{HistoryOver, Lawful}
use Rattle.comparer.specs.declared.comparer.Comparer.{Comparer}
use Rattle.comparer.specs.declared.desk.Desk.{Desk}
use Rattle.comparer.specs.declared.refused.Refused.{Refused}
use Rattle.comparer.proofs.Lawfulness.{desk_over, over_some, history_stands}
use Rattle.exported.specs.Exports.{Ran, Compared}

-- what a new comparer has taken up of a grammar
abbrev pub took : {T : Type 0} → Group T → Meaning T → Result (Desk T) Refused → Type 0
took {T} 𝓣 M r = elim r as (λ x. Type 0) [ Ok k ↦ Surveys 32 64 𝓣 M k.survey | Err q ↦ RefusedFor 32 64 𝓣 M q.fault × (q.count ≡ M.count) ]

-- of a grammar of the same meaning
pub took_too : {T : Type 0} (𝓣 : Group T) (M N : Meaning T) → M ≡ N → (r : Result (Desk T) Refused) → took 𝓣 M r → took 𝓣 N r
took_too 𝓣 M N e r t = subst (λ P. took 𝓣 P r) e t

-- what is answered is not refused, and the other way
answered_ok : {X : Type 0} (o : Option CallFault) (x y : X) → answered o x ≡ Ok y → y ≡ x
answered_ok None x y e = sym (ok_same e)
answered_ok (Some f) x y e = absurd (ok_err (sym e))

answered_err : {X : Type 0} (o : Option CallFault) (x : X) (f : CallFault) → answered o x ≡ Err f → o ≡ Some f
answered_err None x f e = absurd (ok_err e)
answered_err (Some g) x f e = ap {B = Option CallFault} Some (err_same e)

module _ {T : Type 0} (𝓣 : Group T) (M : Meaning T) (c : Comparer T) (value : took 𝓣 M c.desk) where
  -- a run
  module _ (w : Word) (s : Input) (r : Result (Option T) CallFault) (over : (v : Survey T) → Over c v → r ≡ answered (run_fault v.skeleton.words.count w s) (takes 𝓣 (surveyed v) w s))
      (without : (q : Refused) → Without c q → r ≡ Err (Grammar q.fault)) where
    by_fault : (P : Meaning T) (o : Option CallFault) → run_fault P.count w s ≡ o → Ran 𝓣 P w s (answered o (takes 𝓣 P w s))
    by_fault P None e = refl
    by_fault P (Some f) e = inr e

    pub ran : Ran 𝓣 M w s r
    ran = go c.desk refl value
      where
        go : (k : Result (Desk T) Refused) → c.desk ≡ k → took 𝓣 M k → Ran 𝓣 M w s r
        go (Ok k) e v =
            subst (λ (P : Meaning T). Ran 𝓣 P w s r) v.meaning
            (subst (λ (q : Result (Option T) CallFault). Ran 𝓣 (surveyed k.survey) w s q) (sym (over k.survey (desk_over c k e))) (by_fault (surveyed k.survey) (run_fault k.survey.skeleton.words.count w s) refl))
        go (Err q) e v = subst (λ (p : Result (Option T) CallFault). Ran 𝓣 M w s p) (sym (without q e)) (inl (q.fault, v.0, refl))

  -- a comparison, which answers r and leaves d
  module _ (x y : Word) (room : ℕ) (o p : List ℕ) (r : Result Answer CallFault) (without : (q : Refused) → Without c q → r ≡ Err (Grammar q.fault)) where
    pub compare_refused : ((s : Survey T) → Over c s → (f : CallFault) → (r ≡ Err f) ↔ (compare_fault s.skeleton.words.count x y room ≡ Some f)) →
        (q : List ℕ) (f : CallFault) → r ≡ Err f → Compared 𝓣 M x y room o p q (Err f)
    compare_refused faults q f is = go c.desk refl value
      where
        go : (k : Result (Desk T) Refused) → c.desk ≡ k → took 𝓣 M k → Compared 𝓣 M x y room o p q (Err f)
        go (Ok k) e v = inr (inl (subst (λ (P : Meaning T). compare_fault P.count x y room ≡ Some f) v.meaning ((faults k.survey (desk_over c k e) f).0 is)))
        go (Err u) e v = inl (u.fault, v.0, err_same (sym is ∙ without u e))

    -- then the rows are copied
    module _ (d : Comparer T) (a : Answer) (is : r ≡ Ok a) (lawful : Lawful 𝓣 c (compared x y room (comparing r o)) d) (begins : (s : Survey T) → Over c s → HistoryOver 𝓣 s [] (rows_of c))
        (t : Result ℕ CallFault) (copy : (s : Survey T) → Over d s → Ranked s.skeleton.words.count (norm_in s) (rows_of d) → t ≡ answered (copy_fault (length p)) (length (copied (rows_of d)))) where
      answers : Lawful 𝓣 c (compared x y room (comparing (Ok a) o)) d
      answers = subst (λ (q : Result Answer CallFault). Lawful 𝓣 c (compared x y room (comparing q o)) d) is lawful

      module _ (s : Survey T) (over : Over c s) where
        over_new : Over d s
        over_new = answers.same_grammar.over s over

        history : HistoryOver 𝓣 s (compared x y room (comparing (Ok a) o) ∷ []) (rows_of d)
        history = answers.history s over [] (begins s over)

        ranked : Ranked s.skeleton.words.count (norm_in s) (rows_of d)
        ranked = (history_stands 𝓣 s (over_some d s over_new) (compared x y room (comparing (Ok a) o) ∷ []) (rows_of d) history).ranked

      pub copy_refused : (q : List ℕ) (f : CallFault) → t ≡ Err f → Compared 𝓣 M x y room o p q (Err f)
      copy_refused q f e = go c.desk refl value
        where
          go : (k : Result (Desk T) Refused) → c.desk ≡ k → took 𝓣 M k → Compared 𝓣 M x y room o p q (Err f)
          go (Ok k) h v =
              let s = k.survey in
              let over = desk_over c k h in
              inr (inr (answered_err (copy_fault (length p)) (length (copied (rows_of d))) f (sym (copy s (over_new s over) (ranked s over)) ∙ e)))
          go (Err u) h v = absurd (ok_err (sym is ∙ without u h))

      pub answered_rows : (n : ℕ) (q : List ℕ) → t ≡ Ok n →
          ((s : Survey T) → Over d s → Ranked s.skeleton.words.count (norm_in s) (rows_of d) → t ≡ Ok (length (copied (rows_of d))) → q ≡ copied (rows_of d) ++ drop (length (copied (rows_of d))) p) →
          Compared 𝓣 M x y room o p q (Ok (a, n))
      answered_rows n q e out = go c.desk refl value
        where
          go : (k : Result (Desk T) Refused) → c.desk ≡ k → took 𝓣 M k → Compared 𝓣 M x y room o p q (Ok (a, n))
          go (Ok k) h v =
              let s = k.survey in
              let over = desk_over c k h in
              let size : n ≡ length (copied (rows_of d)) = answered_ok (copy_fault (length p)) (length (copied (rows_of d))) n (sym (copy s (over_new s over) (ranked s over)) ∙ e) in
              record {
                decided = subst (λ (P : Meaning T). Decides 𝓣 P x y (comparing (Ok a) o)) v.meaning (answers.law s over [] (begins s over)).decides.0;
                survey = s;
                surveys = v;
                view = rows_of d;
                history = history s over;
                size = size;
                written = out s (over_new s over) (ranked s over) (e ∙ ap (λ k. Ok k) size);
              }
          go (Err u) h v = absurd (ok_err (sym is ∙ without u h))
