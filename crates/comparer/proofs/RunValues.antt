-- Runs: what is not refused is derived in full, and a run with its value is lawful. Assumes nothing.
use Rattle.std.proofs.Common.{◌≡◌, ℕ, Bool, true, false, cond, nat_lt, [], ◌∷◌, length, Some, None, Option, Ok, Err, Result, refl, sym, ap, ◌∙◌, subst, arith}
use Rattle.std.specs.Result.{result_unwrap_or}
use Rattle.tally.specs.Group.{Group}
use Rattle.grammar.specs.Meaning.{Word, Input}
use Rattle.grammar.specs.Takes.{takes}
use Rattle.grammar.specs.Laws.{max_input, derived}
use Rattle.grammar.specs.declared.too_long.InputTooLong.{InputTooLong}
use Rattle.grammar.proofs.Options.{some_none}
use Rattle.survey.specs.Surveyed.{surveyed}
use Rattle.survey.specs.declared.table.Survey.{Survey}
use Rattle.calls.specs.Refusals.{first_of, when, too_long, strays, run_fault, answered, unless}
use Rattle.calls.specs.Histories.{ran, run_refused, run_answered}
use Rattle.calls.specs.declared.fault.CallFault.{CallFault}
use Rattle.calls.specs.declared.fault.CallFault.TheVariants.{LongInput}
use Rattle.comparer.specs.Comparers.{rows_of, Over}
use Rattle.comparer.specs.Lawful.{Lawful}
use Rattle.comparer.specs.declared.comparer.Comparer.{Comparer}
use Rattle.comparer.specs.declared.desk.Desk.{Desk}
use Rattle.comparer.proofs.Unless.{no_fault, a_fault}
use Rattle.comparer.proofs.Lawfulness.{desk_survey, Step, lawful_still}

module _ {T : Type 0} (𝓣 : Group T) (w : Word) (i : Input) where
  -- a run that is not refused has few enough letters for an answer
  run_derived : (s : Survey T) → run_fault s.skeleton.words.count w i ≡ None → derived 𝓣 (surveyed s) w i ≡ Ok (takes 𝓣 (surveyed s) w i)
  run_derived s e = go (too_long 1 w) (strays 1 s.skeleton.words.count w) (nat_lt max_input (length i)) e
    where
      go : (o p : Option CallFault) (b : Bool) → first_of (o ∷ p ∷ when b (LongInput (length i)) ∷ []) ≡ None →
          cond {A = Result (Option T) InputTooLong} b (Err (record { letters = length i })) (Ok (takes 𝓣 (surveyed s) w i)) ≡ Ok (takes 𝓣 (surveyed s) w i)
      go None None false e = refl
      go None None true e = absurd (some_none e)
      go None (Some f) b e = absurd (some_none e)
      go (Some f) p b e = absurd (some_none e)

  -- the value of a run, over a survey
  abbrev Ran : Result (Option T) CallFault → Survey T → Type 0
  Ran r s = r ≡ answered (run_fault s.skeleton.words.count w i) (takes 𝓣 (surveyed s) w i)

  module _ (c : Comparer T) where
    -- of a desk whose count is k
    module _ (d : Desk T) (k : ℕ) (is : c.desk ≡ Ok d) (count : k ≡ d.survey.skeleton.words.count) where
      over : (r : Result (Option T) CallFault) → Ran r d.survey → (s : Survey T) → Over c s → Ran r s
      over r e s o = subst (λ (t : Survey T). Ran r t) (desk_survey c d s is o) e

      pub ran_refused : (r : Result (Option T) CallFault) (f h : CallFault) → r ≡ Err f → f ≡ h → Err h ≡ unless (run_fault k w i) → (s : Survey T) → Over c s → Ran r s
      ran_refused r f h e same fault =
          let told : Err f ≡ unless (run_fault d.survey.skeleton.words.count w i) = ap Err same ∙ fault ∙ ap (λ n. unless (run_fault n w i)) count in
          over r (e ∙ sym (ap (λ o. answered o (takes 𝓣 (surveyed d.survey) w i)) (a_fault (run_fault d.survey.skeleton.words.count w i) (sym told))))

      pub ran_answered : (r : Result (Option T) InputTooLong) (t : Option T) → Ok tt ≡ unless (run_fault k w i) → r ≡ derived 𝓣 (surveyed d.survey) w i → t ≡ result_unwrap_or r None → (s : Survey T) → Over c s → Ran (Ok t) s
      ran_answered r t passed derives e =
          let none : run_fault d.survey.skeleton.words.count w i ≡ None = no_fault _ (sym (passed ∙ ap (λ n. unless (run_fault n w i)) count)) in
          let value : t ≡ takes 𝓣 (surveyed d.survey) w i = e ∙ ap (λ q. result_unwrap_or q None) (derives ∙ run_derived d.survey none) in
          over (Ok t) (ap Ok value ∙ sym (ap (λ o. answered o (takes 𝓣 (surveyed d.survey) w i)) none))

    -- a run with its value is lawful
    pub ran_lawful : (r : Result (Option T) CallFault) → ((s : Survey T) → Over c s → Ran r s) → Lawful 𝓣 c (ran w i r) c
    ran_lawful r value = lawful_still 𝓣 c c (ran w i r) refl (λ A. refl) (λ s o stands. step s (run_fault s.skeleton.words.count w i) refl (value s o))
      where
        step : (s : Survey T) (f : Option CallFault) → run_fault s.skeleton.words.count w i ≡ f → r ≡ answered f (takes 𝓣 (surveyed s) w i) → Step 𝓣 s (rows_of c) (ran w i r) (rows_of c)
        step s None d e = subst (λ q. Step 𝓣 s (rows_of c) (ran w i q) (rows_of c)) (sym e) (run_answered w i (rows_of c) d (λ A. refl))
        step s (Some f) d e = subst (λ q. Step 𝓣 s (rows_of c) (ran w i q) (rows_of c)) (sym e) (run_refused w i f (rows_of c) d (λ A. refl))
