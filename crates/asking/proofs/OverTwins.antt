-- An answer over the twin of two files' grammars, told of each word by its own file.
--
-- The idea: a twin takes what its parts take, and the grammar of a legal file names only symbols of its own. So what the comparer's survey tells of the two words is what the two files tell.
--
-- Assumes nothing.
use Rattle.std.proofs.Common.{◌≡◌, ℕ, ◌+◌, ◌≤◌, ◌↔◌, min, Bool, true, false, cond, ◌&&◌, List, [], ◌∷◌, length, take, Some, Ok, Err, Result, IfOk, ◌==◌, refl, sym, ap, ap₂, ◌∙◌, subst, inl, inr, arith}
use Rattle.std.specs.Option.{option_map}
use Rattle.tally.specs.Group.{Group}
use Rattle.grammar.specs.Meaning.{Word, Input, Meaning, Below, word_of}
use Rattle.grammar.specs.Takes.{takes}
use Rattle.grammar.specs.Twinned.{twinned, raised, Closed, TwinLaw}
use Rattle.grammar.proofs.Takes.{differ_law}
use Rattle.layout.specs.Contents.{FileRule, Contents, All, LegalRule, Legal}
use Rattle.layout.proofs.Steps.{ok_err, err_same}
use Rattle.file_grammar.specs.Filed.{weighed as rule_weighed, rule_at, held}
use Rattle.rows.specs.Sheets.{Sheet, weighed}
use Rattle.survey.specs.Laws.{Surveys}
use Rattle.survey.specs.Refusals.{Refused as RefusedFor}
use Rattle.survey.specs.Surveyed.{surveyed, first_in}
use Rattle.survey.specs.declared.table.Survey.{Survey}
use Rattle.calls.specs.Histories.{Event, compared}
use Rattle.calls.specs.Refusals.{compare_fault}
use Rattle.calls.specs.declared.fault.CallFault.{CallFault}
use Rattle.calls.specs.declared.fault.CallFault.TheVariants.{Grammar}
use Rattle.comparer.specs.Comparers.{rows_of, Over, Without}
use Rattle.comparer.specs.Lawful.{HistoryOver, Lawful}
use Rattle.comparer.specs.declared.comparer.Comparer.{Comparer}
use Rattle.comparer.specs.declared.desk.Desk.{Desk}
use Rattle.comparer.specs.declared.refused.Refused.{Refused}
use Rattle.comparer.proofs.Lawfulness.{desk_over}
use Rattle.asking.proofs.Asked.{no_fault}
use Rattle.asking.specs.Questions.{asked, Tells, TellsOf, fault_of, Refuses, Answers}
use Rattle.asking.specs.declared.outcome.Outcome.{Outcome}
use Rattle.asking.specs.declared.outcome.Outcome.TheVariants.{Same, Different}

-- the rules of a legal file name only its own symbols
rules_closed : {T : Type 0} (made : ℕ → ℕ → T) (n k : ℕ) (rs : List FileRule) → All (LegalRule n k) rs → (A a : ℕ) → Below n (word_of (option_map (rule_weighed made) (rule_at A a rs)))
rules_closed made n k [] p A a = tt
rules_closed made n k (r ∷ rs) p A a = go (r.symbol == A && r.letter == a) (rules_closed made n k rs p.1 A a)
  where
    go : (b : Bool) → Below n (word_of (option_map (rule_weighed made) (rule_at A a rs))) → Below n (word_of (option_map (rule_weighed made) (cond b (Some r) (rule_at A a rs))))
    go true behind = p.0.word
    go false behind = behind

pub file_closed : {T : Type 0} (made : ℕ → ℕ → T) (c : Contents) → Legal c → Closed (held made (Ok c))
file_closed made c legal A a = rules_closed made (length c.names) (length c.kinds) c.rules legal.rules A a

-- what a new comparer has taken up of a grammar
abbrev pub TakenUp : {T : Type 0} → Group T → Meaning T → Comparer T → Type 0
TakenUp {T} 𝓣 P c = elim c.desk as (λ x. Type 0) [ Ok k ↦ Surveys 32 64 𝓣 P k.survey | Err r ↦ RefusedFor 32 64 𝓣 P r.fault × (r.count ≡ P.count) ]

module _ {T : Type 0} (𝓣 : Group T) (M N : Meaning T) (few : M.count + N.count ≤ 255) (x z : Word) where
  abbrev twin : Meaning T
  twin = twinned M N

  -- an answer over the twin, told of each word by its own grammar
  pub tells_of : TwinLaw 𝓣 M N → Closed M → Below M.count x → (y : Word) → z ≡ raised M.count y → (D : Sheet T) (o : List ℕ) (a : Outcome T) → Tells 𝓣 twin x z D o a → TellsOf 𝓣 M N x y o a
  tells_of law closed below y is_raised D o = go
    where
      in_second : (s : Input) → takes 𝓣 twin z s ≡ takes 𝓣 N y s
      in_second s = ap (λ v. takes 𝓣 twin v s) is_raised ∙ law.second few y s

      go : (a : Outcome T) → Tells 𝓣 twin x z D o a → TellsOf 𝓣 M N x y o a
      go Same t = λ s. sym (law.first closed x below s) ∙ t.0 s ∙ in_second s
      go (Different n p q) t =
          let s = take n o in
          let one : p ≡ takes 𝓣 M x s = t.one ∙ law.first closed x below s in
          let two : q ≡ takes 𝓣 N y s = t.two ∙ in_second s in
          (one, two, λ d. (differ_law 𝓣 twin x z s).0 t.differ (sym t.one ∙ d ∙ t.two))

  -- a question to a new comparer c
  module _ (room : ℕ) (c : Comparer T) (value : TakenUp 𝓣 twin c) (r : Result (Outcome T) CallFault) (without : (q : Refused) → Without c q → r ≡ Err (Grammar q.fault))
      (faults : (s : Survey T) → Over c s → (f : CallFault) → (r ≡ Err f) ↔ (compare_fault s.skeleton.words.count x z room ≡ Some f)) where
    -- the fault of what is given, over a survey of the twin, is that over both counts
    given : (s : Survey T) → Surveys 32 64 𝓣 twin s → compare_fault s.skeleton.words.count x z room ≡ fault_of 𝓣 M N x z room
    given s v =
        let sum : min 255 (M.count + N.count) ≡ M.count + N.count = omega arith in
        ap (λ n. compare_fault n x z room) (ap (λ (P : Meaning T). P.count) v.meaning ∙ sum)

    -- is refused for a fault of the twin, or, where that is accepted, of what is given
    pub refuses : (f : CallFault) → r ≡ Err f → Refuses 𝓣 M N x z room f
    refuses f is = go c.desk refl value
      where
        go : (k : Result (Desk T) Refused) → c.desk ≡ k → elim k as (λ x. Type 0) [ Ok k ↦ Surveys 32 64 𝓣 twin k.survey | Err q ↦ RefusedFor 32 64 𝓣 twin q.fault × (q.count ≡ twin.count) ] → Refuses 𝓣 M N x z room f
        go (Ok k) e v = inr (v.accepted, sym (given k.survey v) ∙ (faults k.survey (desk_over c k e) f).0 is)
        go (Err q) e v = inl (q.fault, v.0, err_same (sym is ∙ without q e))

    -- or is answered, and no other call was made
    pub answers : (o : List ℕ) (d : Comparer T) → Lawful 𝓣 c (compared x z room (asked r o)) d → ((s : Survey T) → Over c s → HistoryOver 𝓣 s [] (rows_of c)) →
        ((s : Survey T) → Over c s → (es : List (Event T)) → HistoryOver 𝓣 s es (rows_of c) → IfOk r (λ a. Tells 𝓣 (surveyed s) x z (weighed 𝓣 (surveyed s) (first_in s) (rows_of d)) o a)) →
        (a : Outcome T) → r ≡ Ok a → Answers 𝓣 M N x z room o (record { outcome = a; comparer = d })
    answers o d lawful begins verdict a is = go c.desk refl value
      where
        go : (k : Result (Desk T) Refused) → c.desk ≡ k → elim k as (λ x. Type 0) [ Ok k ↦ Surveys 32 64 𝓣 twin k.survey | Err q ↦ RefusedFor 32 64 𝓣 twin q.fault × (q.count ≡ twin.count) ] →
            Answers 𝓣 M N x z room o (record { outcome = a; comparer = d })
        go (Ok k) e v =
            let s = k.survey in
            let over = desk_over c k e in
            let told = subst (λ (q : Result (Outcome T) CallFault). IfOk q (λ b. Tells 𝓣 (surveyed s) x z (weighed 𝓣 (surveyed s) (first_in s) (rows_of d)) o b)) is (verdict s over [] (begins s over)) in
            record {
              survey = s;
              surveys = v;
              free = sym (given s v) ∙ no_fault (compare_fault s.skeleton.words.count x z room) (λ f g. ok_err (sym is ∙ (faults s over f).1 g));
              over = lawful.same_grammar.over s over;
              history = subst (λ (q : Result (Outcome T) CallFault). HistoryOver 𝓣 s (compared x z room (asked q o) ∷ []) (rows_of d)) is (lawful.history s over [] (begins s over));
              told = subst (λ (P : Meaning T). Tells 𝓣 P x z (weighed 𝓣 P (first_in s) (rows_of d)) o a) v.meaning told;
            }
        go (Err q) e v = absurd (ok_err (sym is ∙ without q e))

-- what was taken up of a twin, and its law, of grammars that are the same
pub same_twin : {T : Type 0} (𝓣 : Group T) (M N M' N' : Meaning T) → M' ≡ M → N' ≡ N → (c : Comparer T) → TakenUp 𝓣 (twinned M' N') c → TakenUp 𝓣 (twinned M N) c
same_twin {T} 𝓣 M N M' N' m n c value = subst (λ (P : Meaning T). TakenUp 𝓣 P c) (ap₂ twinned m n) value

pub same_law : {T : Type 0} (𝓣 : Group T) (M N M' N' : Meaning T) → M' ≡ M → N' ≡ N → TwinLaw 𝓣 M' N' → TwinLaw 𝓣 M N
same_law {T} 𝓣 M N M' N' m n law = subst (λ (P : Meaning T). TwinLaw 𝓣 P N) m (subst (λ (P : Meaning T). TwinLaw 𝓣 M' P) n law)
