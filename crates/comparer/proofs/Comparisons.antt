-- What a comparison is refused for, and the step of a history that it takes.
--
-- The idea: words that are not refused have at most 8 known symbols, and the buffer has room for the longest input. So what the procedure says stands, and the input on which the words differ is short enough to be shown.
--
-- Assumes nothing.
use Rattle.std.proofs.Common.{◌≡◌, ℕ, ◌≤◌, ◌↔◌, nat_lt, List, [], ◌∷◌, length, Some, None, Option, Ok, Err, Result, sym, refl, ap, ◌∙◌, subst, lt-ltb, inl, inr, length-take-le, arith}
use Rattle.std.proofs.lemmas.Bool.{cases_lt}
use Rattle.tally.specs.Group.{Group}
use Rattle.grammar.specs.Meaning.{Word, Input, Meaning}
use Rattle.grammar.proofs.Options.{some_none, some_same}
use Rattle.layout.proofs.Steps.{ok_err, err_same}
use Rattle.rows.specs.Sheets.{View, SelfProving, Ranked}
use Rattle.survey.specs.Surveyed.{surveyed, norm_in, first_in}
use Rattle.survey.specs.declared.table.Survey.{Survey}
use Rattle.agreement.specs.Works.{rows_over}
use Rattle.witness.specs.History.{Given}
use Rattle.walk.specs.Inputs.{letters}
use Rattle.walk.specs.declared.letters.Letters.{Letters}
use Rattle.comparison.specs.Procedure.{SaysSame, SaysDifferent}
use Rattle.comparison.specs.Deciding.{Shown}
use Rattle.calls.specs.Refusals.{first_of, when, too_long, strays, compare_fault, unless}
use Rattle.calls.specs.Histories.{compared, refused, same, different, compare_refused, compare_same, compare_different}
use Rattle.calls.specs.declared.answer.Answer.{Answer}
use Rattle.calls.specs.declared.fault.CallFault.{CallFault}
use Rattle.calls.specs.declared.fault.CallFault.TheVariants.{LongWord, ShortBuffer}
use Rattle.calls.proofs.Comparisons.{compared_known}
use Rattle.comparer.specs.Comparers.{rows_of, Over, SameGrammar}
use Rattle.comparer.specs.Lawful.{Lawful}
use Rattle.comparer.specs.declared.comparer.Comparer.{Comparer}
use Rattle.comparer.specs.declared.desk.Desk.{Desk}
use Rattle.comparer.proofs.Unless.{no_fault, a_fault}
use Rattle.comparer.proofs.Lawfulness.{desk_survey, desk_over, never_without, Stands, Step, lawful, lawful_still}

-- letters in place are no more than the longest input
pub letters_short : (l : Letters) → length (letters l) ≤ 16384
letters_short l =
    let within = l.within in
    let room = l.room in
    let size = length-take-le l.len l.bytes (omega arith) in
    omega arith

-- of what is not refused nothing is wrong
none_first : (o : Option CallFault) (os : List (Option CallFault)) → first_of (o ∷ os) ≡ None → (o ≡ None) × (first_of os ≡ None)
none_first None os e = (refl, e)
none_first (Some f) os e = absurd (some_none e)

when_none : (k n : ℕ) (f : CallFault) → when (nat_lt k n) f ≡ None → n ≤ k
when_none k n f e = elim (cases_lt k n) [ inl l ↦ absurd (some_none (sym (ap (λ b. when b f) (lt-ltb k n l)) ∙ e)) | inr l ↦ l ]

module _ {T : Type 0} (M : Meaning T) (x y : Word) (room : ℕ) where
  -- what a comparison is given that is not refused
  pub record Allowed : Type 0 where
    pub none : compare_fault M.count x y room ≡ None
    pub one : Given M x
    pub two : Given M y
    pub fits : 16384 ≤ room

  allowed : compare_fault M.count x y room ≡ None → Allowed
  allowed e =
      let n = M.count in
      let known = compared_known n x y room e in
      let last = when (nat_lt room 16384) (ShortBuffer room) in
      let one = none_first (too_long 1 x) (too_long 2 y ∷ strays 1 n x ∷ strays 2 n y ∷ last ∷ []) e in
      let two = none_first (too_long 2 y) (strays 1 n x ∷ strays 2 n y ∷ last ∷ []) one.1 in
      let behind = none_first (strays 2 n y) (last ∷ []) (none_first (strays 1 n x) (strays 2 n y ∷ last ∷ []) two.1).1 in
      record {
        none = e;
        one = (known.0, when_none 8 (length x) (LongWord 1 (length x)) one.0);
        two = (known.1, when_none 8 (length y) (LongWord 2 (length y)) two.0);
        fits = when_none room 16384 (ShortBuffer room) (none_first last [] behind.1).0;
      }

module _ {T : Type 0} (𝓣 : Group T) (c : Comparer T) (k : Desk T) (is : c.desk ≡ Ok k) (x y : Word) (room : ℕ) where
  -- what is so of the desk's survey is so of the one that there is
  at_survey : (P : Survey T → Type 0) → P k.survey → (s : Survey T) → Over c s → P s
  at_survey P p s o = subst P (desk_survey c k s is o) p

  abbrev fault : Survey T → Option CallFault
  fault s = compare_fault s.skeleton.words.count x y room

  -- with what the check tells
  module _ (n : ℕ) (count : n ≡ k.survey.skeleton.words.count) (r : Result (Unit {0}) CallFault) (told : r ≡ unless (compare_fault n x y room)) where
    checked : unless (fault k.survey) ≡ r
    checked = sym (told ∙ ap (λ m. unless (compare_fault m x y room)) count)

    pub not_refused : {u : Unit {0}} → r ≡ Ok u → Allowed (surveyed k.survey) x y room
    not_refused e = allowed (surveyed k.survey) x y room (no_fault (fault k.survey) (checked ∙ e))

    -- then what is found fits the buffer
    pub found_fits : {u : Unit {0}} → r ≡ Ok u → (l : Letters) (i : Input) → i ≡ letters l → length i ≤ room
    found_fits e l i is =
        let fits = (not_refused e).fits in
        let short = subst (λ j. length j ≤ 16384) (sym is) (letters_short l) in
        omega arith

    refused_for : {f : CallFault} → r ≡ Err f → fault k.survey ≡ Some f
    refused_for e = a_fault (fault k.survey) (checked ∙ e)

    pub refused_exactly : (f : CallFault) → r ≡ Err f → (s : Survey T) → Over c s → (h : CallFault) → (◌≡◌ {A = Result Answer CallFault} (Err f) (Err h)) ↔ (fault s ≡ Some h)
    refused_exactly f e =
        let for = refused_for e in
        at_survey (λ s. (h : CallFault) → (◌≡◌ {A = Result Answer CallFault} (Err f) (Err h)) ↔ (fault s ≡ Some h))
        (λ h. (λ d. for ∙ ap {B = Option CallFault} Some (err_same d), λ d. ap {B = Result Answer CallFault} Err (some_same (sym for ∙ d))))

    pub refused_lawful : (f : CallFault) → r ≡ Err f → Lawful 𝓣 c (compared x y room (refused f)) (record { desk = Ok k; sheet = c.sheet })
    refused_lawful f e =
        lawful_still 𝓣 c (record { desk = Ok k; sheet = c.sheet }) (compared x y room (refused f)) (sym is) (λ A. refl)
        (λ s o stands. compare_refused x y room f (rows_of c) (at_survey (λ t. fault t ≡ Some f) (refused_for e) s o) (λ A. refl))

  abbrev Order : Survey T → Type 0
  Order s = Ranked s.skeleton.words.count (norm_in s) (rows_of c)

  -- what the procedure says, with the rows that are left
  abbrev SaidSame : View → Survey T → Type 0
  SaidSame W s = SaysSame 𝓣 (surveyed s) (norm_in s) (first_in s) x y (rows_of c) W

  abbrev SaidDifferent : View → Survey T → Type 0
  SaidDifferent W s = SaysDifferent 𝓣 (surveyed s) (norm_in s) (first_in s) x y (rows_of c) × ((A : ℕ) → W A ≡ rows_of c A)

  pub says_same : (W : View) → (Order k.survey → SaidSame W k.survey) → (s : Survey T) → Over c s → Order s → SaidSame W s
  says_same W = at_survey (λ s. Order s → SaidSame W s)

  pub says_different : (W : View) → (Order k.survey → SaidDifferent W k.survey) → (s : Survey T) → Over c s → Order s → SaidDifferent W s
  says_different W = at_survey (λ s. Order s → SaidDifferent W s)

  -- after a comparison that is not refused, which keeps the survey
  module _ (d : Comparer T) (l : Desk T) (after : d.desk ≡ Ok l) (kept : l.survey ≡ k.survey) where
    one_grammar : SameGrammar c d
    one_grammar = record {
      over = λ s o. subst (λ t. Over d t) (kept ∙ desk_survey c k s is o) (desk_over d l after);
      without = λ r w. absurd (never_without c k r is w);
    }

    module _ (a : Allowed (surveyed k.survey) x y room) where
      pub same_lawful : (Order k.survey → SaidSame (rows_of d) k.survey) → Lawful 𝓣 c (compared x y room same) d
      same_lawful says =
          lawful 𝓣 c d (compared x y room same) one_grammar
          (at_survey (λ s. Stands 𝓣 s (rows_of c) → Step 𝓣 s (rows_of c) (compared x y room same) (rows_of d))
          (λ stands. compare_same x y room (rows_of d) a.none (says stands.ranked)))

      -- with what the buffer shows
      pub different_lawful : (i o : Input) → o ≡ i → (Order k.survey → SaidDifferent (rows_of d) k.survey) →
          (Order k.survey → SelfProving 𝓣 (surveyed k.survey) (rows_over 𝓣 k.survey (rows_of c)) → Shown 𝓣 k.survey x y i) → Lawful 𝓣 c (compared x y room (different o)) d
      different_lawful i o e says shown = subst (λ t. Lawful 𝓣 c (compared x y room (different t)) d) (sym e)
          (lawful 𝓣 c d (compared x y room (different i)) one_grammar
          (at_survey (λ s. Stands 𝓣 s (rows_of c) → Step 𝓣 s (rows_of c) (compared x y room (different i)) (rows_of d)) step))
        where
          step : Stands 𝓣 k.survey (rows_of c) → Step 𝓣 k.survey (rows_of c) (compared x y room (different i)) (rows_of d)
          step stands =
              let says = says stands.ranked in
              let shown = shown stands.ranked stands.proving in
              let few = k.survey.skeleton.words.few in
              let short = shown.short in
              compare_different x y room i (rows_of d) a.none says.0 shown.differ (omega arith) says.1
