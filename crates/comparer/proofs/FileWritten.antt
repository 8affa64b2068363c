-- A file that is written: what it is refused for, its bytes, and a file whose rows were taken, written back.
--
-- The idea: what is written is legal contents, and the only ones that hold the names, the kinds, the grammar and the rows of the comparer; so a file that holds just these has the same bytes.
--
-- Assumes nothing.
use Rattle.std.proofs.Common.{◌≡◌, ℕ, ◌+◌, ◌^◌, ◌<◌, ◌≤◌, List, [], ◌∷◌, ◌++◌, length, drop, Some, None, Option, Ok, Result, nat_lt, refl, sym, ap, ◌∙◌, subst, le-ltb, lt-ltb, arith, inl, inr}
use Rattle.std.proofs.lemmas.Bool.{cases_lt}
use Rattle.std.specs.Option.{unwrap_or}
use Rattle.tally.specs.Group.{Group}
use Rattle.grammar.proofs.Options.{none_some, some_none}
use Rattle.layout.specs.Contents.{Contents, rows_bytes, encode}
use Rattle.layout.specs.Laws.{Bytes}
use Rattle.layout.specs.Reading.{checked}
use Rattle.layout.specs.Wrong.{LegalNames, LegalKinds}
use Rattle.layout.proofs.Law.{file_law}
use Rattle.layout.proofs.Steps.{ok_same}
use Rattle.layout.proofs.Whole.{legal_names, legal_kinds}
use Rattle.format.specs.Kinds.{Lossless}
use Rattle.format.specs.Lent.{Wrote}
use Rattle.file_grammar.specs.Filed.{held, file_meaning}
use Rattle.rows.specs.Sheets.{View, Ranked}
use Rattle.sheet.specs.Rowed.{row_at, over}
use Rattle.survey.specs.Surveyed.{surveyed, norm_in, first_in}
use Rattle.survey.specs.declared.table.Survey.{Survey}
use Rattle.survey.specs.declared.fault.GrammarFault.{GrammarFault}
use Rattle.calls.specs.Refusals.{first_of, when, answered}
use Rattle.calls.specs.Offers.{with_rows, Offered}
use Rattle.calls.specs.declared.fault.CallFault.{CallFault}
use Rattle.calls.specs.declared.fault.CallFault.TheVariants.{Grammar, ShortCopy}
use Rattle.calls.proofs.Taking.{taken_stands}
use Rattle.writing.specs.Files.{file_of, file_faults, min_file, write_fault, refused_write}
use Rattle.writing.specs.Laws.{FileLaw}
use Rattle.writing.proofs.Names.{never_refused}
use Rattle.writing.proofs.Surveyed.{survey_law}
use Rattle.comparer.specs.Comparers.{rows_of, Over}
use Rattle.comparer.specs.declared.comparer.Comparer.{Comparer}
use Rattle.comparer.specs.declared.desk.Desk.{Desk}
use Rattle.comparer.proofs.Lawfulness.{desk_survey, over_some}

-- the first of some faults, and of more behind them
found_before : (os ps : List (Option CallFault)) (f : CallFault) → first_of os ≡ Some f → first_of (os ++ ps) ≡ Some f
found_before [] ps f e = absurd (none_some e)
found_before (None ∷ os) ps f e = found_before os ps f e
found_before (Some g ∷ os) ps f e = e

none_before : (os ps : List (Option CallFault)) → first_of os ≡ None → first_of (os ++ ps) ≡ first_of ps
none_before [] ps e = refl
none_before (None ∷ os) ps e = none_before os ps e
none_before (Some g ∷ os) ps e = absurd (some_none e)

one_first : (o : Option CallFault) → first_of (o ∷ []) ≡ o
one_first None = refl
one_first (Some f) = refl

module _ (n : ℕ) (ks names : List ℕ) (k : ℕ) where
  -- a fault of the names or the kinds
  pub names_fault : (f : CallFault) → first_of (file_faults n ks names) ≡ Some f → write_fault n ks names k ≡ Some f
  names_fault f e = found_before (file_faults n ks names) (when (nat_lt k min_file) (ShortCopy k) ∷ []) f e

  -- and without one, that of the room
  pub room_fault : first_of (file_faults n ks names) ≡ None → write_fault n ks names k ≡ when (nat_lt k min_file) (ShortCopy k)
  room_fault e = none_before (file_faults n ks names) (when (nat_lt k min_file) (ShortCopy k) ∷ []) e ∙ one_first (when (nat_lt k min_file) (ShortCopy k))

  pub room_there : when (nat_lt k min_file) (ShortCopy k) ≡ None → min_file ≤ k
  room_there e = elim (cases_lt k min_file) [ inl l ↦ absurd (some_none (sym (ap (λ b. when b (ShortCopy k)) (lt-ltb k min_file l)) ∙ e)) | inr l ↦ l ]

  pub enough : min_file ≤ k → when (nat_lt k min_file) (ShortCopy k) ≡ None
  enough l = ap (λ b. when b (ShortCopy k)) (le-ltb k min_file l)

  -- over a refused grammar
  pub refused_by : (f : CallFault) (g : GrammarFault) → first_of (file_faults n ks names) ≡ Some f → f ≡ refused_write n ks names g
  refused_by f g e = sym (ap (λ o. unwrap_or o (Grammar g)) e)

  pub refused_last : (g : GrammarFault) → first_of (file_faults n ks names) ≡ None → ◌≡◌ {A = CallFault} (Grammar g) (refused_write n ks names g)
  refused_last g e = sym (ap (λ o. unwrap_or o (Grammar g)) e)

-- what was written at the start of a buffer with room
pub file_there : (bs o p : List ℕ) (n : ℕ) → length o < 2 ^ 63 → length bs ≤ length o → Wrote o 0 bs n p → (n ≡ length bs) × (p ≡ bs ++ drop n o)
file_there bs o p n room fits w =
    let size : n ≡ length bs = omega (arith, w.place) in
    let from : 0 + length bs ≡ n = omega (arith, size) in
    (size, w.bytes (omega arith) ∙ ap (λ k. bs ++ drop k o) from)

over_none : (o : Option (List ℕ)) → over o None ≡ o
over_none None = refl
over_none (Some w) = refl

module _ {T : Type 0} (𝓣 : Group T) (ks : List ℕ) (numbers : T → List ℕ) (made : ℕ → ℕ → T) (lossless : Lossless ks numbers made) (c : Comparer T) (s : Survey T) (at : Over c s) where
  abbrev pub contents : List ℕ → Contents
  contents names = file_of names ks numbers (surveyed s) (rows_of c)

  pub written_law : (names : List ℕ) → Ranked s.skeleton.words.count (norm_in s) (rows_of c) → first_of (file_faults s.skeleton.words.count ks names) ≡ None →
      FileLaw names ks made (surveyed s) (rows_of c) (contents names)
  written_law names ranked e = survey_law 𝓣 s (over_some c s at) ks numbers made lossless (rows_of c) names ranked e

  -- what the write comes to where nothing is refused
  pub record Filed (names : List ℕ) (o p : List ℕ) (n : ℕ) : Type 0 where
    pub answer : Ok n ≡ answered (write_fault s.skeleton.words.count ks names (length o)) (length (encode (contents names)))
    pub bytes : (k : ℕ) → ◌≡◌ {A = Result ℕ CallFault} (Ok n) (Ok k) → p ≡ encode (contents names) ++ drop k o

  pub filed : (d : Desk T) → c.desk ≡ Ok d → (names : List ℕ) (V : View) → ((A : ℕ) → V A ≡ rows_of c A) → (o p : List ℕ) (n : ℕ) → length o < 2 ^ 63 → Ranked s.skeleton.words.count (norm_in s) (rows_of c) →
      first_of (file_faults s.skeleton.words.count ks names) ≡ None → when (nat_lt (length o) min_file) (ShortCopy (length o)) ≡ None →
      (first_of (file_faults d.survey.skeleton.words.count ks names) ≡ None → Wrote o 0 (encode (file_of names ks numbers (surveyed d.survey) V)) n p) → Filed names o p n
  filed d is names V lent o p n small ranked none room wrote =
      let same : d.survey ≡ s = desk_survey c d s is at in
      let w : Wrote o 0 (encode (contents names)) n p =
      subst (λ (W : View). Wrote o 0 (encode (file_of names ks numbers (surveyed s) W)) n p) (λ i A. lent A i)
      (subst (λ (t : Survey T). first_of (file_faults t.skeleton.words.count ks names) ≡ None → Wrote o 0 (encode (file_of names ks numbers (surveyed t) V)) n p) same wrote none) in
      let short = (written_law names ranked none).short in
      let there = room_there s.skeleton.words.count ks names (length o) room in
      let file = file_there (encode (contents names)) o p n small (omega arith) w in
      record {
        answer = ap {B = Result ℕ CallFault} Ok file.0 ∙ sym (ap (λ f. answered f (length (encode (contents names)))) (room_fault s.skeleton.words.count ks names (length o) none ∙ room));
        bytes = λ k e. file.1 ∙ ap (λ m. encode (contents names) ++ drop m o) (ok_same e);
      }

  -- a file whose rows were taken
  module _ (bs : List ℕ) (d : Contents) (bytes : Bytes bs) (good : checked ks bs ≡ Ok d) (same : file_meaning ks made bs ≡ surveyed s)
      (offer : Offered 𝓣 (surveyed s) (norm_in s) (first_in s) (λ A. None) (rows_bytes d.rows) (Ok d.rows)) (rows : (A : ℕ) → rows_of c A ≡ with_rows (λ B. None) d.rows A) (names : List ℕ) (named : names ≡ d.names) where
    pub back_ranked : Ranked s.skeleton.words.count (norm_in s) (rows_of c)
    back_ranked =
        let stands = (taken_stands 𝓣 (surveyed s) (norm_in s) (first_in s) (λ A. None) d.rows (rows_bytes d.rows) (λ A w e. absurd (none_some e)) offer).0 in
        subst (λ (V : View). Ranked s.skeleton.words.count (norm_in s) V) (λ i A. sym (rows A) i) stands.ranked

    grammar : held made (Ok d) ≡ surveyed s
    grammar = ap (held made) (sym good) ∙ same

    pub back_unrefused : first_of (file_faults s.skeleton.words.count ks names) ≡ None
    back_unrefused =
        let read = ((file_law ks bs bytes).accepted d).0 good in
        let count : length names ≡ s.skeleton.words.count = ap length named ∙ ap (λ M. M.count) grammar in
        subst (λ n. first_of (file_faults n ks names) ≡ None) count
        (never_refused ks names (subst LegalNames (sym named) (legal_names d read.0)) (subst LegalKinds read.1 (legal_kinds d read.0)))

    -- it is what is written
    pub back_bytes : encode (contents names) ≡ bs
    back_bytes =
        let read = ((file_law ks bs bytes).accepted d).0 good in
        let law = written_law names back_ranked back_unrefused in
        let is : d ≡ contents names = law.only d read.0 (record { names = sym named; kinds = read.1; grammar = grammar; rows = λ A. sym (over_none (row_at A d.rows)) ∙ sym (rows A) }) in
        ap encode (sym is) ∙ sym read.2

    -- so the answer, and the buffer, are these
    pub back : (o p : List ℕ) (r : Result ℕ CallFault) → min_file ≤ length o →
        (Ranked s.skeleton.words.count (norm_in s) (rows_of c) → r ≡ answered (write_fault s.skeleton.words.count ks names (length o)) (length (encode (contents names)))) →
        (Ranked s.skeleton.words.count (norm_in s) (rows_of c) → (n : ℕ) → r ≡ Ok n → p ≡ encode (contents names) ++ drop n o) → (r ≡ Ok (length bs)) × (p ≡ bs ++ drop (length bs) o)
    back o p r room over out =
        let none : write_fault s.skeleton.words.count ks names (length o) ≡ None = room_fault s.skeleton.words.count ks names (length o) back_unrefused ∙ enough s.skeleton.words.count ks names (length o) room in
        let told : r ≡ Ok (length bs) = over back_ranked ∙ ap (λ f. answered f (length (encode (contents names)))) none ∙ ap {B = Result ℕ CallFault} (λ (b : List ℕ). Ok (length b)) back_bytes in
        (told, out back_ranked (length bs) told ∙ ap (λ (b : List ℕ). b ++ drop (length bs) o) back_bytes)
