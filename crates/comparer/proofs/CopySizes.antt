-- How long a copy is: fewer rows than symbols, so at most 31, of at most 66 bytes each, and one byte before them. Assumes nothing.
use Rattle.std.proofs.Common.{◌≡◌, ℕ, ◌≤◌, List, ◌++◌, length, take, drop, Some, None, Option, Ok, Err, Result, sym, refl, ap, ap₂, ◌∙◌, subst, lt-ltb, inl, inr, arith}
use Rattle.std.proofs.Math.Seq.{take-append_seam}
use Rattle.std.proofs.lemmas.Bool.{cases_lt}
use Rattle.tally.specs.Group.{Group}
use Rattle.grammar.proofs.Options.{some_none}
use Rattle.layout.proofs.Steps.{ok_err, err_same}
use Rattle.rows.specs.Sheets.{View, Ranked}
use Rattle.survey.specs.Surveyed.{norm_in}
use Rattle.survey.specs.declared.table.Survey.{Survey}
use Rattle.calls.specs.Refusals.{copy_fault, when, answered, unless}
use Rattle.calls.specs.Offers.{rows_in, copied}
use Rattle.calls.specs.Histories.{copied_to, copy_written}
use Rattle.calls.specs.declared.fault.CallFault.{CallFault}
use Rattle.calls.specs.declared.fault.CallFault.TheVariants.{ShortCopy}
use Rattle.writing.proofs.Rows.{rows_legal}
use Rattle.writing.proofs.Sizes.{rows_short}
use Rattle.comparer.specs.Comparers.{rows_of, Over}
use Rattle.comparer.specs.declared.comparer.Comparer.{Comparer}
use Rattle.comparer.proofs.Unless.{no_fault, a_fault}
use Rattle.comparer.proofs.Lawfulness.{Step, over_some}

module _ {T : Type 0} (𝓣 : Group T) (s : Survey T) (some : 1 ≤ s.skeleton.words.count) (V : View) (ranked : Ranked s.skeleton.words.count (norm_in s) V) where
  -- a copy of ranked rows has room wherever a copy is not refused
  pub copy_short : length (copied V) ≤ 2047
  copy_short = rows_short s.skeleton.words.count (rows_in V 32) (rows_legal 𝓣 s some V ranked)

pub copy_room : (k : ℕ) → copy_fault k ≡ None → 2047 ≤ k
copy_room k e = elim (cases_lt k 2047) [ inl l ↦ absurd (some_none (sym (ap (λ b. when b (ShortCopy k)) (lt-ltb k 2047 l)) ∙ e)) | inr l ↦ l ]

-- the answer to a copy that is not refused, and what the buffer holds then
pub record Written (V : View) (out new : List ℕ) (n : ℕ) : Type 0 where
  pub fits : copy_fault (length out) ≡ None
  pub value : n ≡ length (copied V)
  pub rest : new ≡ copied V ++ drop (length (copied V)) out
  pub front : take n new ≡ copied V

module _ {T : Type 0} (𝓣 : Group T) (c : Comparer T) (W : View) (out new : List ℕ) (n : ℕ) (s : Survey T) where
  -- the rows of a comparer are written, as they are lent
  pub written : ((A : ℕ) → W A ≡ rows_of c A) → copy_fault (length out) ≡ None → (length (copied W) ≤ length out → n ≡ length (copied W)) →
      (length (copied W) ≤ length out → new ≡ copied W ++ drop (length (copied W)) out) → Over c s → Ranked s.skeleton.words.count (norm_in s) (rows_of c) → Written (rows_of c) out new n
  written lent fits value rest over ranked =
      let room = copy_room (length out) fits in
      let short = copy_short 𝓣 s (over_some c s over) (rows_of c) ranked in
      let e : copied W ≡ copied (rows_of c) = λ i. copied (λ A. lent A i) in
      let l : length (copied W) ≤ length out = subst (λ (bs : List ℕ). length bs ≤ length out) (sym e) (omega arith) in
      let v = subst (λ (bs : List ℕ). n ≡ length bs) e (value l) in
      let r = subst (λ (bs : List ℕ). new ≡ bs ++ drop (length bs) out) e (rest l) in
      record { fits = fits; value = v; rest = r; front = ap₂ take v r ∙ take-append_seam (copied (rows_of c)) (drop (length (copied (rows_of c))) out) }

  -- so the answer is their length
  pub written_answer : Written (rows_of c) out new n → Ok n ≡ answered (copy_fault (length out)) (length (copied (rows_of c)))
  written_answer w = ap {B = Result ℕ CallFault} Ok w.value ∙ sym (ap (λ o. answered o (length (copied (rows_of c)))) w.fits)

  -- and a history goes on with the copy
  pub written_step : Written (rows_of c) out new n → Step 𝓣 s (rows_of c) (copied_to (length out) (Ok (take n new))) (rows_of c)
  written_step w =
      subst (λ (bs : List ℕ). Step 𝓣 s (rows_of c) (copied_to (length out) (Ok bs)) (rows_of c)) (sym w.front) (copy_written (length out) (rows_of c) w.fits (λ A. refl))
