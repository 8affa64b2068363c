-- An offer comes to the same over all norms and first inputs that a grammar has.
--
-- The idea: a grammar has one norm and one first input for each of its symbols, so norms and first inputs can only differ beyond them. The rows that are offered, and those that are there, are of its symbols and name no others.
--
-- offer_same   what an offer comes to over some norms and first inputs, it comes to over others
-- one_result   so it comes to one thing, whichever these are
--
-- Assumes nothing.
use Rattle.std.proofs.Common.{◌≡◌, ℕ, ◌+◌, ◌<◌, List, [], ◌∷◌, Some, None, Option, Ok, Result, refl, sym, ap, ap₂, ◌∙◌, subst}
use Rattle.std.specs.Option.{option_map}
use Rattle.tally.specs.Group.{Group}
use Rattle.grammar.specs.Meaning.{Word, Input, Weighted, Meaning, Below}
use Rattle.grammar.specs.Takes.{takes}
use Rattle.norm.specs.Norms.{Taken, Normed, norms}
use Rattle.norm.proofs.Lawful.{one_normed}
use Rattle.layout.specs.Contents.{FileRow, LegalRow}
use Rattle.rows.specs.Sheets.{View, difference, weighed, SelfProving}
use Rattle.sheet.specs.Rowed.{row_at, over}
use Rattle.sheet.specs.Candidates.{candidates}
use Rattle.sheet.proofs.Ended.{candidates_law}
use Rattle.agreement.specs.Agreeing.{FirstWrong}
use Rattle.calls.specs.Offers.{with_rows, rows_at, Passes, Pass, FailsFirst, Offered, malformed, marked, unlike, misses, disagrees, taken}
use Rattle.calls.specs.declared.test.Test.{Test}
use Rattle.calls.specs.declared.test.Test.TheVariants.{Free, Like, TakesFirst}
use Rattle.calls.specs.declared.fault.CallFault.{CallFault}
use Rattle.calls.proofs.Taking.{row_from}
use Rattle.calls.proofs.OneOffer.{one_offer}

-- norms that are equal at the symbols of a word
pub norms_same : (n : ℕ) (norm other : ℕ → ℕ) → ((A : ℕ) → A < n → norm A ≡ other A) → (w : Word) → Below n w → norms norm w ≡ norms other w
norms_same n norm other same [] b = refl
norms_same n norm other same (A ∷ w) b = ap₂ ◌+◌ (same A b.0) (norms_same n norm other same w b.1)

module _ {T : Type 0} (𝓣 : Group T) (M : Meaning T) (norm other : ℕ → ℕ) (first second : ℕ → Input) (V : View) (N : Normed 𝓣 M norm first) (K : Normed 𝓣 M other second) where
  same : (A : ℕ) → A < M.count → (norm A ≡ other A) × (first A ≡ second A)
  same = one_normed 𝓣 M norm other first second N K

  -- a row of the grammar's symbols passes the same tests
  passes_too : (t : Test) (A : ℕ) (w : Word) → A < M.count → Below M.count w → Passes 𝓣 M norm first V t A w → Passes 𝓣 M other second V t A w
  passes_too Free A w h b p = p
  passes_too Like A w h b p = record { weighs = sym (norms_same M.count norm other (λ B l. (same B l).0) w b) ∙ p.weighs ∙ (same A h).0; lower = p.lower }
  passes_too TakesFirst A w h b p = subst (λ s. Taken 𝓣 M w s) (same A h).1 p

  abbrev row_with : Input → ℕ → Word → Weighted T
  row_with s A w = record { word = w; tally = difference 𝓣 (takes 𝓣 M (A ∷ []) s) (takes 𝓣 M w s) }

  -- and rows of them have the same offsets
  pub weighed_too : (W : View) → ((A : ℕ) (w : Word) → W A ≡ Some w → A < M.count) → weighed 𝓣 M first W ≡ weighed 𝓣 M second W
  weighed_too W known = λ i A. at A (W A) refl i
    where
      at : (A : ℕ) (o : Option Word) → W A ≡ o → option_map (row_with (first A) A) o ≡ option_map (row_with (second A) A) o
      at A None e = refl
      at A (Some w) e = ap {B = Option (Weighted T)} (λ s. Some (row_with s A w)) (same A (known A w e)).1

module _ {T : Type 0} (𝓣 : Group T) (M : Meaning T) (V : View) (known : (A : ℕ) (w : Word) → V A ≡ Some w → A < M.count) (bs : List ℕ)
    (norm other : ℕ → ℕ) (first second : ℕ → Input) (N : Normed 𝓣 M norm first) (K : Normed 𝓣 M other second) where
  module _ (rs : List FileRow) (is : candidates M.count bs ≡ Ok rs) where
    -- a row that is offered
    legal : (A : ℕ) (w : Word) → rows_at rs A ≡ Some w → LegalRow M.count (record { symbol = A; word = w })
    legal A w e = row_from (LegalRow M.count) A rs w ((candidates_law M.count bs rs).0 is).0.each e

    pass_too : (t : Test) → Pass 𝓣 M norm first V t rs → Pass 𝓣 M other second V t rs
    pass_too t p A w e = let row = legal A w e in passes_too 𝓣 M norm other first second V N K t A w row.symbol row.word (p A w e)

    fails_too : (t : Test) (A : ℕ) → FailsFirst 𝓣 M norm first V t rs A → FailsFirst 𝓣 M other second V t rs A
    fails_too t A f = record { word = f.word; is = f.is; here = λ p. f.here (back A f.word f.is p); before = λ B w l e n. f.before B w l e (λ p. n (forth B w e p)) }
      where
        forth : (B : ℕ) (w : Word) → rows_at rs B ≡ Some w → Passes 𝓣 M norm first V t B w → Passes 𝓣 M other second V t B w
        forth B w e = let row = legal B w e in passes_too 𝓣 M norm other first second V N K t B w row.symbol row.word

        back : (B : ℕ) (w : Word) → rows_at rs B ≡ Some w → Passes 𝓣 M other second V t B w → Passes 𝓣 M norm first V t B w
        back B w e = let row = legal B w e in passes_too 𝓣 M other norm second first V K N t B w row.symbol row.word

    sheet_too : weighed 𝓣 M first (with_rows V rs) ≡ weighed 𝓣 M second (with_rows V rs)
    sheet_too = weighed_too 𝓣 M norm other first second V N K (with_rows V rs) (λ A w e. at A w (row_at A rs) refl e)
      where
        at : (A : ℕ) (w : Word) (o : Option Word) → row_at A rs ≡ o → over o (V A) ≡ Some w → A < M.count
        at A w None e d = known A w d
        at A w (Some v) e d = (legal A v e).symbol

  pub offer_same : (r : Result (List FileRow) CallFault) → Offered 𝓣 M norm first V bs r → Offered 𝓣 M other second V bs r
  offer_same _ (malformed f is) = malformed f is
  offer_same _ (marked rs A is x) = marked rs A is (fails_too rs is Free A x)
  offer_same _ (unlike rs A is a x) = unlike rs A is (pass_too rs is Free a) (fails_too rs is Like A x)
  offer_same _ (misses rs A is a b x) = misses rs A is (pass_too rs is Free a) (pass_too rs is Like b) (fails_too rs is TakesFirst A x)
  offer_same _ (disagrees rs d is a b h x) =
      disagrees rs d is (pass_too rs is Free a) (pass_too rs is Like b) (pass_too rs is TakesFirst h) (subst (λ D. FirstWrong 𝓣 M D d.symbol d.letter) (sheet_too rs is) x)
  offer_same _ (taken rs is a b h x) = taken rs is (pass_too rs is Free a) (pass_too rs is Like b) (pass_too rs is TakesFirst h) (subst (λ D. SelfProving 𝓣 M D) (sheet_too rs is) x)

  pub one_result : (r q : Result (List FileRow) CallFault) → Offered 𝓣 M norm first V bs r → Offered 𝓣 M other second V bs q → r ≡ q
  one_result r q x y = one_offer 𝓣 M other second V bs r q (offer_same r x) y
