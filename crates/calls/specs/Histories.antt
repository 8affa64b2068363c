-- Histories of calls with their answers, on one new comparer over one grammar that is not refused.
--
-- Comparing          a comparison's answer: refused, "same", or "different" with the input that is shown
-- Event T            a call with its answer
-- Next … V e W       the call of e, over the rows of V, gives the answer of e and leaves the rows of W: what the calls' definitions say, and no more
-- History … es V     the events es, the last one first, lead from no rows to the rows of V
--
-- Assumes nothing.
use Rattle.std.specs.Prelude.{◌≡◌, ℕ, ◌≤◌, List, [], ◌∷◌, length, Some, None, Option, Ok, Err, Result}
use Rattle.tally.specs.Group.{Group}
use Rattle.grammar.specs.Meaning.{Word, Input, Meaning}
use Rattle.grammar.specs.Takes.{takes, Differ}
use Rattle.layout.specs.Contents.{FileRow}
use Rattle.rows.specs.Sheets.{View}
use Rattle.comparison.specs.Procedure.{SaysSame, SaysDifferent}
use Rattle.calls.specs.Refusals.{compare_fault, run_fault, copy_fault}
use Rattle.calls.specs.Offers.{with_rows, Offered, copied}
use Rattle.calls.specs.declared.fault.CallFault.{CallFault}

pub data Comparing : Type 0 where
  refused : CallFault → Comparing
  same : Comparing
  different : Input → Comparing

pub data Event (T : Type 0) : Type 0 where
  -- the two words, and the length of the buffer
  compared : Word → Word → ℕ → Comparing → Event T
  -- the bytes, and the rows that were taken
  offered : List ℕ → Result (List FileRow) CallFault → Event T
  cleared : Event T
  ran : Word → Input → Result (Option T) CallFault → Event T
  -- the length of the buffer, and the bytes that were written
  copied_to : ℕ → Result (List ℕ) CallFault → Event T

module _ {T : Type 0} (𝓣 : Group T) (M : Meaning T) (norm : ℕ → ℕ) (first : ℕ → Input) where
  abbrev pub Alike : View → View → Type 0
  Alike V W = (A : ℕ) → W A ≡ V A

  pub data Next (V : View) : Event T → View → Type 0 where
    compare_refused : (x y : Word) (k : ℕ) (f : CallFault) (W : View) → compare_fault M.count x y k ≡ Some f → Alike V W → Next V (compared x y k (refused f)) W
    compare_same : (x y : Word) (k : ℕ) (W : View) → compare_fault M.count x y k ≡ None → SaysSame 𝓣 M norm first x y V W → Next V (compared x y k same) W
    compare_different : (x y : Word) (k : ℕ) (s : Input) (W : View) → compare_fault M.count x y k ≡ None → SaysDifferent 𝓣 M norm first x y V →
        Differ 𝓣 M x y s → length s ≤ 16384 → Alike V W → Next V (compared x y k (different s)) W
    offer_refused : (bs : List ℕ) (f : CallFault) (W : View) → Offered 𝓣 M norm first V bs (Err f) → Alike V W → Next V (offered bs (Err f)) W
    offer_taken : (bs : List ℕ) (rs : List FileRow) (W : View) → Offered 𝓣 M norm first V bs (Ok rs) → Alike (with_rows V rs) W → Next V (offered bs (Ok rs)) W
    clear_all : (W : View) → Alike (λ A. None) W → Next V cleared W
    run_refused : (w : Word) (s : Input) (f : CallFault) (W : View) → run_fault M.count w s ≡ Some f → Alike V W → Next V (ran w s (Err f)) W
    run_answered : (w : Word) (s : Input) (W : View) → run_fault M.count w s ≡ None → Alike V W → Next V (ran w s (Ok (takes 𝓣 M w s))) W
    copy_refused : (k : ℕ) (f : CallFault) (W : View) → copy_fault k ≡ Some f → Alike V W → Next V (copied_to k (Err f)) W
    copy_written : (k : ℕ) (W : View) → copy_fault k ≡ None → Alike V W → Next V (copied_to k (Ok (copied V))) W

  pub data History : List (Event T) → View → Type 0 where
    new : (V : View) → Alike (λ A. None) V → History [] V
    then : {es : List (Event T)} {V W : View} → History es V → (e : Event T) → Next V e W → History (e ∷ es) W
