-- Offers of rows, and copies, over the rows of a view.
--
-- with_rows V rs      the rows of V, and those of rs for their symbols
-- rows_in V n         the rows of V for symbols below n, by symbol
-- AllOf P U            P holds of each row of U
-- FirstOf P U A        A is the first symbol with a row of U of which P holds
-- Offered … V bs r    what the offer of the bytes bs comes to over the rows of V: the rows, which are taken; or the fault
-- copied V            the bytes of a copy: a section of the rows of V
--
-- Assumes nothing.
use Rattle.std.specs.Prelude.{◌≡◌, ℕ, zero, suc, ◌<◌, List, [], ◌++◌, Some, None, Ok, Err, Result}
use Rattle.std.specs.Option.{option_map, option_to_list}
use Rattle.tally.specs.Group.{Group}
use Rattle.grammar.specs.Meaning.{Word, Input, Meaning}
use Rattle.norm.specs.Norms.{Taken}
use Rattle.layout.specs.Contents.{FileRow, rows_bytes}
use Rattle.layout.specs.declared.fault.Fault.{Fault}
use Rattle.rows.specs.Sheets.{View, weighed, SelfProving}
use Rattle.sheet.specs.Rowed.{row_at, over}
use Rattle.sheet.specs.Candidates.{candidates}
use Rattle.agreement.specs.Agreeing.{FirstWrong, MayStand}
use Rattle.agreement.specs.declared.agreeing.Disagreement.{Disagreement}
use Rattle.calls.specs.declared.test.Test.{Test}
use Rattle.calls.specs.declared.test.Test.TheVariants.{Free, Like, TakesFirst}
use Rattle.calls.specs.declared.fault.CallFault.{CallFault}
use Rattle.calls.specs.declared.fault.CallFault.TheVariants.{File, Marked, Unlike, Misses, Disagrees}

abbrev pub with_rows : View → List FileRow → View
with_rows V rs A = over (row_at A rs) (V A)

abbrev pub rows_in : View → ℕ → List FileRow
rows_in V zero = []
rows_in V (suc n) = rows_in V n ++ option_to_list (option_map (λ w. record { symbol = n; word = w }) (V n))

abbrev pub copied : View → List ℕ
copied V = rows_bytes (rows_in V 32)

-- the rows that are offered, as a view
abbrev pub rows_at : List FileRow → View
rows_at rs A = row_at A rs

abbrev pub AllOf : (ℕ → Word → Type 0) → View → Type 0
AllOf P U = (A : ℕ) (w : Word) → U A ≡ Some w → P A w

pub record FirstOf (P : ℕ → Word → Type 0) (U : View) (A : ℕ) : Type 0 where
  pub word : Word
  pub is : U A ≡ Some word
  pub here : P A word
  pub before : (B : ℕ) (w : Word) → B < A → U B ≡ Some w → ¬ P B w

-- the fault of a row that does not pass
abbrev pub fault_of : Test → ℕ → CallFault
fault_of Free A = Marked A
fault_of Like A = Unlike A
fault_of TakesFirst A = Misses A

module _ {T : Type 0} (𝓣 : Group T) (M : Meaning T) (norm : ℕ → ℕ) (first : ℕ → Input) (V : View) where
  -- the symbol of the row has no row yet; the word has the symbol's norm, and is not one symbol of no smaller number; it takes the symbol's first input
  abbrev pub Passes : Test → ℕ → Word → Type 0
  Passes Free A w = V A ≡ None
  Passes Like A w = MayStand norm A w
  Passes TakesFirst A w = Taken 𝓣 M w (first A)

  abbrev pub Pass : Test → List FileRow → Type 0
  Pass t rs = AllOf (Passes t) (rows_at rs)

  abbrev pub FailsFirst : Test → List FileRow → ℕ → Type 0
  FailsFirst t rs = FirstOf (λ A w. ¬ Passes t A w) (rows_at rs)

  pub data Offered (bs : List ℕ) : Result (List FileRow) CallFault → Type 0 where
    -- 1, 2, 4 to 6
    malformed : (f : Fault) → candidates M.count bs ≡ Err f → Offered bs (Err (File f))
    -- 17
    marked : (rs : List FileRow) (A : ℕ) → candidates M.count bs ≡ Ok rs → FailsFirst Free rs A → Offered bs (Err (Marked A))
    -- 18
    unlike : (rs : List FileRow) (A : ℕ) → candidates M.count bs ≡ Ok rs → Pass Free rs → FailsFirst Like rs A → Offered bs (Err (Unlike A))
    -- 19
    misses : (rs : List FileRow) (A : ℕ) → candidates M.count bs ≡ Ok rs → Pass Free rs → Pass Like rs → FailsFirst TakesFirst rs A → Offered bs (Err (Misses A))
    -- 20
    disagrees : (rs : List FileRow) (d : Disagreement) → candidates M.count bs ≡ Ok rs → Pass Free rs → Pass Like rs → Pass TakesFirst rs →
        FirstWrong 𝓣 M (weighed 𝓣 M first (with_rows V rs)) d.symbol d.letter → Offered bs (Err (Disagrees d))
    taken : (rs : List FileRow) → candidates M.count bs ≡ Ok rs → Pass Free rs → Pass Like rs → Pass TakesFirst rs →
        SelfProving 𝓣 M (weighed 𝓣 M first (with_rows V rs)) → Offered bs (Ok rs)
