-- The law over histories of calls.
--
-- Each P es            P holds of each event
-- Decided … e          a comparison that is not refused says "same" exactly when the words take the same inputs with the same tallies; else it shows a short input on which they differ
-- SinceClear P es      P holds of each event since the last clear
-- ProvedBy … D e       where e is a "same", the sheet D proves it: both words have one normal form, with equal sums
-- CarriesOver … V      the rows of V are true, and fewer than the symbols; a copy of them is taken by every new comparer over a grammar of this meaning, which then has just these rows
-- Law … es V           all three, of a history and the rows that it leads to
-- HistoriesLaw 𝓣       every history has them, for every accepted grammar
-- OneOffer 𝓣           an offer comes to one thing: the rows, or one fault
--
-- Assumes nothing.
use Rattle.std.specs.Prelude.{◌≡◌, ℕ, ◌<◌, ◌≤◌, List, [], ◌∷◌, length, Some, None, Ok, Result}
use Rattle.tally.specs.Group.{Group}
use Rattle.grammar.specs.Meaning.{Word, Input, Weighted, Meaning, WellFormed}
use Rattle.grammar.specs.Takes.{Same, Differ}
use Rattle.norm.specs.Norms.{Normed}
use Rattle.layout.specs.Contents.{FileRow}
use Rattle.rows.specs.Sheets.{View, Sheet, weighed, Proves, TrueRow, marked}
use Rattle.survey.specs.Refusals.{Accepted}
use Rattle.calls.specs.Offers.{with_rows, Offered, copied}
use Rattle.calls.specs.declared.fault.CallFault.{CallFault}
use Rattle.calls.specs.Histories.{Comparing, same, different, refused, Event, compared, offered, cleared, ran, copied_to, History}

module _ {T : Type 0} where
  abbrev pub Each : (Event T → Type 0) → List (Event T) → Type 0
  Each P [] = Unit {0}
  Each P (e ∷ es) = P e × Each P es

  -- the last event stands first
  abbrev pub SinceClear : (Event T → Type 0) → List (Event T) → Type 0
  SinceClear P [] = Unit {0}
  SinceClear P (cleared ∷ es) = Unit {0}
  SinceClear P (compared x y k r ∷ es) = P (compared x y k r) × SinceClear P es
  SinceClear P (offered bs r ∷ es) = P (offered bs r) × SinceClear P es
  SinceClear P (ran w s r ∷ es) = P (ran w s r) × SinceClear P es
  SinceClear P (copied_to k r ∷ es) = P (copied_to k r) × SinceClear P es

module _ {T : Type 0} (𝓣 : Group T) (M : Meaning T) where
  pub record Short (x y : Word) (s : Input) : Type 0 where
    pub differ : Differ 𝓣 M x y s
    pub short : length s ≤ 16384

  abbrev pub Decides : Word → Word → Comparing → Type 0
  Decides x y (refused f) = Unit {0}
  Decides x y same = Same 𝓣 M x y
  Decides x y (different s) = (¬ Same 𝓣 M x y) × Short x y s

  abbrev pub Decided : Event T → Type 0
  Decided (compared x y k r) = Decides x y r
  Decided (offered bs r) = Unit {0}
  Decided cleared = Unit {0}
  Decided (ran w s r) = Unit {0}
  Decided (copied_to k r) = Unit {0}

  abbrev pub ProvedBy : Sheet T → Event T → Type 0
  ProvedBy D (compared x y k same) = Proves 𝓣 D x y
  ProvedBy D (compared x y k (refused f)) = Unit {0}
  ProvedBy D (compared x y k (different s)) = Unit {0}
  ProvedBy D (offered bs r) = Unit {0}
  ProvedBy D cleared = Unit {0}
  ProvedBy D (ran w s r) = Unit {0}
  ProvedBy D (copied_to k r) = Unit {0}

  module _ (norm : ℕ → ℕ) (first : ℕ → Input) where
    pub record CarriesOver (V : View) : Type 0 where
      pub true_rows : (A : ℕ) (m : Weighted T) → weighed 𝓣 M first V A ≡ Some m → TrueRow 𝓣 M A m
      pub fewer : marked V M.count < M.count
      -- offered to a comparer without rows, the copy is taken, and these are the rows then
      pub taken : (E : View) → ((A : ℕ) → E A ≡ None) →
          (rs : List FileRow) × Offered 𝓣 M norm first E (copied V) (Ok rs) × ((A : ℕ) → with_rows E rs A ≡ V A)

    pub record Law (es : List (Event T)) (V : View) : Type 0 where
      pub decides : Each Decided es
      pub proves : SinceClear (ProvedBy (weighed 𝓣 M first V)) es
      pub carries : CarriesOver V

abbrev pub HistoriesLaw : {T : Type 0} → Group T → Type 0
HistoriesLaw {T} 𝓣 = (M : Meaning T) (norm : ℕ → ℕ) (first : ℕ → Input) → WellFormed M → Accepted 32 64 𝓣 M → Normed 𝓣 M norm first →
    (es : List (Event T)) (V : View) → History 𝓣 M norm first es V → Law 𝓣 M norm first es V

abbrev pub OneOffer : {T : Type 0} → Group T → Type 0
OneOffer {T} 𝓣 = (M : Meaning T) (norm : ℕ → ℕ) (first : ℕ → Input) (V : View) (bs : List ℕ) (r q : Result (List FileRow) CallFault) →
    Offered 𝓣 M norm first V bs r → Offered 𝓣 M norm first V bs q → r ≡ q
