-- What the listing of a file's bytes is.
--
-- Smallest 𝓣 M A B       B is the smallest symbol that takes the same inputs with the same tallies as A
-- no_rows                no symbol has a row
-- grammar 𝓣 made c       the grammar of the checked contents c, whose tallies made makes of two numbers
-- Lists 𝓣 made c t       t is the text for the contents c
-- ListsFor ks c t        the same for the tally of the kinds ks: none, one, or two that rise
-- Told o t               t is the text for what the check of a file comes to
-- Listed bs t            t is the listing of the bytes bs, for the kinds that they state
-- OneListing bs          bytes have one listing
--
-- Assumes nothing.
use Rattle.std.specs.Prelude.{◌≡◌, ℕ, ◌<◌, List, [], ◌∷◌, None, Ok, Err, Result}
use Rattle.tally.specs.Group.{Group}
use Rattle.tally.specs.Makes.{untallied_group, foot_group, last_group, odd_group, pair_group}
use Rattle.grammar.specs.Meaning.{Input, Meaning}
use Rattle.grammar.specs.Takes.{Same}
use Rattle.norm.specs.Norms.{Normed}
use Rattle.layout.specs.Contents.{Contents, rows_bytes}
use Rattle.layout.specs.Reading.{checked_any}
use Rattle.layout.specs.Faults as files
use Rattle.layout.specs.declared.fault.Fault.{Fault}
use Rattle.layout.specs.declared.kind.Kind.TheVariants.{Foot, Last, OddOnes}
use Rattle.format.specs.Kinds.{untallied_kinds, untallied_made, only_kinds, only_made, foot_numbered, last_numbered, odd_numbered, pair_kinds, pair_made}
use Rattle.file_grammar.specs.Filed.{held}
use Rattle.rows.specs.Sheets.{View}
use Rattle.survey.specs.Faults as grammars
use Rattle.survey.specs.Refusals.{Accepted, Refused}
use Rattle.survey.specs.declared.fault.GrammarFault.{GrammarFault}
use Rattle.calls.specs.Faults as calls
use Rattle.calls.specs.Offers.{Offered}
use Rattle.calls.specs.declared.fault.CallFault.{CallFault}
use Rattle.listing.specs.Texts.{refusal_text, symbol_line, lines}

pub record Smallest {T : Type 0} (𝓣 : Group T) (M : Meaning T) (A B : ℕ) : Type 0 where
  pub same : Same 𝓣 M (A ∷ []) (B ∷ [])
  pub least : (C : ℕ) → C < B → ¬ Same 𝓣 M (A ∷ []) (C ∷ [])

abbrev pub no_rows : View
no_rows A = None

module _ {T : Type 0} (𝓣 : Group T) (made : ℕ → ℕ → T) (c : Contents) where
  abbrev pub grammar : Meaning T
  grammar = held made (Ok c)

  pub data Lists (t : List ℕ) : Type 0 where
    -- the grammar is refused
    over_refused : (f : GrammarFault) → Refused 32 64 𝓣 grammar f → t ≡ refusal_text (grammars.code_of f) → Lists t
    -- a new comparer does not take the rows
    not_taken : (norm : ℕ → ℕ) (first : ℕ → Input) → Accepted 32 64 𝓣 grammar → Normed 𝓣 grammar norm first →
        (f : CallFault) → Offered 𝓣 grammar norm first no_rows (rows_bytes c.rows) (Err f) → t ≡ refusal_text (calls.code_of f) → Lists t
    -- it takes them: a line for each symbol
    taken : (norm : ℕ → ℕ) (first : ℕ → Input) → Accepted 32 64 𝓣 grammar → Normed 𝓣 grammar norm first →
        Offered 𝓣 grammar norm first no_rows (rows_bytes c.rows) (Ok c.rows) →
        (smallest : ℕ → ℕ) → ((A : ℕ) → A < grammar.count → Smallest 𝓣 grammar A (smallest A)) →
        t ≡ lines (λ A. symbol_line c.names (norm A) A (smallest A)) grammar.count → Lists t

pub data ListsFor (ks : List ℕ) (c : Contents) (t : List ℕ) : Type 0 where
  for_none : ks ≡ untallied_kinds → Lists untallied_group untallied_made c t → ListsFor ks c t
  for_foot : ks ≡ only_kinds Foot → Lists foot_group (only_made foot_numbered) c t → ListsFor ks c t
  for_last : ks ≡ only_kinds Last → Lists last_group (only_made last_numbered) c t → ListsFor ks c t
  for_odd : ks ≡ only_kinds OddOnes → Lists odd_group (only_made odd_numbered) c t → ListsFor ks c t
  for_foot_last : ks ≡ pair_kinds (only_kinds Foot) (only_kinds Last) →
      Lists (pair_group foot_group last_group) (pair_made (only_kinds Foot) (only_made foot_numbered) (only_made last_numbered)) c t → ListsFor ks c t
  for_foot_odd : ks ≡ pair_kinds (only_kinds Foot) (only_kinds OddOnes) →
      Lists (pair_group foot_group odd_group) (pair_made (only_kinds Foot) (only_made foot_numbered) (only_made odd_numbered)) c t → ListsFor ks c t
  for_last_odd : ks ≡ pair_kinds (only_kinds Last) (only_kinds OddOnes) →
      Lists (pair_group last_group odd_group) (pair_made (only_kinds Last) (only_made last_numbered) (only_made odd_numbered)) c t → ListsFor ks c t

abbrev pub Told : Result Contents Fault → List ℕ → Type 0
Told (Ok c) t = ListsFor c.kinds c t
Told (Err f) t = t ≡ refusal_text (files.code_of f)

abbrev pub Listed : List ℕ → List ℕ → Type 0
Listed bs t = Told (checked_any bs) t

abbrev pub OneListing : List ℕ → Type 0
OneListing bs = (t u : List ℕ) → Listed bs t → Listed bs u → t ≡ u
