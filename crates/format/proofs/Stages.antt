-- The check, section by section.
--
-- from_SECTION, to_SECTION what is read from a section on; the whole reading is that, where those before it were read
-- not_fit                  or the kinds are others
-- AtRules, AtRows, AtEnd   the whole reading goes on as it does from the rules, from the rows, or behind them
-- at_rules .. at_end       each where the section before it was read, by a reader that knows the number of all bytes
-- rules_wrong, rows_wrong  a fault of a section is that of the whole
--
-- Assumes nothing.
use Rattle.std.proofs.Common.{◌≡◌, ℕ, ◌≤◌, Bool, true, false, List, [], ◌∷◌, length, Ok, Err, Result, sym, refl, ap, ◌∙◌}
use Rattle.layout.specs.Contents.{FileRule, FileRow, Contents}
use Rattle.layout.specs.Reading.{Read, Reading, then, given, names, kinds, same_kinds, rules, rows, ended, whole, value_of}
use Rattle.layout.specs.declared.fault.Fault.{Fault}
use Rattle.layout.specs.declared.fault.Fault.TheVariants.{Kinds}
use Rattle.layout.proofs.Sections.{kinds_sound}
use Rattle.layout.proofs.Steps.{err_same}

abbrev pub contents : List ℕ → List ℕ → List FileRule → List FileRow → Contents
contents ns fs rs ws = record { names = ns; kinds = fs; rules = rs; rows = ws }

module _ (total : ℕ) where
  -- what is read from the rows on, from the rules on, from the test of the kinds on, and from the kinds on
  abbrev pub from_rows : List ℕ → List ℕ → List FileRule → Reading Contents
  from_rows ns fs rs gs = then (rows total (length ns) gs) (λ ws hs. ended total (contents ns fs rs ws) hs)

  abbrev pub from_rules : List ℕ → List ℕ → Reading Contents
  from_rules ns fs es = then (rules total (length ns) (length fs) es) (λ rs gs. from_rows ns fs rs gs)

  abbrev pub from_fit : List ℕ → List ℕ → List ℕ → Reading Contents
  from_fit ks ns fs ds = then (given (same_kinds ks fs) Kinds fs ds) (λ _ es. from_rules ns fs es)

  abbrev pub from_kinds : List ℕ → List ℕ → Reading Contents
  from_kinds ks ns cs = then (kinds total cs) (λ fs ds. from_fit ks ns fs ds)

  -- each from those before it
  module _ (ks bs ns cs : List ℕ) (e : Ok (record { value = ns; rest = cs }) ≡ names total bs) where
    pub to_kinds : whole total ks bs ≡ from_kinds ks ns cs
    to_kinds = ap (λ o. then o (λ ns cs. from_kinds ks ns cs)) (sym e)

    module _ (fs ds : List ℕ) (d : Ok (record { value = fs; rest = ds }) ≡ kinds total cs) where
      pub to_fit : whole total ks bs ≡ from_fit ks ns fs ds
      to_fit = to_kinds ∙ ap (λ o. then o (λ fs ds. from_fit ks ns fs ds)) (sym d)

      pub not_fit : same_kinds ks fs ≡ false → whole total ks bs ≡ Err Kinds
      not_fit f = to_fit ∙ ap (λ b. then (given b Kinds fs ds) (λ _ es. from_rules ns fs es)) f

      module _ (f : same_kinds ks fs ≡ true) where
        pub to_rules : whole total ks bs ≡ from_rules ns fs ds
        to_rules = to_fit ∙ ap (λ b. then (given b Kinds fs ds) (λ _ es. from_rules ns fs es)) f

        module _ (rs : List FileRule) (gs : List ℕ) (h : rules total (length ns) (length fs) ds ≡ Ok (record { value = rs; rest = gs })) where
          pub to_rows : whole total ks bs ≡ from_rows ns fs rs gs
          to_rows = to_rules ∙ ap (λ o. then o (λ rs gs. from_rows ns fs rs gs)) h

          module _ (ws : List FileRow) (hs : List ℕ) (j : rows total (length ns) gs ≡ Ok (record { value = ws; rest = hs })) where
            pub to_end : whole total ks bs ≡ ended total (contents ns fs rs ws) hs
            to_end = to_rows ∙ ap (λ o. then o (λ ws hs. ended total (contents ns fs rs ws) hs)) j

  module _ (ks bs : List ℕ) where
    pub record AtRules (ns fs ds : List ℕ) : Type 0 where
      pub goes : whole total ks bs ≡ from_rules ns fs ds

    pub record AtRows (ns fs : List ℕ) (rs : List FileRule) (gs : List ℕ) : Type 0 where
      pub goes : whole total ks bs ≡ from_rows ns fs rs gs

    pub record AtEnd (c : Contents) (hs : List ℕ) : Type 0 where
      pub goes : whole total ks bs ≡ ended total c hs

pub at_rules : {ks bs ns cs fs ds : List ℕ} {a : ℕ} {b : Bool} → Ok (record { value = ns; rest = cs }) ≡ names (length bs) bs → a ≡ length bs → Ok (record { value = fs; rest = ds }) ≡ kinds a cs →
    (length fs ≤ 2 → b ≡ same_kinds ks fs) → b ≡ true → AtRules (length bs) ks bs ns fs ds
at_rules {ks} {bs} {ns} {cs} {fs} {ds} named at kinded has fits =
    let t : ℕ = length bs in
    let read : kinds t cs ≡ Ok (record { value = fs; rest = ds }) = sym (kinded ∙ ap (λ m. kinds m cs) at) in
    let same = sym (has (kinds_sound t cs _ read).0.few) ∙ fits in
    record {
      goes =
          ap (λ o. then o (λ ns cs. then (kinds t cs) (λ fs ds. from_fit t ks ns fs ds))) (sym named)
          ∙ ap (λ o. then o (λ fs ds. from_fit t ks ns fs ds)) read
          ∙ ap (λ b. then (given b Kinds fs ds) (λ _ es. from_rules t ns fs es)) same;
    }

module _ {total : ℕ} {ks bs ns fs ds : List ℕ} {a : ℕ} (w : AtRules total ks bs ns fs ds) (at : a ≡ total) where
  pub rules_wrong : {f : Fault} → rules a (length ns) (length fs) ds ≡ Err f → whole total ks bs ≡ Err f
  rules_wrong e = w.goes ∙ ap (λ o. then o (λ rs gs. from_rows total ns fs rs gs)) (ap (λ m. rules m (length ns) (length fs) ds) (sym at) ∙ e)

  pub at_rows : {rs : List FileRule} {gs : List ℕ} → rules a (length ns) (length fs) ds ≡ Ok (record { value = rs; rest = gs }) → AtRows total ks bs ns fs rs gs
  at_rows e = record { goes = w.goes ∙ ap (λ o. then o (λ rs gs. from_rows total ns fs rs gs)) (ap (λ m. rules m (length ns) (length fs) ds) (sym at) ∙ e) }

module _ {total : ℕ} {ks bs ns fs gs : List ℕ} {rs : List FileRule} {a : ℕ} (w : AtRows total ks bs ns fs rs gs) (at : a ≡ total) where
  pub rows_wrong : {f : Fault} → rows a (length ns) gs ≡ Err f → whole total ks bs ≡ Err f
  rows_wrong e = w.goes ∙ ap (λ o. then o (λ ws hs. ended total (contents ns fs rs ws) hs)) (ap (λ m. rows m (length ns) gs) (sym at) ∙ e)

  pub at_end : {ws : List FileRow} {hs : List ℕ} → rows a (length ns) gs ≡ Ok (record { value = ws; rest = hs }) → AtEnd total ks bs (contents ns fs rs ws) hs
  at_end e = record { goes = w.goes ∙ ap (λ o. then o (λ ws hs. ended total (contents ns fs rs ws) hs)) (ap (λ m. rows m (length ns) gs) (sym at) ∙ e) }

-- where something is left, and where nothing is
pub ended_more : {X : Type 0} {f : Fault} (total : ℕ) (x : X) (hs : List ℕ) → Err f ≡ value_of (ended total {X = Unit {0}} tt hs) → ended total x hs ≡ Err f
ended_more total x [] e = cc
ended_more total x (b ∷ hs) e = let same = err_same e in ap {B = Result (Read _) Fault} Err (sym same)

pub ended_all : {X : Type 0} (total : ℕ) (x : X) (hs : List ℕ) → Ok tt ≡ value_of (ended total {X = Unit {0}} tt hs) → ended total x hs ≡ Ok (record { value = x; rest = [] })
ended_all total x [] e = refl
ended_all total x (b ∷ hs) e = cc
