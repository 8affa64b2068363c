-- The laws of the file check, from what the whole reading comes to.
--
-- accepted: the walk gives legal contents that the bytes encode, and an encoding is read.
-- refused: the walk blames each fault, and where bytes are wrong the reading comes to the field that fails.
-- rows_law: a section of rows alone, which is sound and complete.
-- one_contents: one encoding has one reading; with other kinds that reading would fail.
--
-- Assumes nothing.
use Rattle.std.proofs.Common.{◌≡◌, ℕ, Bool, true, false, ◌↔◌, List, [], ◌++◌, length, Ok, Err, Result, sym, refl, ap, ◌∙◌, append_assoc, append-nil}
use Rattle.std.proofs.lemmas.Bool.Decides.{not_from_Decides}
use Rattle.layout.specs.Contents.{Contents, Legal, two, joined, rule_bytes, rows_bytes, encode}
use Rattle.layout.specs.Reading.{Read, rows, same_kinds, whole, value_of, checked}
use Rattle.layout.specs.Wrong.{fit, head, to_fit, Wrong}
use Rattle.layout.specs.Laws.{Bytes, FileLaw, OneContents, RowsLaw}
use Rattle.layout.specs.declared.fault.Fault.{Fault}
use Rattle.layout.specs.declared.fault.Fault.TheVariants.{Kinds}
use Rattle.layout.proofs.Steps.{ok_err, ok_same, err_same, came_read, came_fault}
use Rattle.layout.proofs.Numbers.{decides_same_kinds}
use Rattle.layout.proofs.Blame.{found}
use Rattle.layout.proofs.Sections.{rows_sound}
use Rattle.layout.proofs.Complete.{rows_complete}
use Rattle.layout.proofs.Whole.{legal_names, legal_kinds, whole_came, whole_complete, reach}

-- what the value of a reading says of the reading
pub value_ok : {X : Type 0} (o : Result (Read X) Fault) (x : X) → value_of o ≡ Ok x → (rest : List ℕ) × (o ≡ Ok (record { value = x; rest = rest }))
value_ok {X} (Ok r) x e = (r.rest, ap {B = Result (Read X) Fault} (λ v. Ok (record { value = v; rest = r.rest })) (ok_same e))
value_ok (Err f) x e = absurd (ok_err (sym e))

pub value_err : {X : Type 0} (o : Result (Read X) Fault) (f : Fault) → value_of o ≡ Err f → o ≡ Err f
value_err (Ok r) f e = absurd (ok_err e)
value_err {X} (Err g) f e = ap {B = Result (Read X) Fault} Err (err_same e)

-- an encoding is read, and nothing is left
pub reads : (total : ℕ) (ks : List ℕ) (c : Contents) → Legal c → c.kinds ≡ ks → whole total ks (encode c) ≡ Ok (record { value = c; rest = [] })
reads total ks c h same = ap (whole total ks) (sym (append-nil (encode c))) ∙ whole_complete total ks c [] h same

-- with other kinds it is not
pub other_kinds_fail : (total : ℕ) (ks : List ℕ) (c : Contents) → Legal c → (ks ≡ c.kinds → ⊥) → whole total ks (encode c) ≡ Err Kinds
other_kinds_fail total ks c h not =
    ap (whole total ks) (regroup (head c.names c.kinds) (two (length c.rules)) (joined rule_bytes c.rules) (rows_bytes c.rows))
    ∙ reach total ks (two (length c.rules) ++ joined rule_bytes c.rules ++ rows_bytes c.rows) Kinds (head c.names c.kinds) (fit c.kinds) (to_fit c.names c.kinds (legal_names c h) (legal_kinds c h) refl refl) (not, refl)
  where
    regroup : (a b c d : List ℕ) → a ++ b ++ c ++ d ≡ a ++ (b ++ c ++ d)
    regroup a b c d = simp append_assoc

module _ (ks bs : List ℕ) (bytes : Bytes bs) where
  pub accepted : (c : Contents) → (checked ks bs ≡ Ok c) ↔ (Legal c × (c.kinds ≡ ks) × (bs ≡ encode c))
  accepted c = (to, from)
    where
      to : checked ks bs ≡ Ok c → Legal c × (c.kinds ≡ ks) × (bs ≡ encode c)
      to e =
          let o = value_ok (whole (length bs) ks bs) c e in
          let k = came_read (whole_came ks bs bytes) (record { value = c; rest = o.0 }) o.1 in
          (k.1, k.2, k.3)

      from : Legal c × (c.kinds ≡ ks) × (bs ≡ encode c) → checked ks bs ≡ Ok c
      from h = ap value_of (ap (whole (length bs) ks) h.2 ∙ reads (length bs) ks c h.0 h.1)

  pub refused : (f : Fault) → (checked ks bs ≡ Err f) ↔ Wrong ks bs f
  refused f = (λ e. came_fault (whole_came ks bs bytes) f (value_err (whole (length bs) ks bs) f e), from)
    where
      from : Wrong ks bs f → checked ks bs ≡ Err f
      from w = let k = found ks bs f w in ap value_of (ap (whole (length bs) ks) k.all_is ∙ reach (length bs) ks k.rest f k.front k.field k.to k.fails)

pub file_law : (ks bs : List ℕ) → Bytes bs → FileLaw ks bs
file_law ks bs bytes = record { accepted = accepted ks bs bytes; refused = refused ks bs bytes }

pub rows_law : (total n : ℕ) (bs : List ℕ) → RowsLaw total n bs
rows_law total n bs rs rest = (λ e. rows_sound total bs n (record { value = rs; rest = rest }) e, λ h. ap (rows total n) h.1 ∙ rows_complete total n rs rest h.0)

pub one_contents : OneContents
one_contents c d h i e = at (same_kinds c.kinds d.kinds) refl
  where
    first : whole 0 c.kinds (encode d) ≡ Ok (record { value = c; rest = [] })
    first = ap (whole 0 c.kinds) (sym e) ∙ reads 0 c.kinds c h refl

    at : (t : Bool) → same_kinds c.kinds d.kinds ≡ t → c ≡ d
    at true same = ap (λ (r : Read Contents). r.value) (ok_same (sym first ∙ reads 0 c.kinds d i (sym ((decides_same_kinds c.kinds d.kinds).0 same))))
    at false other = absurd (ok_err (sym first ∙ other_kinds_fail 0 c.kinds d i (not_from_Decides (same_kinds c.kinds d.kinds) (decides_same_kinds c.kinds d.kinds) other)))
