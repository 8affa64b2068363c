-- A section of rows that is to be all the bytes: what its reading comes to. Assumes nothing.
use Rattle.std.proofs.Common.{◌≡◌, ℕ, ◌≤◌, List, [], ◌∷◌, length, Ok, Err, Result, sym, refl, ap, ◌∙◌, append-nil, length-append, arith}
use Rattle.std.proofs.lemmas.List.{nil_from_length}
use Rattle.layout.specs.Contents.{FileRow, LegalRows, rows_bytes}
use Rattle.layout.specs.Reading.{Read, then, rows, ended, value_of}
use Rattle.layout.specs.declared.fault.Fault.{Fault}
use Rattle.layout.proofs.Law.{rows_law}
use Rattle.layout.proofs.Steps.{ok_err, ok_same}
use Rattle.sheet.specs.Candidates.{candidates, CandidatesLaw}

module _ (n : ℕ) (bs : List ℕ) where
  -- behind the rows the end is looked for
  pub at_end : (rs : List FileRow) (rest : List ℕ) → rows (length bs) n bs ≡ Ok (record { value = rs; rest = rest }) → candidates n bs ≡ value_of (ended (length bs) rs rest)
  at_end rs rest e = ap (λ o. value_of (then o (ended (length bs)))) e

  pub all_read : (rs : List FileRow) (rest : List ℕ) → length rest ≡ 0 → rows (length bs) n bs ≡ Ok (record { value = rs; rest = rest }) → candidates n bs ≡ Ok rs
  all_read rs rest none e = at_end rs rest e ∙ ap (λ r. value_of (ended (length bs) rs r)) (nil_from_length rest none)

  pub front_read : (rs : List FileRow) (rest : List ℕ) → rows (length bs) n bs ≡ Ok (record { value = rs; rest = rest }) → length rest ≤ length bs
  front_read rs rest e = let l = ap length ((rows_law (length bs) n bs rs rest).0 e).1 ∙ length-append (rows_bytes rs) rest in omega (arith, l)

  pub candidates_law : CandidatesLaw n bs
  candidates_law rs = (to (rows (length bs) n bs) refl, λ h. all_read rs [] refl ((rows_law (length bs) n bs rs []).1 (h.0, h.1 ∙ sym (append-nil (rows_bytes rs)))))
    where
      ended_here : (xs : List FileRow) (rest : List ℕ) → rows (length bs) n bs ≡ Ok (record { value = xs; rest = rest }) → value_of (ended (length bs) xs rest) ≡ Ok rs → LegalRows n rs × (bs ≡ rows_bytes rs)
      ended_here xs [] e h =
          let g = (rows_law (length bs) n bs rs []).0 (e ∙ ap {B = Result (Read (List FileRow)) Fault} (λ x. Ok (record { value = x; rest = [] })) (ok_same h)) in
          (g.0, g.1 ∙ append-nil (rows_bytes rs))
      ended_here xs (b ∷ rest) e h = absurd (ok_err (sym h))

      to : (o : Result (Read (List FileRow)) Fault) → rows (length bs) n bs ≡ o → value_of (then o (ended (length bs))) ≡ Ok rs → LegalRows n rs × (bs ≡ rows_bytes rs)
      to (Ok r) e h = ended_here r.value r.rest e h
      to (Err f) e h = absurd (ok_err (sym h))
