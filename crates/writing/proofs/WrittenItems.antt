-- Items that are written one behind the other, behind what stands before them. Assumes nothing.
use Rattle.std.proofs.Common.{◌≡◌, ℕ, ◌+◌, ◌^◌, ◌<◌, ◌≤◌, List, [], ◌∷◌, ◌++◌, length, take, Some, sym, ap, ◌∙◌, subst, append_assoc}
use Rattle.std.specs.List.{slice_get}
use Rattle.std.proofs.lemmas.List.{take_more, take_all}
use Rattle.std.proofs.lemmas.Option.{slice_get_within, get_or_from_slice_get}
use Rattle.layout.specs.Contents.{joined}
use Rattle.layout.proofs.Ordered.{joined_push}
use Rattle.format.specs.Lent.{Wrote}
use Rattle.format.proofs.Writes.{wrote_then}

-- what was written, told otherwise
pub wrote_as : {o p q bs : List ℕ} {at next last : ℕ} → last ≡ next → q ≡ p → Wrote o at bs next p → Wrote o at bs last q
wrote_as {o} {p} {q} {bs} {at} {next} {last} d e w = record { place = d ∙ w.place; bytes = λ h. e ∙ w.bytes h }

module _ {X : Type 0} (f : X → List ℕ) (front : List ℕ) (xs : List X) where
  -- the items below a place
  abbrev pub items : ℕ → List ℕ
  items i = front ++ joined f (take i xs)

  -- and the next one
  pub item_written : {o p q : List ℕ} {from at next : ℕ} (i : ℕ) (x : X) → slice_get xs i ≡ Some x → length o < 2 ^ 64 →
      Wrote o from (items i) at p → Wrote p at (f x) next q → Wrote o from (items (i + 1)) next q
  item_written {o} {p} {q} {from} {at} {next} i x is room w v =
      let more = take_more xs i x (slice_get_within xs i x is) ∙ ap (λ y. take i xs ++ y ∷ []) (get_or_from_slice_get xs i x x is) in
      let bytes = append_assoc front (joined f (take i xs)) (f x) ∙ ap (λ bs. front ++ bs) (sym (joined_push f (take i xs) x) ∙ ap (joined f) (sym more)) in
      subst (λ (bs : List ℕ). Wrote o from bs next q) bytes (wrote_then room w v)

  -- and with none left all are written
  pub items_all : {o p : List ℕ} {from next : ℕ} (i : ℕ) → length xs ≤ i → Wrote o from (items i) next p → Wrote o from (front ++ joined f xs) next p
  items_all {o} {p} {from} {next} i h w = subst (λ (ys : List X). Wrote o from (front ++ joined f ys) next p) (take_all i xs h) w
