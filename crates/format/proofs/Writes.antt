-- Writes into a buffer, one behind the other.
--
-- after o at xs    a buffer after a write at a place with room: its length, and a write behind
-- wrote_then       a write, and one behind it
-- wrote_as         the same bytes, written otherwise
-- wrote_none       no bytes
-- wrote_more       the items of a list, and one more
-- wrote_item       the items up to a place, seen through g, and the one there
-- puts_as          the same bytes, written otherwise by a writer
-- puts_then        a write by a writer, and one behind it
-- puts_item        the items up to a place, and the one there
-- no_room, room    bytes that were counted by a write into nothing, which fit a buffer or not
--
-- Assumes nothing.
use Rattle.std.proofs.Common.{◌≡◌, ℕ, ◌+◌, ◌^◌, ◌<◌, ◌≤◌, cond, List, [], ◌∷◌, ◌++◌, map, length, get_or, take, drop, Some, None, Option, sym, ap, ◌∙◌, subst, ap₂, append_assoc, append-nil, add-zero, arith, length-append, length-drop}
use borrow.Author.Tests.{le-true, lt-false}
use Rattle.std.proofs.lemmas.List.{length-take-le, take-append-drop, take_at, take_more, drop_at, drop-drop, map_more}
use Rattle.layout.specs.Contents.{joined}
use Rattle.format.specs.Lent.{Wrote, Puts, filled_len, filled}
use Rattle.format.specs.declared.encode.Writer.{Writer}
use Rattle.layout.proofs.Ordered.{joined_push}

pub wrote_as : {o p bs cs : List ℕ} {at next : ℕ} → bs ≡ cs → Wrote o at bs next p → Wrote o at cs next p
wrote_as {o} {p} {bs} {cs} {at} {next} e w = let P : List ℕ → Type 0 = λ l. Wrote o at l next p in subst P e w

pub wrote_none : (o : List ℕ) (at : ℕ) → at < 2 ^ 64 → Wrote o at [] at o
wrote_none o at h = record {
  place = omega arith;
  bytes = λ _. sym (ap₂ (λ x n. x ++ drop n o) (append-nil (take at o)) (add-zero at) ∙ take-append-drop at o);
}

after : List ℕ → ℕ → List ℕ → List ℕ
after o at xs = take at o ++ xs ++ drop (at + length xs) o

module _ (o : List ℕ) (at : ℕ) (xs : List ℕ) (h : at + length xs ≤ length o) where
  front : length (take at o ++ xs) ≡ at + length xs
  front = length-append (take at o) xs ∙ ap (λ n. n + length xs) (length-take-le at o (omega arith))

  length_after : length (after o at xs) ≡ length o
  unfolding after
  length_after = length-append (take at o ++ xs) (drop (at + length xs) o) ∙ ap₂ ◌+◌ front (length-drop (at + length xs) o) ∙ omega arith

  after_after : (ys : List ℕ) → after (after o at xs) (at + length xs) ys ≡ after o at (xs ++ ys)
  unfolding after
  after_after ys =
      let n = at + length xs in
      let m = length ys in
      let p = take at o ++ xs ++ drop n o in
      let back = sym (drop-drop m n p) ∙ ap (drop m) (drop_at (take at o ++ xs) (drop n o) n front) ∙ drop-drop m n o in
      let end : n + m ≡ at + length (xs ++ ys) = omega (arith, length-append xs ys) in
      ap₂ (λ f b. f ++ ys ++ b) (take_at (take at o ++ xs) (drop n o) n front) (back ∙ ap (λ k. drop k o) end)
      ∙ ap (λ f. f ++ drop (at + length (xs ++ ys)) o) (append_assoc (take at o) xs ys)

pub wrote_then : {o p q xs ys : List ℕ} {at next last : ℕ} → length o < 2 ^ 64 → Wrote o at xs next p → Wrote p next ys last q → Wrote o at (xs ++ ys) last q
unfolding after
wrote_then {o} {p} {q} {xs} {ys} {at} {next} {last} h w v =
    let both = length-append xs ys in record {
      place = omega (arith, w.place, v.place, both);
      bytes = λ k.
          let room : at + length xs ≤ length o = omega arith in
          let is : p ≡ after o at xs = w.bytes room in
          let here : next ≡ at + length xs = omega (arith, w.place) in
          let more : next + length ys ≤ length p = omega (arith, ap length is, length_after o at xs room) in
          v.bytes more ∙ ap₂ (λ (r : List ℕ) n. after r n ys) is here ∙ after_after o at xs room ys;
    }

pub wrote_more : {X : Type 0} (f : X → List ℕ) {o p q : List ℕ} {at next last : ℕ} (xs : List X) (x : X) →
    length o < 2 ^ 64 → Wrote o at (joined f xs) next p → Wrote p next (f x) last q → Wrote o at (joined f (xs ++ x ∷ [])) last q
wrote_more f xs x h w v = wrote_as (sym (joined_push f xs x)) (wrote_then h w v)

pub wrote_item : {X Y : Type 0} (f : Y → List ℕ) (g : X → Y) (xs : List X) (i : ℕ) (d : X) {o p q : List ℕ} {at next last : ℕ} →
    i < length xs → length o < 2 ^ 64 → Wrote o at (joined f (map g (take i xs))) next p → Wrote p next (f (g (get_or xs i d))) last q → Wrote o at (joined f (map g (take (i + 1) xs))) last q
wrote_item f g xs i d l h w v = wrote_as (ap (joined f) (sym (map_more g xs i d l))) (wrote_more f (map g (take i xs)) (g (get_or xs i d)) h w v)

pub puts_as : {w v : Writer} {bs cs : List ℕ} → bs ≡ cs → Puts w bs v → Puts w cs v
puts_as {w} {v} e p = subst (λ (l : List ℕ). Puts w l v) e p

pub puts_then : {w v u : Writer} {xs ys : List ℕ} → length w.out.now < 2 ^ 64 → Puts w xs v → Puts v ys u → Puts w (xs ++ ys) u
puts_then h p q = record { same_buffer = q.same_buffer ∙ p.same_buffer; wrote = wrote_then h p.wrote q.wrote }

pub puts_item : {X : Type 0} (f : X → List ℕ) (xs : List X) (i : ℕ) (x : X) {w v u : Writer} → i < length xs → x ≡ get_or xs i x → length w.out.now < 2 ^ 64 →
    Puts w (joined f (take i xs)) v → Puts v (f x) u → Puts w (joined f (take (i + 1) xs)) u
puts_item f xs i x l is h p q =
    let more = take_more xs i x l ∙ ap (λ y. take i xs ++ y ∷ []) (sym is) in
    puts_as (sym (joined_push f (take i xs) x) ∙ ap (joined f) (sym more)) (puts_then h p q)

module _ (bs o : List ℕ) {n : ℕ} {q : List ℕ} (needed : Wrote [] 0 bs n q) where
  pub no_room : length o < n → (◌≡◌ {A = Option ℕ} None (filled_len bs o)) × (o ≡ filled bs o)
  no_room h =
      let none = lt-false (length bs) (length o) (omega (arith, needed.place)) in
      (ap {B = Option ℕ} (λ t. cond t (Some (length bs)) None) none, ap (λ t. cond t (bs ++ drop (length bs) o) o) none)

  pub room : length o < 2 ^ 63 → n ≤ length o → {m : ℕ} {p : List ℕ} → Wrote o 0 bs m p → (◌≡◌ {A = Option ℕ} (Some m) (filled_len bs o)) × (p ≡ filled bs o)
  room s h {m} {p} w =
      let l : length bs ≤ length o = omega (arith, needed.place) in
      let all = le-true (length bs) (length o) l in
      let from : 0 + length bs ≡ length bs = omega arith in
      let to : m ≡ length bs = omega (arith, w.place) in (
        ap {B = Option ℕ} Some to ∙ ap {B = Option ℕ} (λ t. cond t (Some (length bs)) None) all,
        w.bytes (omega arith) ∙ ap (λ k. bs ++ drop k o) from ∙ ap (λ t. cond t (bs ++ drop (length bs) o) o) all,
      )
