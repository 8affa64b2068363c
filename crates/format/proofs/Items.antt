-- Loops over items: after k turns of a reader, k items are read.
--
-- On item total n s P k r   the reader r has read k of the n items of s, and P holds of them, the newest first, and of what is left
-- on_none, on_more          before the first item, and after one more
-- on_wrong, on_all          where an item has a fault, and after the last one
--
-- Assumes nothing.
use Rattle.std.proofs.Common.{◌≡◌, ℕ, suc, ◌+◌, ◌-◌, ◌<◌, List, [], ◌∷◌, reverse, length, get_or, Ok, Err, Result, sym, refl, ap, ◌∙◌, ap₂, add-one, arith}
use lib.ListN.{length-reverse}
use Rattle.layout.specs.Laws.{Bytes}
use Rattle.layout.specs.Reading.{Read, Reading, then, many}
use Rattle.format.specs.Views.{seen}
use Rattle.format.specs.declared.reader.Reader.{Reader}
use Rattle.layout.specs.declared.fault.Fault.{Fault}
use Rattle.layout.proofs.Steps.{ok_same, err_same}

-- a slice of bytes
pub bytes_of : (bs : List ℕ) → ((i : ℕ) → get_or bs i 0 < 256) → Bytes bs
bytes_of [] h = tt
bytes_of (b ∷ bs) h = (h 0, bytes_of bs (λ i. h (suc i)))

-- what is seen of a reading comes from what it gives
pub seen_ok : {X Y : Type 0} (f : X → Y) (o : Result (Read X) Fault) (y : Y) (rest : List ℕ) → Ok (record { value = y; rest = rest }) ≡ seen f o → (x : X) × (o ≡ Ok (record { value = x; rest = rest })) × (f x ≡ y)
seen_ok f (Ok r) y rest e =
    let same = ok_same e in
    (r.value, ap (λ q. Ok (record { value = r.value; rest = q })) (sym (ap (λ (q : Read _). q.rest) same)), sym (ap (λ (q : Read _). q.value) same))
seen_ok f (Err g) y rest e = absurd (let z : ◌≡◌ {A = ℕ} 0 1 = cc in omega arith)

pub seen_err : {X Y : Type 0} (f : X → Y) (o : Result (Read X) Fault) (g : Fault) → Err g ≡ seen f o → o ≡ Err g
seen_err f (Ok r) g e = cc
seen_err f (Err h) g e = ap {B = Result (Read _) Fault} Err (sym (err_same e))

module _ {X : Type 0} (item : ℕ → List X → Reading X) (total n : ℕ) (s : List ℕ) where
  pub record On (P : List X → List ℕ → Type 0) (k : ℕ) (r : Reader) : Type 0 where
    pub items : List X
    pub long : length items ≡ k
    pub reads : many total (item total) n [] s ≡ many total (item total) (n - k) items r.left.now
    pub same : r.total ≡ total
    pub known : P items r.left.now

  pub on_none : (P : List X → List ℕ → Type 0) (r : Reader) → r.left.now ≡ s → r.total ≡ total → P [] r.left.now → On P 0 r
  on_none P r e same known = record { items = []; long = refl; reads = ap₂ (λ m bs. many total (item total) m [] bs) (minus_zero n) (sym e); same = same; known = known }
    where
      minus_zero : (n : ℕ) → n ≡ n - 0
      minus_zero n = omega arith

module _ {X : Type 0} {item : ℕ → List X → Reading X} {total n : ℕ} {s : List ℕ} {P : List X → List ℕ → Type 0} {k : ℕ} {r : Reader} (w : On item total n s P k r) where
  turn : k < n → many total (item total) n [] s ≡ then (item r.total w.items r.left.now) (λ x. many total (item total) (n - (k + 1)) (x ∷ w.items))
  turn h =
      let step : n - k ≡ suc (n - (k + 1)) = omega arith in
      w.reads ∙ ap (λ m. many total (item total) m w.items r.left.now) step
      ∙ ap (λ t. then (item t w.items r.left.now) (λ x. many total (item total) (n - (k + 1)) (x ∷ w.items))) (sym w.same)

  pub on_more : {Q : List X → List ℕ → Type 0} {x : X} {q : Reader} → k < n → item r.total w.items r.left.now ≡ Ok (record { value = x; rest = q.left.now }) → q.total ≡ r.total →
      Q (x ∷ w.items) q.left.now → On item total n s Q (k + 1) q
  on_more {x = x} h e same known = record {
    items = x ∷ w.items;
    long = rw add-one (ap suc w.long);
    reads = turn h ∙ ap (λ o. then o (λ x. many total (item total) (n - (k + 1)) (x ∷ w.items))) e;
    same = same ∙ w.same;
    known = known;
  }

  pub on_wrong : {f : Fault} → k < n → item r.total w.items r.left.now ≡ Err f → many total (item total) n [] s ≡ Err f
  on_wrong h e = turn h ∙ ap (λ o. then o (λ x. many total (item total) (n - (k + 1)) (x ∷ w.items))) e

  pub on_all : k ≡ n → (many total (item total) n [] s ≡ Ok (record { value = reverse w.items; rest = r.left.now })) × (length (reverse w.items) ≡ n)
  on_all e =
      let none : n - k ≡ 0 = omega arith in
      (w.reads ∙ ap (λ m. many total (item total) m w.items r.left.now) none, length-reverse w.items ∙ w.long ∙ e)
