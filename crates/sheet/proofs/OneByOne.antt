-- The rows of a section, written one by one: what is left to write, and what shows already. Assumes nothing.
use Rattle.std.proofs.Common.{◌≡◌, ℕ, ◌<◌, ◌≤◌, Bool, true, false, cond, eqb, List, [], ◌∷◌, ◌++◌, length, take, take_all, Some, None, Option, refl, sym, ap, ap₂, ◌∙◌, arith, subst}
use Rattle.grammar.specs.Meaning.{Word}
use Rattle.layout.specs.Contents.{FileRow, All, LegalRow, joined, row_bytes}
use Rattle.format.specs.Views.{NoRow}
use Rattle.rows.specs.Sheets.{View}
use Rattle.sheet.specs.Rowed.{Fits, row_at, over, with_row}

-- legal rows over at most 32 symbols have a place in a sheet
pub legal_fit : (n : ℕ) (rs : List FileRow) → n ≤ 32 → All (LegalRow n) rs → All Fits rs
legal_fit n [] small h = tt
legal_fit n (r ∷ rs) small h = let s = h.0.symbol in (record { symbol = omega arith; short = h.0.short }, legal_fit n rs small h.1)

head : ℕ → List ℕ → ℕ
head d [] = d
head d (x ∷ xs) = x

tail : List ℕ → List ℕ
tail [] = []
tail (x ∷ xs) = xs

-- lists that begin with words of one length
split_same : (u v cs ds : List ℕ) → length u ≡ length v → u ++ cs ≡ v ++ ds → (u ≡ v) × (cs ≡ ds)
unfolding head tail
split_same [] [] cs ds l e = (refl, e)
split_same [] (y ∷ v) cs ds l e = absurd (omega (arith, l))
split_same (x ∷ u) [] cs ds l e = absurd (omega (arith, l))
split_same (x ∷ u) (y ∷ v) cs ds l e =
    let p = split_same u v cs ds (omega (arith, l)) (ap tail e) in
    (ap₂ ◌∷◌ (ap (head 0) e) p.0, p.1)

row_same : (x y : FileRow) (cs ds : List ℕ) → row_bytes x ++ cs ≡ row_bytes y ++ ds → (x ≡ y) × (cs ≡ ds)
unfolding head tail
row_same x y cs ds e =
    let p = split_same x.word y.word cs ds (ap (head 0) (ap tail e)) (ap tail (ap tail e)) in
    (ap₂ (λ s w. record { symbol = s; word = w }) (ap (head 0) e) p.0, p.1)

-- a word of at most 64 symbols is kept whole
pub kept_whole : (V W : View) (x : FileRow) (w : Word) → w ≡ take 64 x.word → (x.symbol < 32 → (A : ℕ) → W A ≡ with_row V x.symbol w A) → Fits x → (A : ℕ) → W A ≡ with_row V x.symbol x.word A
kept_whole V W x w e written h A = written h.symbol A ∙ ap (λ u. with_row V x.symbol u A) (e ∙ take_all 64 x.word h.short)

-- of the rows all, those that the bytes bs hold are left, and the others show in V
pub record Rest (all : List FileRow) (bs : List ℕ) (V : View) : Type 0 where
  pub rows : List FileRow
  pub fit : All Fits rows
  pub bytes : bs ≡ joined row_bytes rows
  pub at : (A : ℕ) → row_at A all ≡ over (row_at A rows) (V A)

over_over : (o : Option Word) (b : Bool) (w : Word) (p : Option Word) → over (over o (cond b (Some w) None)) p ≡ over o (cond b (Some w) p)
over_over (Some x) b w p = refl
over_over None true w p = refl
over_over None false w p = refl

pub one_more : (all : List FileRow) (bs cs : List ℕ) (V W : View) (x : FileRow) → bs ≡ row_bytes x ++ cs → (Fits x → (A : ℕ) → W A ≡ with_row V x.symbol x.word A) → Rest all bs V → Rest all cs W
one_more all bs cs V W x e written h = go h.rows h.fit (sym h.bytes ∙ e) h.at
  where
    step : (o : Option Word) (b : Bool) (w : Word) (p q : Option Word) → q ≡ cond b (Some w) p → over (over o (cond b (Some w) None)) p ≡ over o q
    step o b w p q e = over_over o b w p ∙ ap (over o) (sym e)

    go : (rs : List FileRow) → All Fits rs → joined row_bytes rs ≡ row_bytes x ++ cs → ((A : ℕ) → row_at A all ≡ over (row_at A rs) (V A)) → Rest all cs W
    go [] fit b at = absurd (let z = ap length b in omega (arith, z))
    go (r ∷ rs) fit b at =
        let p = row_same r x (joined row_bytes rs) cs b in
        let here : (A : ℕ) → W A ≡ with_row V r.symbol r.word A = λ A. written (subst Fits p.0 fit.0) A ∙ ap (λ y. with_row V y.symbol y.word A) (sym p.0) in
        record { rows = rs; fit = fit.1; bytes = sym p.1; at = λ A. at A ∙ step (row_at A rs) (eqb A r.symbol) r.word (V A) (W A) (here A) }

pub done : (all : List FileRow) (bs : List ℕ) (V : View) → NoRow bs → Rest all bs V → (A : ℕ) → V A ≡ row_at A all
done all bs V none h A = go h.rows h.bytes (h.at A)
  where
    go : (rs : List FileRow) → bs ≡ joined row_bytes rs → row_at A all ≡ over (row_at A rs) (V A) → V A ≡ row_at A all
    go [] e at = sym at
    go (r ∷ rs) e at = absurd (none r (joined row_bytes rs) e)
