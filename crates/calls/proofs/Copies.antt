-- A copy: its rows are those of the view, by symbol, and it is taken by a comparer without rows.
--
-- The idea: there are fewer rows than symbols, so they have room in a section; each row is true, so its word takes its symbol's first input.
--
-- Assumes nothing.
use Rattle.std.proofs.Common.{◌≡◌, ℕ, zero, suc, ◌+◌, ◌<◌, ◌≤◌, ◌⊎◌, ◌==◌, cond, List, [], ◌∷◌, ◌++◌, length, Some, None, Option, Ok, refl, sym, ap, ◌∙◌, subst, append-nil, length-append, eq-eqb, ne_eqb, inl, inr, arith}
use Rattle.std.proofs.lemmas.Bool.{cases_lt, cases_eq}
use Rattle.std.specs.Option.{option_map, option_to_list}
use Rattle.tally.specs.Group.{Group}
use Rattle.grammar.specs.Meaning.{Word, Input, Weighted, Meaning}
use Rattle.grammar.specs.Takes.{shift, takes}
use Rattle.grammar.proofs.Options.{none_some}
use Rattle.norm.specs.Norms.{Taken, norms}
use Rattle.layout.specs.Contents.{FileRow, All, Rising, RowAfter, LegalRow, LegalRows}
use Rattle.layout.specs.Wrong.{Last}
use Rattle.layout.proofs.Ordered.{all_push, rising_push}
use Rattle.rows.specs.Sheets.{View, weighed, SelfProving, TrueRow, tell, marked}
use Rattle.sheet.specs.Rowed.{row_at, over}
use Rattle.sheet.proofs.Ended.{candidates_law}
use Rattle.calls.specs.Offers.{with_rows, rows_in, copied, Offered, taken}
use Rattle.calls.specs.Laws.{CarriesOver}
use Rattle.calls.proofs.Ground.{Ground, Standing, weighed_some, weighed_ranked, weighed_marked}

over_none : (o : Option Word) → over o None ≡ o
over_none None = refl
over_none (Some w) = refl

-- a row behind others
row_at_push : (A : ℕ) (rs : List FileRow) (r : FileRow) → row_at A (rs ++ r ∷ []) ≡ over (cond (A == r.symbol) (Some r.word) None) (row_at A rs)
row_at_push A [] r = sym (over_none (cond (A == r.symbol) (Some r.word) None))
row_at_push A (q ∷ rs) r =
    ap (λ o. over o (cond (A == q.symbol) (Some q.word) None)) (row_at_push A rs r) ∙ go (cond (A == r.symbol) (Some r.word) None) (row_at A rs) (cond (A == q.symbol) (Some q.word) None)
  where
    go : (o p k : Option Word) → over (over o p) k ≡ over o (over p k)
    go None p k = refl
    go (Some w) p k = refl

last_of : {X : Type 0} (P : X → Type 0) (xs : List X) → All P xs → Last P xs
last_of P [] h = tt
last_of P (x ∷ []) h = h.0
last_of P (x ∷ y ∷ ys) h = last_of P (y ∷ ys) h.1

all_map : {X : Type 0} (P Q : X → Type 0) → ((x : X) → P x → Q x) → (xs : List X) → All P xs → All Q xs
all_map P Q f [] h = tt
all_map P Q f (x ∷ xs) h = (f x h.0, all_map P Q f xs h.1)

module _ (V : View) where
  abbrev row_of : ℕ → Word → FileRow
  row_of n w = record { symbol = n; word = w }

  abbrev here : ℕ → Option Word → List FileRow
  here n o = option_to_list (option_map (row_of n) o)

  pub rows_number : (n : ℕ) → length (rows_in V n) ≡ marked V n
  rows_number zero = refl
  rows_number (suc n) = go (V n) (rows_number n)
    where
      go : (o : Option Word) → length (rows_in V n) ≡ marked V n → length (rows_in V n ++ here n o) ≡ tell o + marked V n
      go o ih = let l = length-append (rows_in V n) (here n o) in let k = one o in omega arith
        where
          one : (o : Option Word) → length (here n o) ≡ tell o
          one None = refl
          one (Some w) = refl

  -- what holds of each row of the view
  pub rows_all : (P : FileRow → Type 0) → ((A : ℕ) (w : Word) → V A ≡ Some w → P (row_of A w)) → (n : ℕ) → All P (rows_in V n)
  rows_all P each zero = tt
  rows_all P each (suc n) = go (V n) refl (rows_all P each n)
    where
      go : (o : Option Word) → V n ≡ o → All P (rows_in V n) → All P (rows_in V n ++ here n o)
      go None e h = subst (All P) (sym (append-nil (rows_in V n))) h
      go (Some w) e h = all_push P (rows_in V n) (row_of n w) h (each n w e)

  rows_below : (n : ℕ) → All (λ r. r.symbol < n) (rows_in V n)
  rows_below zero = tt
  rows_below (suc n) = go (V n) (all_map (λ r. r.symbol < n) (λ r. r.symbol < suc n) (λ r l. omega arith) (rows_in V n) (rows_below n))
    where
      go : (o : Option Word) → All (λ r. r.symbol < suc n) (rows_in V n) → All (λ r. r.symbol < suc n) (rows_in V n ++ here n o)
      go None h = subst (All (λ r. r.symbol < suc n)) (sym (append-nil (rows_in V n))) h
      go (Some w) h = all_push (λ r. r.symbol < suc n) (rows_in V n) (row_of n w) h (omega arith)

  pub rows_rising : (n : ℕ) → Rising RowAfter (rows_in V n)
  rows_rising zero = tt
  rows_rising (suc n) = go (V n) (rows_rising n)
    where
      go : (o : Option Word) → Rising RowAfter (rows_in V n) → Rising RowAfter (rows_in V n ++ here n o)
      go None h = subst (Rising RowAfter) (sym (append-nil (rows_in V n))) h
      go (Some w) h = rising_push RowAfter (rows_in V n) (row_of n w) h (last_of (λ r. RowAfter r (row_of n w)) (rows_in V n) (rows_below n))

  -- the row of each symbol below n, and no other
  row_above : (n A : ℕ) → n ≤ A → row_at A (rows_in V n) ≡ None
  row_above zero A l = refl
  row_above (suc n) A l = go (V n) (row_above n A (omega arith))
    where
      apart : ¬ (A ≡ n)
      apart e = omega arith

      go : (o : Option Word) → row_at A (rows_in V n) ≡ None → row_at A (rows_in V n ++ here n o) ≡ None
      go None h = ap (row_at A) (append-nil (rows_in V n)) ∙ h
      go (Some w) h =
          row_at_push A (rows_in V n) (row_of n w) ∙ ap (λ b. over (cond b (Some w) None) (row_at A (rows_in V n))) (ne_eqb A n apart) ∙ h

  row_below : (n A : ℕ) → A < n → row_at A (rows_in V n) ≡ V A
  row_below zero A l = absurd (omega arith)
  row_below (suc n) A l = go (V n) refl (cases_eq A n) (row_below n A)
    where
      go : (o : Option Word) → V n ≡ o → (A ≡ n) ⊎ (A ≡ n → ⊥) → (A < n → row_at A (rows_in V n) ≡ V A) → row_at A (rows_in V n ++ here n o) ≡ V A
      go None e (inl d) ih = ap (row_at A) (append-nil (rows_in V n)) ∙ row_above n A (omega arith) ∙ sym (ap V d ∙ e)
      go None e (inr d) ih = ap (row_at A) (append-nil (rows_in V n)) ∙ ih (let k : A < n = omega (arith, d) in k)
      go (Some w) e (inl d) ih =
          row_at_push A (rows_in V n) (row_of n w) ∙ ap (λ b. over (cond b (Some w) None) (row_at A (rows_in V n))) (eq-eqb A n d) ∙ sym (ap V d ∙ e)
      go (Some w) e (inr d) ih =
          row_at_push A (rows_in V n) (row_of n w) ∙ ap (λ b. over (cond b (Some w) None) (row_at A (rows_in V n))) (ne_eqb A n d) ∙ ih (let k : A < n = omega (arith, d) in k)

  module _ (n : ℕ) (none : (A : ℕ) → n ≤ A → V A ≡ None) where
    -- where no row stands from n on
    pub marked_past : (k : ℕ) → n ≤ k → marked V k ≡ marked V n
    marked_past zero l = ap (marked V) (let e : 0 ≡ n = omega arith in e)
    marked_past (suc k) l = go (cases_eq n (suc k)) (marked_past k)
      where
        go : (n ≡ suc k) ⊎ (n ≡ suc k → ⊥) → (n ≤ k → marked V k ≡ marked V n) → marked V (suc k) ≡ marked V n
        go (inl e) ih = ap (marked V) (sym e)
        go (inr e) ih = let s : n ≤ k = omega (arith, e) in let d = ap tell (none k s) in let h = ih s in omega arith

    pub rows_whole : (k : ℕ) → n ≤ k → (A : ℕ) → row_at A (rows_in V k) ≡ V A
    rows_whole k l A = elim (cases_lt A k) [ inl h ↦ row_below k A h | inr h ↦ row_above k A h ∙ sym (none A (omega arith)) ]

module _ {T : Type 0} (𝓣 : Group T) (M : Meaning T) (norm : ℕ → ℕ) (first : ℕ → Input) (G : Ground 𝓣 M norm first) (V : View) (stands : Standing 𝓣 M norm first V) where
  above_none : (A : ℕ) → M.count ≤ A → V A ≡ None
  above_none A l = go (V A) refl
    where
      go : (o : Option Word) → V A ≡ o → V A ≡ None
      go None e = e
      go (Some w) e = absurd (let h = (stands.ranked A w e).symbol in omega arith)

  rows_true : (A : ℕ) (m : Weighted T) → weighed 𝓣 M first V A ≡ Some m → TrueRow 𝓣 M A m
  rows_true = G.row_laws.true_rows (weighed 𝓣 M first V) (weighed_ranked 𝓣 M first V M.count norm stands.ranked) stands.proving

  rows_fewer : marked V M.count < M.count
  rows_fewer =
      subst (λ k. k < M.count) (weighed_marked 𝓣 M first V M.count)
      (G.row_laws.fewer (weighed 𝓣 M first V) (weighed_ranked 𝓣 M first V M.count norm stands.ranked) G.some)

  row_legal : (A : ℕ) (w : Word) → V A ≡ Some w → LegalRow M.count (record { symbol = A; word = w })
  row_legal A w e =
      let shaped = stands.ranked A w e in
      let weighs = shaped.weighs in
      let small = G.small A shaped.symbol in
      let positive = G.norm_laws.positive A shaped.symbol in
      let long = G.norm_laws.long_enough w shaped.below in
      record { symbol = shaped.symbol; filled = filled w (omega arith); short = omega arith; word = shaped.below }
    where
      filled : (v : Word) → 1 ≤ norms norm v → 1 ≤ length v
      filled [] h = h
      filled (B ∷ v) h = omega arith

  row_takes : (A : ℕ) (w : Word) → V A ≡ Some w → Taken 𝓣 M w (first A)
  row_takes A w e =
      let t = G.taken A (stands.ranked A w e).symbol in
      go _ (takes 𝓣 M w (first A)) refl (sym t.1 ∙ rows_true A _ (weighed_some 𝓣 M first V A w e) (first A))
    where
      go : (p : T) (o : Option T) → takes 𝓣 M w (first A) ≡ o → {t : T} → ◌≡◌ {A = Option T} (Some t) (shift 𝓣 p o) → Taken 𝓣 M w (first A)
      go p None d f = absurd (none_some (sym f))
      go p (Some c) d f = (c, d)

  copy_legal : LegalRows M.count (rows_in V 32)
  copy_legal = record {
    few = let n = rows_number V 32 in let p = marked_past V M.count above_none 32 G.few in let f = rows_fewer in let s = G.few in omega arith;
    each = rows_all V (LegalRow M.count) row_legal 32;
    rising = rows_rising V 32;
  }

  copy_row : (A : ℕ) → row_at A (rows_in V 32) ≡ V A
  copy_row A = rows_whole V M.count above_none 32 G.few A

  copy_rows : (E : View) → ((A : ℕ) → E A ≡ None) → (A : ℕ) → with_rows E (rows_in V 32) A ≡ V A
  copy_rows E empty A = ap (over (row_at A (rows_in V 32))) (empty A) ∙ over_none (row_at A (rows_in V 32)) ∙ copy_row A

  copy_taken : (E : View) → ((A : ℕ) → E A ≡ None) → Offered 𝓣 M norm first E (copied V) (Ok (rows_in V 32))
  copy_taken E empty =
      taken (rows_in V 32) ((candidates_law M.count (copied V) (rows_in V 32)).1 (copy_legal, refl))
      (λ A w e. empty A)
      (λ A w e. let row = stands.ranked A w (sym (copy_row A) ∙ e) in record { weighs = row.weighs; lower = row.lower })
      (λ A w e. row_takes A w (sym (copy_row A) ∙ e))
      (subst (λ (W : View). SelfProving 𝓣 M (weighed 𝓣 M first W)) (λ i A. sym (copy_rows E empty A) i) stands.proving)

  -- what carries over
  pub carries : CarriesOver 𝓣 M norm first V
  carries = record { true_rows = rows_true; fewer = rows_fewer; taken = λ E empty. (rows_in V 32, copy_taken E empty, copy_rows E empty) }
