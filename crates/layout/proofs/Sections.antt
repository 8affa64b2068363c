-- The sections of a file: what their readings come to.
--
-- The idea: a walk over the reading of a section, from bytes that stand behind p. Reached p F says that the field F may be to
-- be read behind p, and a field that fails where it is reached is blamed: that gives W of the fault. So with one walk the
-- readings are sound (SECTION_sound: what is read is legal, and is encoded by the bytes used), and each fault has its field.
--
-- Assumes nothing.
use Rattle.std.proofs.Common.{◌≡◌, ℕ, ◌^◌, ◌<◌, ◌≤◌, ◌&&◌, ltb, leb, List, [], ◌∷◌, ◌++◌, reverse, length, Ok, Err, refl, subst, inl, inr, append_assoc, arith}
use Rattle.std.proofs.lemmas.Bool.Decides.{Decides-ltb}
use Rattle.grammar.specs.Meaning.{Word, Letter, Below}
use Rattle.grammar.specs.Listed as listed
use Rattle.grammar.proofs.Twins.{each_append}
use Rattle.layout.specs.Contents.{FileRule, FileRow, Name, Kind, All, Apart, Rising, Before, After, RowAfter, LegalRule, LegalRow, LegalRows, two, four, joined, rule_bytes, row_bytes, rows_bytes}
use Rattle.layout.specs.Reading as reading
use Rattle.layout.specs.Reading.{Read, place}
use Rattle.layout.specs.Wrong.{Field, count, rule_count, name, kind, rule, row, symbol, letter, number, Last, LegalNames, SomeNames, LegalKinds, SomeKinds, LegalRules, SomeRules, SomeRows}
use Rattle.layout.specs.Laws.{Bytes}
use Rattle.layout.specs.declared.fault.Fault.{Fault}
use Rattle.layout.specs.declared.fault.Fault.TheVariants.{Order, Limit, Unallowed, Symbol}
use Rattle.layout.proofs.Steps.{Came, came_here, came_map, came_then, came_read, came_given, tested_came, many_came}
use Rattle.layout.proofs.Ordered.{all_push, all_back, apart_push, rising_push, behind, push_more, joined_more}
use Rattle.layout.proofs.Numbers.{decides_within, decides_name, decides_kind, follows_newest, row_follows_newest, rule_count_came, number_came, Fails}

-- where the fields of a rule or of a row are reached
module _ (Reached : List ℕ → Field → Type 0) (p : List ℕ) (n : ℕ) where
  pub record RuleReached (k : ℕ) (before : List FileRule) : Type 0 where
    pub at_symbol : Reached p (rule n before)
    pub at_letter : (A : ℕ) → A < n → Reached (p ++ (A ∷ [])) letter
    pub at_number : (A a : ℕ) (xs : List ℕ) → A < n → Letter a → Last (λ r. Before r A a) before → length xs < k → All (λ x. x < 2 ^ 32) xs → Reached (p ++ (A ∷ a ∷ joined four xs)) number
    pub at_length : (A a : ℕ) (xs : List ℕ) → A < n → Letter a → Last (λ r. Before r A a) before → length xs ≡ k → All (λ x. x < 2 ^ 32) xs → Reached (p ++ (A ∷ a ∷ joined four xs)) (count 0 4)
    pub at_word : (A a : ℕ) (xs : List ℕ) (l : ℕ) (w : Word) → A < n → Letter a → Last (λ r. Before r A a) before → length xs ≡ k → All (λ x. x < 2 ^ 32) xs →
        l ≤ 4 → length w < l → Below n w → Reached (p ++ (A ∷ a ∷ joined four xs) ++ (l ∷ w)) (symbol n)

  pub record RowReached (before : List FileRow) : Type 0 where
    pub at_symbol : Reached p (row n before)
    pub at_length : (A : ℕ) → A < n → Last (λ r. r.symbol < A) before → Reached (p ++ (A ∷ [])) (count 1 64)
    pub at_word : (A l : ℕ) (w : Word) → A < n → Last (λ r. r.symbol < A) before → 1 ≤ l → l ≤ 64 → length w < l → Below n w → Reached (p ++ (A ∷ l ∷ w)) (symbol n)

module _ (total : ℕ) (ks all : List ℕ) (W : Fault → Type 0) (Reached : List ℕ → Field → Type 0)
    (blamed : (p rest : List ℕ) (F : Field) (f : Fault) → all ≡ p ++ rest → Reached p F → Fails total ks F rest f → W f) where
  pub count_came : (p bs : List ℕ) (lo hi : ℕ) → all ≡ p ++ bs → Reached p (count lo hi) → Came (reading.within total lo hi bs) (λ b r. (bs ≡ b ∷ r) × ((lo ≤ b) × (b ≤ hi))) W
  count_came p bs lo hi e to = tested_came total (λ b. leb lo b && leb b hi) (λ b. (lo ≤ b) × (b ≤ hi)) (decides_within lo hi) (Limit (place total bs)) bs W (λ f h. blamed p bs (count lo hi) f e to h)

  -- a symbol, where a failing reading of it has W
  pub symbol_came : (n : ℕ) (bs : List ℕ) → ((f : Fault) → reading.below total n bs ≡ Err f → W f) → Came (reading.below total n bs) (λ b r. (bs ≡ b ∷ r) × (b < n)) W
  symbol_came n bs w = tested_came total (λ b. ltb b n) (λ b. b < n) (λ b. Decides-ltb b n) (Symbol (place total bs)) bs W w

  pub word_came : (p bs : List ℕ) (n l : ℕ) → all ≡ p ++ bs → ((w : Word) → length w < l → Below n w → Reached (p ++ w) (symbol n)) →
      Came (reading.word total n l bs) (λ w r. ((bs ≡ w ++ r) × Below n w) × (length w ≡ l)) W
  word_came p bs n l e to =
      many_came total (λ _. reading.below total n) (λ w r. (bs ≡ w ++ r) × Below n w) W l
      (λ w rest more inv.
      came_map (symbol_came n rest (λ f h. blamed (p ++ w) rest (symbol n) f (behind all p w bs rest e inv.0) (to w more inv.1) h))
      (λ b r g. (push_more w b bs rest r inv.0 g.0, each_append (λ A. A < n) w (b ∷ []) inv.1 (g.1, tt))))
      l [] bs (omega arith) (refl, tt)

  pub names_came : (p bs : List ℕ) → all ≡ p ++ bs → Reached p (count 1 32) → ((n : ℕ) (before : List ℕ) → SomeNames n before → Reached (p ++ (n ∷ before)) (name before)) →
      Came (reading.names total bs) (λ ns r. LegalNames ns × (bs ≡ length ns ∷ ns ++ r)) W
  names_came p bs e start each = came_then _ (count_came p bs 1 32 e start) (λ n cs h. came_map (items n cs h) (λ ns r g. ends n h ns r g))
    where
      Inv : ℕ → List ℕ → List ℕ → Type 0
      Inv n ns r = (bs ≡ (n ∷ ns) ++ r) × All Name ns × Apart ns

      items : (n : ℕ) (cs : List ℕ) → (bs ≡ n ∷ cs) × ((1 ≤ n) × (n ≤ 32)) → Came (reading.many total (reading.name total) n [] cs) (λ ns r. Inv n ns r × (length ns ≡ n)) W
      items n cs h =
          many_came total (reading.name total) (Inv n) W n
          (λ ns rest more inv.
          came_map (tested_came total (λ b. reading.named b && reading.absent b (reverse ns)) (λ b. Name b × All (λ x. ¬ (x ≡ b)) ns) (decides_name total ns) (Unallowed (place total rest)) rest W
          (λ f k. blamed (p ++ (n ∷ ns)) rest (name ns) f (behind all p (n ∷ ns) bs rest e inv.0) (each n ns (record { some = h.1.0; few = h.1.1; more = more; each = inv.1; apart = inv.2 })) k))
          (λ b r g. (push_more (n ∷ ns) b bs rest r inv.0 g.0, all_push Name ns b inv.1 g.1.0, apart_push ns b inv.2 g.1.1)))
          n [] cs (omega arith) (h.0, tt, tt)

      ends : (n : ℕ) → {cs : List ℕ} → (bs ≡ n ∷ cs) × ((1 ≤ n) × (n ≤ 32)) → (ns r : List ℕ) → Inv n ns r × (length ns ≡ n) → LegalNames ns × (bs ≡ length ns ∷ ns ++ r)
      ends n h ns r g = (record { some = omega arith; few = omega arith; each = g.0.1; apart = g.0.2 }, rw g.1 g.0.0)

  pub kinds_came : (p bs : List ℕ) → all ≡ p ++ bs → Reached p (count 0 2) → ((n : ℕ) (before : List ℕ) → SomeKinds n before → Reached (p ++ (n ∷ before)) (kind before)) →
      Came (reading.kinds total bs) (λ fs r. LegalKinds fs × (bs ≡ length fs ∷ fs ++ r)) W
  kinds_came p bs e start each = came_then _ (count_came p bs 0 2 e start) (λ n cs h. came_map (items n cs h) (λ fs r g. ends n h fs r g))
    where
      Inv : ℕ → List ℕ → List ℕ → Type 0
      Inv n fs r = (bs ≡ (n ∷ fs) ++ r) × All Kind fs × Rising (λ x y. x < y) fs

      items : (n : ℕ) (cs : List ℕ) → (bs ≡ n ∷ cs) × ((0 ≤ n) × (n ≤ 2)) → Came (reading.many total (reading.kind total) n [] cs) (λ fs r. Inv n fs r × (length fs ≡ n)) W
      items n cs h =
          many_came total (reading.kind total) (Inv n) W n
          (λ fs rest more inv.
          came_map (tested_came total (λ b. (leb 1 b && leb b 3) && reading.above (reverse fs) b) (λ b. Kind b × Last (λ x. x < b) fs) (decides_kind total fs) (Unallowed (place total rest)) rest W
          (λ f k. blamed (p ++ (n ∷ fs)) rest (kind fs) f (behind all p (n ∷ fs) bs rest e inv.0) (each n fs (record { few = h.1.1; more = more; each = inv.1; rising = inv.2 })) k))
          (λ b r g. (push_more (n ∷ fs) b bs rest r inv.0 g.0, all_push Kind fs b inv.1 g.1.0, rising_push (λ x y. x < y) fs b inv.2 g.1.1)))
          n [] cs (omega arith) (h.0, tt, tt)

      ends : (n : ℕ) → {cs : List ℕ} → (bs ≡ n ∷ cs) × ((0 ≤ n) × (n ≤ 2)) → (fs r : List ℕ) → Inv n fs r × (length fs ≡ n) → LegalKinds fs × (bs ≡ length fs ∷ fs ++ r)
      ends n h fs r g = (record { few = omega arith; each = g.0.1; rising = g.0.2 }, rw g.1 g.0.0)

  -- a row behind those before it
  pub row_came : (p bs : List ℕ) (n : ℕ) (before : List FileRow) → all ≡ p ++ bs → RowReached Reached p n before →
      Came (reading.row total n (reverse before) bs) (λ r rest. (bs ≡ row_bytes r ++ rest) × LegalRow n r × Last (λ s. RowAfter s r) before) W
  row_came p bs n before e to =
      came_then _ (symbol_came n bs (λ f h. blamed p bs (row n before) f e to.at_symbol (inl h))) (λ A cs h.
      came_then _ (came_given (reading.row_follows (reverse before) A) (Order (place total bs)) A cs (row_follows_newest total A before)
      (λ not. blamed p bs (row n before) (Order (place total bs)) e to.at_symbol (inr (A, cs, h.0, h.1, not, refl)))) (λ B ds k.
      let two_on : bs ≡ A ∷ ds = cc in
      came_then _ (count_came (p ++ (A ∷ [])) ds 1 64 (behind all p (A ∷ []) bs ds e two_on) (to.at_length A h.1 k.2)) (λ l es i.
      let three_on : bs ≡ A ∷ l ∷ es = cc in
      came_then _ (word_came (p ++ (A ∷ l ∷ [])) es n l (behind all p (A ∷ l ∷ []) bs es e three_on)
      (λ w more below. rw (append_assoc p (A ∷ l ∷ []) w) (to.at_word A l w h.1 k.2 i.1.0 i.1.1 more below))) (λ w fs j.
      let whole_on : bs ≡ A ∷ length w ∷ (w ++ fs) = cc in
      came_here (record { symbol = A; word = w }) fs (whole_on, record { symbol = h.1; filled = omega arith; short = omega arith; word = j.0.1 }, k.2)))))

  pub rows_came : (p bs : List ℕ) (n : ℕ) → all ≡ p ++ bs → Reached p (count 0 31) → ((c : ℕ) (before : List FileRow) → SomeRows n c before → RowReached Reached (p ++ (c ∷ joined row_bytes before)) n before) →
      Came (reading.rows total n bs) (λ rs r. LegalRows n rs × (bs ≡ rows_bytes rs ++ r)) W
  rows_came p bs n e start each = came_then _ (count_came p bs 0 31 e start) (λ c cs h. came_map (items c cs h) (λ rs r g. ends c h rs r g))
    where
      Inv : ℕ → List FileRow → List ℕ → Type 0
      Inv c rs r = (bs ≡ ((c ∷ []) ++ joined row_bytes rs) ++ r) × All (LegalRow n) rs × Rising RowAfter rs

      items : (c : ℕ) (cs : List ℕ) → (bs ≡ c ∷ cs) × ((0 ≤ c) × (c ≤ 31)) → Came (reading.many total (reading.row total n) c [] cs) (λ rs r. Inv c rs r × (length rs ≡ c)) W
      items c cs h =
          many_came total (reading.row total n) (Inv c) W c
          (λ rs rest more inv.
          came_map (row_came (p ++ (c ∷ joined row_bytes rs)) rest n rs (behind all p (c ∷ joined row_bytes rs) bs rest e inv.0) (each c rs (record { few = h.1.1; more = more; each = inv.1; rising = inv.2 })))
          (λ x r g. (joined_more row_bytes (c ∷ []) rs x bs rest r inv.0 g.0, all_push (LegalRow n) rs x inv.1 g.1, rising_push RowAfter rs x inv.2 g.2)))
          c [] cs (omega arith) (h.0, tt, tt)

      ends : (c : ℕ) → {cs : List ℕ} → (bs ≡ c ∷ cs) × ((0 ≤ c) × (c ≤ 31)) → (rs : List FileRow) (r : List ℕ) → Inv c rs r × (length rs ≡ c) → LegalRows n rs × (bs ≡ rows_bytes rs ++ r)
      ends c h rs r g = (record { few = omega arith; each = g.0.1; rising = g.0.2 }, rw g.1 g.0.0)

  -- numbers need bytes: only of those is the number's encoding what was read
  module _ (bytes : Bytes all) where
    left_bytes : (p bs : List ℕ) → all ≡ p ++ bs → Bytes bs
    left_bytes p bs e = all_back (λ b. b < 256) p bs (subst (λ l. Bytes l) e bytes)

    pub numbers_came : (p bs : List ℕ) (k : ℕ) → all ≡ p ++ bs → ((xs : List ℕ) → length xs < k → All (λ x. x < 2 ^ 32) xs → Reached (p ++ joined four xs) number) →
        Came (reading.many total (reading.number total) k [] bs) (λ xs r. ((bs ≡ joined four xs ++ r) × All (λ x. x < 2 ^ 32) xs) × (length xs ≡ k)) W
    numbers_came p bs k e to =
        many_came total (reading.number total) (λ xs r. (bs ≡ joined four xs ++ r) × All (λ x. x < 2 ^ 32) xs) W k
        (λ xs rest more inv.
        let on = behind all p (joined four xs) bs rest e inv.0 in
        came_map (number_came total (reverse xs) rest W (left_bytes (p ++ joined four xs) rest on) (λ f h. blamed (p ++ joined four xs) rest number f on (to xs more inv.1) h))
        (λ x r g. (joined_more four [] xs x bs rest r inv.0 g.0, all_push (λ y. y < 2 ^ 32) xs x inv.1 g.1)))
        k [] bs (omega arith) (refl, tt)

    -- a rule behind those before it
    pub rule_came : (p bs : List ℕ) (n k : ℕ) (before : List FileRule) → all ≡ p ++ bs → RuleReached Reached p n k before →
        Came (reading.rule total n k (reverse before) bs) (λ r rest. (bs ≡ rule_bytes r ++ rest) × LegalRule n k r × Last (λ s. After s r) before) W
    rule_came p bs n k before e to =
        came_then _ (symbol_came n bs (λ f h. blamed p bs (rule n before) f e to.at_symbol (inl h))) (λ A cs h.
        came_then _ (tested_came total listed.letter Letter (decides_within 65 90) (Unallowed (place total cs)) cs W
        (λ f i. blamed (p ++ (A ∷ [])) cs letter f (behind all p (A ∷ []) bs cs e h.0) (to.at_letter A h.1) i)) (λ a ds i.
        let two_read : bs ≡ A ∷ a ∷ ds = cc in
        came_then _ (came_given (reading.follows (reverse before) A a) (Order (place total bs)) A ds (follows_newest total A a before)
        (λ not. blamed p bs (rule n before) (Order (place total bs)) e to.at_symbol (inr (A, a, ds, two_read, h.1, i.1, not, refl)))) (λ B es j.
        let two_on : bs ≡ A ∷ a ∷ es = cc in
        came_then _ (numbers_came (p ++ (A ∷ a ∷ [])) es k (behind all p (A ∷ a ∷ []) bs es e two_on)
        (λ xs more small. rw (append_assoc p (A ∷ a ∷ []) (joined four xs)) (to.at_number A a xs h.1 i.1 j.2 more small))) (λ xs fs u.
        let numbers_on : bs ≡ A ∷ a ∷ (joined four xs ++ fs) = cc in
        came_then _ (count_came (p ++ (A ∷ a ∷ joined four xs)) fs 0 4 (behind all p (A ∷ a ∷ joined four xs) bs fs e numbers_on) (to.at_length A a xs h.1 i.1 j.2 u.1 u.0.1)) (λ l gs v.
        let length_on = behind bs (A ∷ a ∷ joined four xs) (l ∷ []) fs gs numbers_on v.0 in
        came_then _ (word_came (p ++ ((A ∷ a ∷ joined four xs) ++ (l ∷ []))) gs n l (behind all p ((A ∷ a ∷ joined four xs) ++ (l ∷ [])) bs gs e length_on)
        (λ w more below. rw (regroup p (A ∷ a ∷ joined four xs) l w) (to.at_word A a xs l w h.1 i.1 j.2 u.1 u.0.1 v.1.1 more below))) (λ w hs t.
        let word_on : fs ≡ (length w ∷ w) ++ hs = cc in
        came_here (record { symbol = A; letter = a; numbers = xs; word = w }) hs (
          behind bs (A ∷ a ∷ joined four xs) (length w ∷ w) fs hs numbers_on word_on,
          record { symbol = h.1; letter = i.1; size = u.1; numbers = u.0.1; short = omega arith; word = t.0.1 },
          j.2,
        )))))))
      where
        regroup : (p x : List ℕ) (l : ℕ) (w : List ℕ) → (p ++ (x ++ (l ∷ []))) ++ w ≡ p ++ x ++ (l ∷ w)
        regroup p x l w = simp append_assoc

    pub rules_came : (p bs : List ℕ) (n k : ℕ) → all ≡ p ++ bs → Reached p rule_count →
        ((c : ℕ) (before : List FileRule) → SomeRules n k c before → RuleReached Reached (p ++ (two c ++ joined rule_bytes before)) n k before) →
        Came (reading.rules total n k bs) (λ rs r. LegalRules n k rs × (bs ≡ (two (length rs) ++ joined rule_bytes rs) ++ r)) W
    rules_came p bs n k e start each =
        came_then _ (rule_count_came total bs W (left_bytes p bs e) (λ f h. blamed p bs rule_count f e start h)) (λ c cs h. came_map (items c cs h) (λ rs r g. ends c h rs r g))
      where
        Inv : ℕ → List FileRule → List ℕ → Type 0
        Inv c rs r = (bs ≡ (two c ++ joined rule_bytes rs) ++ r) × All (LegalRule n k) rs × Rising After rs

        items : (c : ℕ) (cs : List ℕ) → (bs ≡ two c ++ cs) × (c ≤ 832) → Came (reading.many total (reading.rule total n k) c [] cs) (λ rs r. Inv c rs r × (length rs ≡ c)) W
        items c cs h =
            many_came total (reading.rule total n k) (Inv c) W c
            (λ rs rest more inv.
            came_map (rule_came (p ++ (two c ++ joined rule_bytes rs)) rest n k rs (behind all p (two c ++ joined rule_bytes rs) bs rest e inv.0)
            (each c rs (record { few = h.1; more = more; each = inv.1; rising = inv.2 })))
            (λ x r g. (joined_more rule_bytes (two c) rs x bs rest r inv.0 g.0, all_push (LegalRule n k) rs x inv.1 g.1, rising_push After rs x inv.2 g.2)))
            c [] cs (omega arith) (h.0, tt, tt)

        ends : (c : ℕ) → {cs : List ℕ} → (bs ≡ two c ++ cs) × (c ≤ 832) → (rs : List FileRule) (r : List ℕ) → Inv c rs r × (length rs ≡ c) → LegalRules n k rs × (bs ≡ (two (length rs) ++ joined rule_bytes rs) ++ r)
        ends c h rs r g = (record { few = omega arith; each = g.0.1; rising = g.0.2 }, rw g.1 g.0.0)

-- the readings are sound: what is read is legal, and the bytes used are its encoding
abbrev unblamed : (total : ℕ) (ks all p rest : List ℕ) (F : Field) (f : Fault) → all ≡ p ++ rest → Unit {0} → Fails total ks F rest f → Unit {0}
unblamed total ks all p rest F f e u h = tt

module _ (total : ℕ) (bs : List ℕ) where
  pub word_sound : (n l : ℕ) (r : Read Word) → reading.word total n l bs ≡ Ok r → ((bs ≡ r.value ++ r.rest) × Below n r.value) × (length r.value ≡ l)
  word_sound n l = came_read (word_came total [] bs (λ _. Unit {0}) (λ _ _. Unit {0}) (unblamed total [] bs) [] bs n l refl (λ _ _ _. tt))

  pub names_sound : (r : Read (List ℕ)) → reading.names total bs ≡ Ok r → LegalNames r.value × (bs ≡ length r.value ∷ r.value ++ r.rest)
  names_sound = came_read (names_came total [] bs (λ _. Unit {0}) (λ _ _. Unit {0}) (unblamed total [] bs) [] bs refl tt (λ _ _ _. tt))

  pub kinds_sound : (r : Read (List ℕ)) → reading.kinds total bs ≡ Ok r → LegalKinds r.value × (bs ≡ length r.value ∷ r.value ++ r.rest)
  kinds_sound = came_read (kinds_came total [] bs (λ _. Unit {0}) (λ _ _. Unit {0}) (unblamed total [] bs) [] bs refl tt (λ _ _ _. tt))

  rule_anywhere : (p : List ℕ) (n k : ℕ) (before : List FileRule) → RuleReached (λ _ _. Unit {0}) p n k before
  rule_anywhere p n k before = record { at_symbol = tt; at_letter = λ _ _. tt; at_number = λ _ _ _ _ _ _ _ _. tt; at_length = λ _ _ _ _ _ _ _ _. tt; at_word = λ _ _ _ _ _ _ _ _ _ _ _ _ _. tt }

  row_anywhere : (p : List ℕ) (n : ℕ) (before : List FileRow) → RowReached (λ _ _. Unit {0}) p n before
  row_anywhere p n before = record { at_symbol = tt; at_length = λ _ _ _. tt; at_word = λ _ _ _ _ _ _ _ _ _. tt }

  pub row_sound : (n : ℕ) (before : List FileRow) (r : Read FileRow) → reading.row total n (reverse before) bs ≡ Ok r →
      (bs ≡ row_bytes r.value ++ r.rest) × LegalRow n r.value × Last (λ s. RowAfter s r.value) before
  row_sound n before = came_read (row_came total [] bs (λ _. Unit {0}) (λ _ _. Unit {0}) (unblamed total [] bs) [] bs n before refl (row_anywhere [] n before))

  pub rows_sound : (n : ℕ) (r : Read (List FileRow)) → reading.rows total n bs ≡ Ok r → LegalRows n r.value × (bs ≡ rows_bytes r.value ++ r.rest)
  rows_sound n = came_read (rows_came total [] bs (λ _. Unit {0}) (λ _ _. Unit {0}) (unblamed total [] bs) [] bs n refl tt (λ c before _. row_anywhere (c ∷ joined row_bytes before) n before))

  module _ (bytes : Bytes bs) where
    pub numbers_sound : (k : ℕ) (r : Read (List ℕ)) → reading.many total (reading.number total) k [] bs ≡ Ok r → ((bs ≡ joined four r.value ++ r.rest) × All (λ x. x < 2 ^ 32) r.value) × (length r.value ≡ k)
    numbers_sound k = came_read (numbers_came total [] bs (λ _. Unit {0}) (λ _ _. Unit {0}) (unblamed total [] bs) bytes [] bs k refl (λ _ _ _. tt))

    pub rule_sound : (n k : ℕ) (before : List FileRule) (r : Read FileRule) → reading.rule total n k (reverse before) bs ≡ Ok r →
        (bs ≡ rule_bytes r.value ++ r.rest) × LegalRule n k r.value × Last (λ s. After s r.value) before
    rule_sound n k before = came_read (rule_came total [] bs (λ _. Unit {0}) (λ _ _. Unit {0}) (unblamed total [] bs) bytes [] bs n k before refl (rule_anywhere [] n k before))

    pub rules_sound : (n k : ℕ) (r : Read (List FileRule)) → reading.rules total n k bs ≡ Ok r → LegalRules n k r.value × (bs ≡ (two (length r.value) ++ joined rule_bytes r.value) ++ r.rest)
    rules_sound n k =
        came_read (rules_came total [] bs (λ _. Unit {0}) (λ _ _. Unit {0}) (unblamed total [] bs) bytes [] bs n k refl tt (λ c before _. rule_anywhere (two c ++ joined rule_bytes before) n k before))
