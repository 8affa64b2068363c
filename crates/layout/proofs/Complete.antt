-- The readings are complete: the encoding of what is legal is read, whatever follows it.
--
-- SECTION_complete        all of a section is read
-- SECTION_fails           some of it is read, and then the next item fails
-- rule_after_order, row_after_order   a rule or a row behind its symbol (and letter)
--
-- Assumes nothing.
use Rattle.std.proofs.Common.{◌≡◌, ℕ, ◌<◌, ◌≤◌, ◌&&◌, ltb, leb, List, [], ◌∷◌, ◌++◌, reverse, length, Ok, Err, sym, ap, ◌∙◌, append_assoc, arith}
use Rattle.std.proofs.lemmas.Bool.Decides.{Decides-ltb}
use Rattle.grammar.specs.Meaning.{Word, Letter, Below}
use Rattle.grammar.specs.Listed as listed
use Rattle.layout.specs.Contents.{FileRule, FileRow, Name, Kind, All, Apart, Rising, Before, After, RowAfter, LegalRule, LegalRow, LegalRows, two, four, joined, rule_bytes, row_bytes, rows_bytes}
use Rattle.layout.specs.Reading as reading
use Rattle.layout.specs.Reading.{Reading, then, give, place}
use Rattle.layout.specs.Wrong.{Last, LegalNames, SomeNames, LegalKinds, SomeKinds, LegalRules, SomeRules, SomeRows}
use Rattle.layout.specs.declared.fault.Fault.{Fault}
use Rattle.layout.specs.declared.fault.Fault.TheVariants.{Order, Limit, Unallowed, Symbol}
use Rattle.layout.proofs.Steps.{then_ok, then_err, given_ok, given_err, false_when, tested_accepts, Goes, many_reads, many_fails, goes_all}
use Rattle.layout.proofs.Ordered.{rising_last, apart_absent, byte, joined_bytes}
use Rattle.layout.proofs.Numbers.{decides_within, decides_name, decides_kind, follows_newest, row_follows_newest, rule_count_accepts, number_accepts}

module _ (total : ℕ) where
  -- fields of one byte
  pub count_accepts : (lo hi b : ℕ) (rest : List ℕ) → lo ≤ b → b ≤ hi → reading.within total lo hi (b ∷ rest) ≡ Ok (record { value = b; rest = rest })
  count_accepts lo hi b rest h k = tested_accepts total (λ c. leb lo c && leb c hi) (λ c. (lo ≤ c) × (c ≤ hi)) (decides_within lo hi) (Limit (place total (b ∷ rest))) b rest (h, k)

  pub symbol_accepts : (n b : ℕ) (rest : List ℕ) → b < n → reading.below total n (b ∷ rest) ≡ Ok (record { value = b; rest = rest })
  symbol_accepts n b rest h = tested_accepts total (λ c. ltb c n) (λ c. c < n) (λ c. Decides-ltb c n) (Symbol (place total (b ∷ rest))) b rest h

  pub letter_accepts : (a : ℕ) (rest : List ℕ) → Letter a → reading.a_letter total (a ∷ rest) ≡ Ok (record { value = a; rest = rest })
  letter_accepts a rest h = tested_accepts total listed.letter Letter (decides_within 65 90) (Unallowed (place total (a ∷ rest))) a rest h

  pub name_accepts : (xs : List ℕ) (x : ℕ) (rest : List ℕ) → Name x → All (λ y. ¬ (y ≡ x)) xs → reading.name total (reverse xs) (x ∷ rest) ≡ Ok (record { value = x; rest = rest })
  name_accepts xs x rest h k =
      tested_accepts total (λ b. reading.named b && reading.absent b (reverse xs)) (λ b. Name b × All (λ y. ¬ (y ≡ b)) xs) (decides_name total xs) (Unallowed (place total (x ∷ rest))) x rest (h, k)

  pub kind_accepts : (xs : List ℕ) (x : ℕ) (rest : List ℕ) → Kind x → Last (λ y. y < x) xs → reading.kind total (reverse xs) (x ∷ rest) ≡ Ok (record { value = x; rest = rest })
  kind_accepts xs x rest h k =
      tested_accepts total (λ b. (leb 1 b && leb b 3) && reading.above (reverse xs) b) (λ b. Kind b × Last (λ y. y < b) xs) (decides_kind total xs) (Unallowed (place total (x ∷ rest))) x rest (h, k)

  -- words
  word_goes : (n : ℕ) (xs w : Word) → Below n w → Goes total (λ _. reading.below total n) byte xs w
  word_goes n xs [] h = tt
  word_goes n xs (A ∷ w) h = (λ rest. symbol_accepts n A rest h.0, word_goes n (xs ++ (A ∷ [])) w h.1)

  pub word_complete : (n : ℕ) (w : Word) (rest : List ℕ) → Below n w → reading.word total n (length w) (w ++ rest) ≡ Ok (record { value = w; rest = rest })
  word_complete n w rest h =
      ap (λ l. reading.word total n (length w) (l ++ rest)) (sym (joined_bytes w)) ∙ many_reads total (λ _. reading.below total n) byte w rest (word_goes n [] w h)

  pub word_fails : (n l : ℕ) (w : Word) (rest : List ℕ) (f : Fault) → Below n w → length w < l → reading.below total n rest ≡ Err f → reading.word total n l (w ++ rest) ≡ Err f
  word_fails n l w rest f h more e =
      ap (λ v. reading.word total n l (v ++ rest)) (sym (joined_bytes w)) ∙ many_fails total (λ _. reading.below total n) byte l w rest f (word_goes n [] w h) more e

  -- names
  names_go : (ns : List ℕ) → All Name ns → Apart ns → Goes total (reading.name total) byte [] ns
  names_go ns h k = goes_all total (reading.name total) byte Name (λ xs x. All (λ y. ¬ (y ≡ x)) xs) Apart apart_absent name_accepts [] ns h k

  pub names_complete : (ns rest : List ℕ) → LegalNames ns → reading.names total (length ns ∷ ns ++ rest) ≡ Ok (record { value = ns; rest = rest })
  names_complete ns rest h =
      then_ok _ _ (length ns) (ns ++ rest) (count_accepts 1 32 (length ns) (ns ++ rest) h.some h.few)
      ∙ ap (λ l. reading.many total (reading.name total) (length ns) [] (l ++ rest)) (sym (joined_bytes ns)) ∙ many_reads total (reading.name total) byte ns rest (names_go ns h.each h.apart)

  pub names_fail : (n : ℕ) (before rest : List ℕ) (f : Fault) → SomeNames n before → reading.name total (reverse before) rest ≡ Err f → reading.names total (n ∷ before ++ rest) ≡ Err f
  names_fail n before rest f h e =
      then_ok _ _ n (before ++ rest) (count_accepts 1 32 n (before ++ rest) h.some h.few)
      ∙ ap (λ l. reading.many total (reading.name total) n [] (l ++ rest)) (sym (joined_bytes before)) ∙ many_fails total (reading.name total) byte n before rest f (names_go before h.each h.apart) h.more e

  -- kinds
  kinds_go : (fs : List ℕ) → All Kind fs → Rising (λ x y. x < y) fs → Goes total (reading.kind total) byte [] fs
  kinds_go fs h k = goes_all total (reading.kind total) byte Kind (λ xs x. Last (λ y. y < x) xs) (Rising (λ x y. x < y)) (rising_last (λ x y. x < y)) kind_accepts [] fs h k

  pub kinds_complete : (fs rest : List ℕ) → LegalKinds fs → reading.kinds total (length fs ∷ fs ++ rest) ≡ Ok (record { value = fs; rest = rest })
  kinds_complete fs rest h =
      then_ok _ _ (length fs) (fs ++ rest) (count_accepts 0 2 (length fs) (fs ++ rest) (omega arith) h.few)
      ∙ ap (λ l. reading.many total (reading.kind total) (length fs) [] (l ++ rest)) (sym (joined_bytes fs)) ∙ many_reads total (reading.kind total) byte fs rest (kinds_go fs h.each h.rising)

  pub kinds_fail : (n : ℕ) (before rest : List ℕ) (f : Fault) → SomeKinds n before → reading.kind total (reverse before) rest ≡ Err f → reading.kinds total (n ∷ before ++ rest) ≡ Err f
  kinds_fail n before rest f h e =
      then_ok _ _ n (before ++ rest) (count_accepts 0 2 n (before ++ rest) (omega arith) h.few)
      ∙ ap (λ l. reading.many total (reading.kind total) n [] (l ++ rest)) (sym (joined_bytes before)) ∙ many_fails total (reading.kind total) byte n before rest f (kinds_go before h.each h.rising) h.more e

  -- numbers
  numbers_go : (xs zs : List ℕ) → Goes total (reading.number total) four xs zs
  numbers_go xs [] = tt
  numbers_go xs (z ∷ zs) = (λ rest. number_accepts total (reverse xs) z rest, numbers_go (xs ++ (z ∷ [])) zs)

  pub numbers_complete : (k : ℕ) (xs rest : List ℕ) → length xs ≡ k → reading.many total (reading.number total) k [] (joined four xs ++ rest) ≡ Ok (record { value = xs; rest = rest })
  numbers_complete k xs rest size = rw (← size) (many_reads total (reading.number total) four xs rest (numbers_go [] xs))

  pub numbers_fail : (k : ℕ) (xs rest : List ℕ) (f : Fault) → length xs < k → reading.number total [] rest ≡ Err f → reading.many total (reading.number total) k [] (joined four xs ++ rest) ≡ Err f
  numbers_fail k xs rest f more e = many_fails total (reading.number total) four k xs rest f (numbers_go [] xs) more e

  -- rules: what is left of the reading behind the numbers
  abbrev pub rule_end : ℕ → ℕ → ℕ → List ℕ → Reading FileRule
  rule_end n A a xs fs = then (reading.within total 0 4 fs) (λ l gs. then (reading.word total n l gs) (λ w. give (record { symbol = A; letter = a; numbers = xs; word = w })))

  module _ (n k : ℕ) (before : List FileRule) where
    pub rule_after_symbol : (A : ℕ) (cs : List ℕ) (f : Fault) → A < n → reading.a_letter total cs ≡ Err f → reading.rule total n k (reverse before) (A ∷ cs) ≡ Err f
    rule_after_symbol A cs f h e = then_ok _ _ A cs (symbol_accepts n A cs h) ∙ then_err _ _ f e

    pub rule_after_letter : (A a : ℕ) (es : List ℕ) → A < n → Letter a → (¬ Last (λ r. Before r A a) before) → reading.rule total n k (reverse before) (A ∷ a ∷ es) ≡ Err (Order (place total (A ∷ a ∷ es)))
    rule_after_letter A a es h i j =
        then_ok _ _ A (a ∷ es) (symbol_accepts n A (a ∷ es) h) ∙ then_ok _ _ a es (letter_accepts a es i)
        ∙ then_err _ _ (Order (place total (A ∷ a ∷ es))) (given_err (reading.follows (reverse before) A a) (Order (place total (A ∷ a ∷ es))) A es (false_when (reading.follows (reverse before) A a) (follows_newest total A a before) j))

    module _ (A a : ℕ) (symbol : A < n) (letter : Letter a) (later : Last (λ r. Before r A a) before) where
      pub rule_after_order : (es : List ℕ) → reading.rule total n k (reverse before) (A ∷ a ∷ es) ≡ then (reading.many total (reading.number total) k [] es) (λ xs fs. rule_end n A a xs fs)
      rule_after_order es =
          then_ok _ _ A (a ∷ es) (symbol_accepts n A (a ∷ es) symbol) ∙ then_ok _ _ a es (letter_accepts a es letter)
          ∙ then_ok _ _ A es (given_ok (reading.follows (reverse before) A a) (Order (place total (A ∷ a ∷ es))) A es ((follows_newest total A a before).1 later))

      pub rule_after_numbers : (xs fs : List ℕ) → length xs ≡ k → reading.rule total n k (reverse before) (A ∷ a ∷ joined four xs ++ fs) ≡ rule_end n A a xs fs
      rule_after_numbers xs fs size = rule_after_order (joined four xs ++ fs) ∙ then_ok _ _ xs fs (numbers_complete k xs fs size)

      pub rule_at_number : (xs rest : List ℕ) (f : Fault) → length xs < k → reading.number total [] rest ≡ Err f → reading.rule total n k (reverse before) (A ∷ a ∷ joined four xs ++ rest) ≡ Err f
      rule_at_number xs rest f more e = rule_after_order (joined four xs ++ rest) ∙ then_err _ _ f (numbers_fail k xs rest f more e)

      pub rule_at_length : (xs rest : List ℕ) (f : Fault) → length xs ≡ k → reading.within total 0 4 rest ≡ Err f → reading.rule total n k (reverse before) (A ∷ a ∷ joined four xs ++ rest) ≡ Err f
      rule_at_length xs rest f size e = rule_after_numbers xs rest size ∙ then_err _ _ f e

      pub rule_at_word : (xs : List ℕ) (l : ℕ) (w : Word) (rest : List ℕ) (f : Fault) → length xs ≡ k → l ≤ 4 → length w < l → Below n w → reading.below total n rest ≡ Err f →
          reading.rule total n k (reverse before) (A ∷ a ∷ joined four xs ++ (l ∷ w ++ rest)) ≡ Err f
      rule_at_word xs l w rest f size few more below e =
          rule_after_numbers xs (l ∷ w ++ rest) size ∙ then_ok _ _ l (w ++ rest) (count_accepts 0 4 l (w ++ rest) (omega arith) few) ∙ then_err _ _ f (word_fails n l w rest f below more e)

    pub rule_complete : (r : FileRule) (rest : List ℕ) → LegalRule n k r → Last (λ s. After s r) before → reading.rule total n k (reverse before) (rule_bytes r ++ rest) ≡ Ok (record { value = r; rest = rest })
    rule_complete r rest h later =
        ap (λ l. reading.rule total n k (reverse before) l) (append_assoc (r.symbol ∷ r.letter ∷ joined four r.numbers) (length r.word ∷ r.word) rest)
        ∙ rule_after_numbers r.symbol r.letter h.symbol h.letter later r.numbers (length r.word ∷ r.word ++ rest) h.size
        ∙ then_ok _ _ (length r.word) (r.word ++ rest) (count_accepts 0 4 (length r.word) (r.word ++ rest) (omega arith) h.short)
        ∙ then_ok _ _ r.word rest (word_complete n r.word rest h.word)

  rules_go : (n k : ℕ) (rs : List FileRule) → All (LegalRule n k) rs → Rising After rs → Goes total (reading.rule total n k) rule_bytes [] rs
  rules_go n k rs h i =
      goes_all total (reading.rule total n k) rule_bytes (LegalRule n k) (λ xs x. Last (λ s. After s x) xs) (Rising After) (rising_last After) (λ xs x rest. rule_complete n k xs x rest) [] rs h i

  pub rules_complete : (n k : ℕ) (rs : List FileRule) (rest : List ℕ) → LegalRules n k rs → reading.rules total n k ((two (length rs) ++ joined rule_bytes rs) ++ rest) ≡ Ok (record { value = rs; rest = rest })
  rules_complete n k rs rest h =
      then_ok _ _ (length rs) (joined rule_bytes rs ++ rest) (rule_count_accepts total (length rs) (joined rule_bytes rs ++ rest) h.few)
      ∙ many_reads total (reading.rule total n k) rule_bytes rs rest (rules_go n k rs h.each h.rising)

  pub rules_fail : (n k c : ℕ) (before : List FileRule) (rest : List ℕ) (f : Fault) → SomeRules n k c before → reading.rule total n k (reverse before) rest ≡ Err f →
      reading.rules total n k ((two c ++ joined rule_bytes before) ++ rest) ≡ Err f
  rules_fail n k c before rest f h e =
      then_ok _ _ c (joined rule_bytes before ++ rest) (rule_count_accepts total c (joined rule_bytes before ++ rest) h.few)
      ∙ many_fails total (reading.rule total n k) rule_bytes c before rest f (rules_go n k before h.each h.rising) h.more e

  -- rows
  abbrev pub row_end : ℕ → ℕ → Reading FileRow
  row_end n A ds = then (reading.within total 1 64 ds) (λ l es. then (reading.word total n l es) (λ w. give (record { symbol = A; word = w })))

  module _ (n : ℕ) (before : List FileRow) where
    pub row_after_symbol : (A : ℕ) (ds : List ℕ) → A < n → (¬ Last (λ r. r.symbol < A) before) → reading.row total n (reverse before) (A ∷ ds) ≡ Err (Order (place total (A ∷ ds)))
    row_after_symbol A ds h j =
        then_ok _ _ A ds (symbol_accepts n A ds h)
        ∙ then_err _ _ (Order (place total (A ∷ ds))) (given_err (reading.row_follows (reverse before) A) (Order (place total (A ∷ ds))) A ds (false_when (reading.row_follows (reverse before) A) (row_follows_newest total A before) j))

    pub row_after_order : (A : ℕ) (ds : List ℕ) → A < n → Last (λ r. r.symbol < A) before → reading.row total n (reverse before) (A ∷ ds) ≡ row_end n A ds
    row_after_order A ds h later =
        then_ok _ _ A ds (symbol_accepts n A ds h)
        ∙ then_ok _ _ A ds (given_ok (reading.row_follows (reverse before) A) (Order (place total (A ∷ ds))) A ds ((row_follows_newest total A before).1 later))

    pub row_at_length : (A : ℕ) (rest : List ℕ) (f : Fault) → A < n → Last (λ r. r.symbol < A) before → reading.within total 1 64 rest ≡ Err f → reading.row total n (reverse before) (A ∷ rest) ≡ Err f
    row_at_length A rest f h later e = row_after_order A rest h later ∙ then_err _ _ f e

    pub row_at_word : (A l : ℕ) (w : Word) (rest : List ℕ) (f : Fault) → A < n → Last (λ r. r.symbol < A) before → 1 ≤ l → l ≤ 64 → length w < l → Below n w → reading.below total n rest ≡ Err f →
        reading.row total n (reverse before) (A ∷ l ∷ w ++ rest) ≡ Err f
    row_at_word A l w rest f h later some few more below e =
        row_after_order A (l ∷ w ++ rest) h later ∙ then_ok _ _ l (w ++ rest) (count_accepts 1 64 l (w ++ rest) some few) ∙ then_err _ _ f (word_fails n l w rest f below more e)

    pub row_complete : (r : FileRow) (rest : List ℕ) → LegalRow n r → Last (λ s. RowAfter s r) before → reading.row total n (reverse before) (row_bytes r ++ rest) ≡ Ok (record { value = r; rest = rest })
    row_complete r rest h later =
        row_after_order r.symbol (length r.word ∷ r.word ++ rest) h.symbol later
        ∙ then_ok _ _ (length r.word) (r.word ++ rest) (count_accepts 1 64 (length r.word) (r.word ++ rest) h.filled h.short)
        ∙ then_ok _ _ r.word rest (word_complete n r.word rest h.word)

  rows_go : (n : ℕ) (rs : List FileRow) → All (LegalRow n) rs → Rising RowAfter rs → Goes total (reading.row total n) row_bytes [] rs
  rows_go n rs h i = goes_all total (reading.row total n) row_bytes (LegalRow n) (λ xs x. Last (λ s. RowAfter s x) xs) (Rising RowAfter) (rising_last RowAfter) (λ xs x rest. row_complete n xs x rest) [] rs h i

  pub rows_complete : (n : ℕ) (rs : List FileRow) (rest : List ℕ) → LegalRows n rs → reading.rows total n (rows_bytes rs ++ rest) ≡ Ok (record { value = rs; rest = rest })
  rows_complete n rs rest h =
      then_ok _ _ (length rs) (joined row_bytes rs ++ rest) (count_accepts 0 31 (length rs) (joined row_bytes rs ++ rest) (omega arith) h.few)
      ∙ many_reads total (reading.row total n) row_bytes rs rest (rows_go n rs h.each h.rising)

  pub rows_fail : (n c : ℕ) (before : List FileRow) (rest : List ℕ) (f : Fault) → SomeRows n c before → reading.row total n (reverse before) rest ≡ Err f → reading.rows total n (c ∷ joined row_bytes before ++ rest) ≡ Err f
  rows_fail n c before rest f h e =
      then_ok _ _ c (joined row_bytes before ++ rest) (count_accepts 0 31 c (joined row_bytes before ++ rest) (omega arith) h.few)
      ∙ many_fails total (reading.row total n) row_bytes c before rest f (rows_go n before h.each h.rising) h.more e
