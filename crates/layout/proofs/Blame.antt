-- To be wrong is to come to a field whose reading fails.
--
-- blame   where a field is to be read next and its reading fails, the bytes are wrong with that fault
-- found   where bytes are wrong, they are read up to a field whose reading fails with that fault
--
-- Assumes nothing.
use Rattle.std.proofs.Common.{◌≡◌, ℕ, ◌+◌, ◌*◌, ◌<◌, ◌≤◌, Bool, ◌&&◌, ltb, leb, ◌⊎◌, List, [], ◌∷◌, ◌++◌, reverse, length, Err, Decides, sym, refl, ap, ◌∙◌, subst, inl, inr, arith}
use Rattle.std.proofs.lemmas.Bool.Decides.{Decides-ltb}
use Rattle.grammar.specs.Meaning.{Letter}
use Rattle.grammar.specs.Listed as listed
use Rattle.layout.specs.Contents.{Name, Kind, All}
use Rattle.layout.specs.Reading as reading
use Rattle.layout.specs.Reading.{place}
use Rattle.layout.specs.Wrong.{Field, count, rule_count, name, kind, fit, rule, row, symbol, letter, number, end, size, Last, ReadTo, Wrong, short, out_of_limits, too_many_rules, bad_name, bad_kind, bad_letter, rule_order, row_order, rule_symbol, row_symbol, word_symbol, more_bytes, other_kinds}
use Rattle.layout.specs.declared.fault.Fault.{Fault}
use Rattle.layout.specs.declared.fault.Fault.TheVariants.{Short, Limit, Unallowed, Order, Symbol, Trailing}
use Rattle.layout.proofs.Steps.{tested, tested_faults, tested_refuses}
use Rattle.layout.proofs.Numbers.{decides_within, decides_name, decides_kind, rule_count_faults, rule_count_refuses, number_faults, Fails, placed}

module _ (ks all p rest : List ℕ) (e : all ≡ p ++ rest) where
  -- a field of one byte
  by_byte : (F : Field) → ReadTo ks p F → size F ≡ 1 → (test : ℕ → Bool) (P : ℕ → Type 0) → ((b : ℕ) → Decides (test b) (P b)) → (fault : Fault) →
      ((b : ℕ) (r : List ℕ) → all ≡ p ++ (b ∷ r) → (P b → ⊥) → Wrong ks all fault) → (f : Fault) → tested (length all) test fault rest ≡ Err f → Wrong ks all f
  by_byte F to one test P decides fault bad f h = at (tested_faults (length all) test P decides fault rest f h)
    where
      at : ((rest ≡ []) × (f ≡ Short (length all))) ⊎ ((b : ℕ) × (r : List ℕ) × (rest ≡ b ∷ r) × (P b → ⊥) × (f ≡ fault)) → Wrong ks all f
      at (inl k) = short p rest F e to (omega (arith, ap length k.0)) k.1
      at (inr k) = subst (λ g. Wrong ks all g) (sym k.4) (bad k.0 k.1 (e ∙ ap (λ l. p ++ l) k.2) k.3)

  -- a fault at the place of what is left is at the end of what was read
  here : (fault : ℕ → Fault) → fault (place (length all) rest) ≡ fault (length p)
  here fault = ap fault (placed all p rest e)

  pub blame : (F : Field) (f : Fault) → ReadTo ks p F → Fails (length all) ks F rest f → Wrong ks all f
  blame (count lo hi) f to h =
      by_byte (count lo hi) to refl (λ b. leb lo b && leb b hi) (λ b. (lo ≤ b) × (b ≤ hi)) (decides_within lo hi) (Limit (place (length all) rest))
      (λ b r d n. out_of_limits p r b lo hi d to n (here Limit)) f h
  blame rule_count f to h = at (rule_count_faults (length all) rest f h)
    where
      at : ((length rest < 2) × (f ≡ Short (length all))) ⊎ ((a b : ℕ) × (r : List ℕ) × (rest ≡ a ∷ b ∷ r) × (832 < 256 * a + b) × (f ≡ Limit (place (length all) rest))) → Wrong ks all f
      at (inl k) = short p rest rule_count e to k.0 k.1
      at (inr k) = too_many_rules p k.2 k.0 k.1 (e ∙ ap (λ l. p ++ l) k.3) to k.4 (k.5 ∙ here Limit)
  blame (name xs) f to h =
      by_byte (name xs) to refl (λ b. reading.named b && reading.absent b (reverse xs)) (λ b. Name b × All (λ x. ¬ (x ≡ b)) xs) (decides_name (length all) xs)
      (Unallowed (place (length all) rest)) (λ b r d n. bad_name p r b xs d to n (here Unallowed)) f h
  blame (kind xs) f to h =
      by_byte (kind xs) to refl (λ b. (leb 1 b && leb b 3) && reading.above (reverse xs) b) (λ b. Kind b × Last (λ x. x < b) xs) (decides_kind (length all) xs)
      (Unallowed (place (length all) rest)) (λ b r d n. bad_kind p r b xs d to n (here Unallowed)) f h
  blame (fit fs) f to h = other_kinds p rest fs e to h.0 h.1
  blame (rule n xs) f to (inl h) =
      by_byte (rule n xs) to refl (λ b. ltb b n) (λ b. b < n) (λ b. Decides-ltb b n) (Symbol (place (length all) rest)) (λ b r d k. rule_symbol p r n b xs d to (omega arith) (here Symbol)) f h
  blame (rule n xs) f to (inr h) = rule_order p h.2 n h.0 h.1 xs (e ∙ ap (λ l. p ++ l) h.3) to h.4 h.5 h.6 (h.7 ∙ here Order)
  blame (row n xs) f to (inl h) =
      by_byte (row n xs) to refl (λ b. ltb b n) (λ b. b < n) (λ b. Decides-ltb b n) (Symbol (place (length all) rest)) (λ b r d k. row_symbol p r n b xs d to (omega arith) (here Symbol)) f h
  blame (row n xs) f to (inr h) = row_order p h.1 n h.0 xs (e ∙ ap (λ l. p ++ l) h.2) to h.3 h.4 (h.5 ∙ here Order)
  blame (symbol n) f to h =
      by_byte (symbol n) to refl (λ b. ltb b n) (λ b. b < n) (λ b. Decides-ltb b n) (Symbol (place (length all) rest)) (λ b r d k. word_symbol p r n b d to (omega arith) (here Symbol)) f h
  blame letter f to h =
      by_byte letter to refl listed.letter Letter (decides_within 65 90) (Unallowed (place (length all) rest)) (λ b r d n. bad_letter p r b d to n (here Unallowed)) f h
  blame number f to h = let k = number_faults (length all) rest f h in short p rest number e to k.0 k.1
  blame end f to h = more_bytes p h.1 h.0 (e ∙ ap (λ l. p ++ l) h.2) to (h.3 ∙ here Trailing)

-- a field that has too few bytes
pub fails_short : (total : ℕ) (ks : List ℕ) (F : Field) (rest : List ℕ) → length rest < size F → Fails total ks F rest (Short total)
fails_short total ks (count lo hi) [] h = refl
fails_short total ks (count lo hi) (a ∷ rest) h = absurd (omega arith)
fails_short total ks rule_count [] h = refl
fails_short total ks rule_count (a ∷ []) h = refl
fails_short total ks rule_count (a ∷ b ∷ rest) h = absurd (omega arith)
fails_short total ks (name xs) [] h = refl
fails_short total ks (name xs) (a ∷ rest) h = absurd (omega arith)
fails_short total ks (kind xs) [] h = refl
fails_short total ks (kind xs) (a ∷ rest) h = absurd (omega arith)
fails_short total ks (fit fs) rest h = absurd (omega arith)
fails_short total ks (rule n xs) [] h = inl refl
fails_short total ks (rule n xs) (a ∷ rest) h = absurd (omega arith)
fails_short total ks (row n xs) [] h = inl refl
fails_short total ks (row n xs) (a ∷ rest) h = absurd (omega arith)
fails_short total ks (symbol n) [] h = refl
fails_short total ks (symbol n) (a ∷ rest) h = absurd (omega arith)
fails_short total ks letter [] h = refl
fails_short total ks letter (a ∷ rest) h = absurd (omega arith)
fails_short total ks number [] h = refl
fails_short total ks number (a ∷ []) h = refl
fails_short total ks number (a ∷ b ∷ []) h = refl
fails_short total ks number (a ∷ b ∷ c ∷ []) h = refl
fails_short total ks number (a ∷ b ∷ c ∷ d ∷ rest) h = absurd (omega arith)
fails_short total ks end rest h = absurd (omega arith)

pub record Found (ks all : List ℕ) (f : Fault) : Type 0 where
  pub front : List ℕ
  pub rest : List ℕ
  pub field : Field
  pub all_is : all ≡ front ++ rest
  pub to : ReadTo ks front field
  pub fails : Fails (length all) ks field rest f

module _ (ks all : List ℕ) where
  -- a field that fails at its own place
  found_here : (p rest : List ℕ) (F : Field) (f : Fault) (fault : ℕ → Fault) → all ≡ p ++ rest → ReadTo ks p F → f ≡ fault (length p) →
      ((g : Fault) → g ≡ fault (place (length all) rest) → Fails (length all) ks F rest g) → Found ks all f
  found_here p rest F f fault e to d fails = record { front = p; rest = rest; field = F; all_is = e; to = to; fails = fails f (d ∙ sym (ap fault (placed all p rest e))) }

  byte_fails : (test : ℕ → Bool) (P : ℕ → Type 0) → ((b : ℕ) → Decides (test b) (P b)) → (fault : Fault) (b : ℕ) (rest : List ℕ) → (P b → ⊥) → (g : Fault) → g ≡ fault → tested (length all) test fault (b ∷ rest) ≡ Err g
  byte_fails test P decides fault b rest n g d = rw d (tested_refuses (length all) test P decides fault b rest n)

  pub found : (f : Fault) → Wrong ks all f → Found ks all f
  found f (short p rest F e to h d) = record { front = p; rest = rest; field = F; all_is = e; to = to; fails = rw d (fails_short (length all) ks F rest h) }
  found f (out_of_limits p rest b lo hi e to n d) =
      found_here p (b ∷ rest) (count lo hi) f Limit e to d
      (byte_fails (λ c. leb lo c && leb c hi) (λ c. (lo ≤ c) × (c ≤ hi)) (decides_within lo hi) (Limit (place (length all) (b ∷ rest))) b rest n)
  found f (too_many_rules p rest h l e to k d) = found_here p (h ∷ l ∷ rest) rule_count f Limit e to d (λ g s. rw s (rule_count_refuses (length all) h l rest k))
  found f (bad_name p rest b xs e to n d) =
      found_here p (b ∷ rest) (name xs) f Unallowed e to d
      (byte_fails (λ c. reading.named c && reading.absent c (reverse xs)) (λ c. Name c × All (λ x. ¬ (x ≡ c)) xs) (decides_name (length all) xs) (Unallowed (place (length all) (b ∷ rest))) b rest n)
  found f (bad_kind p rest b xs e to n d) =
      found_here p (b ∷ rest) (kind xs) f Unallowed e to d
      (byte_fails (λ c. (leb 1 c && leb c 3) && reading.above (reverse xs) c) (λ c. Kind c × Last (λ x. x < c) xs) (decides_kind (length all) xs) (Unallowed (place (length all) (b ∷ rest))) b rest n)
  found f (bad_letter p rest b e to n d) =
      found_here p (b ∷ rest) letter f Unallowed e to d (byte_fails listed.letter Letter (decides_within 65 90) (Unallowed (place (length all) (b ∷ rest))) b rest n)
  found f (rule_order p rest n A a xs e to h k l d) = found_here p (A ∷ a ∷ rest) (rule n xs) f Order e to d (λ g s. inr (A, a, rest, refl, h, k, l, s))
  found f (row_order p rest n A xs e to h l d) = found_here p (A ∷ rest) (row n xs) f Order e to d (λ g s. inr (A, rest, refl, h, l, s))
  found f (rule_symbol p rest n b xs e to h d) =
      found_here p (b ∷ rest) (rule n xs) f Symbol e to d (λ g s. inl (byte_fails (λ c. ltb c n) (λ c. c < n) (λ c. Decides-ltb c n) (Symbol (place (length all) (b ∷ rest))) b rest (λ k. omega arith) g s))
  found f (row_symbol p rest n b xs e to h d) =
      found_here p (b ∷ rest) (row n xs) f Symbol e to d (λ g s. inl (byte_fails (λ c. ltb c n) (λ c. c < n) (λ c. Decides-ltb c n) (Symbol (place (length all) (b ∷ rest))) b rest (λ k. omega arith) g s))
  found f (word_symbol p rest n b e to h d) =
      found_here p (b ∷ rest) (symbol n) f Symbol e to d (byte_fails (λ c. ltb c n) (λ c. c < n) (λ c. Decides-ltb c n) (Symbol (place (length all) (b ∷ rest))) b rest (λ k. omega arith))
  found f (more_bytes p rest b e to d) = found_here p (b ∷ rest) end f Trailing e to d (λ g s. (b, rest, refl, s))
  found f (other_kinds p rest fs e to n d) = record { front = p; rest = rest; field = fit fs; all_is = e; to = to; fails = (n, d) }
