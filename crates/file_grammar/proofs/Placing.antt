-- The pass over the bytes of the rules: after some of them, the table has the places of just these.
--
-- rule_read          the bytes of a rule are read as that rule, whatever follows them
-- rule_at_new        no rule before r stands where r does, since rules rise
-- Passed             the rules done and those to do, and what the table says
-- passed_none, passed_more, passed_all   the loop's start, turn and end
--
-- Assumes nothing.
use Rattle.std.proofs.Common.{◌≡◌, ℕ, suc, ◌+◌, ◌*◌, ◌<◌, ◌≤◌, min, Bool, true, false, cond, ◌&&◌, eqb, ◌≢◌, List, [], ◌∷◌, ◌++◌, length, get_or, take, drop, set, replicate, Some, None, Option, sym, refl, ap, ◌∙◌, subst, ap₂, inl, inr, append_assoc, append-nil, arith, length-append, eq-eqb, eqb-true}
use borrow.Author.Tests.{both_ways}
use Rattle.std.proofs.lemmas.List.{get_or_at, drop_at, take_at, get_or-set_same, get_or-set_other, get_or-replicate}
use Rattle.std.proofs.lemmas.Bool.{and_parts, and_from}
use Rattle.std.specs.Option.{option_map}
use Rattle.grammar.specs.Meaning.{Word, Letter, Below}
use Rattle.grammar.specs.Listed.{capped}
use Rattle.layout.specs.Contents.{FileRule, All, Rising, After, LegalRule, four, joined, rule_bytes}
use Rattle.file_grammar.specs.Filed.{rule_at}
use Rattle.file_grammar.specs.Placed.{RulesOf, Placed}
use Rattle.grammar.specs.Places.{index}
use Rattle.file_grammar.specs.Tabled.{numbers_of, word_of, rule_of, from_place}
use Rattle.layout.proofs.Numbers.{from_four}
use Rattle.layout.proofs.Ordered.{all_back, all_front, joined_push}

-- the bytes of a list in two parts
pub joined_append : {X : Type 0} (f : X → List ℕ) (xs ys : List X) → joined f (xs ++ ys) ≡ joined f xs ++ joined f ys
joined_append f [] ys = refl
joined_append f (x ∷ xs) ys = ap (λ l. f x ++ l) (joined_append f xs ys) ∙ sym (append_assoc (f x) (joined f xs) (joined f ys))

-- numbers: four bytes each, and read again
pub four_length : (ns : List ℕ) → length (joined four ns) ≡ 4 * length ns
four_length [] = refl
four_length (n ∷ ns) = let e = four_length ns in omega arith

pub numbers_read : (ns rest : List ℕ) → numbers_of (length ns) (joined four ns ++ rest) ≡ ns
numbers_read [] rest = refl
numbers_read (n ∷ ns) rest = ap₂ {C = List ℕ} (λ x xs. x ∷ xs) (from_four n) (numbers_read ns rest)

-- a word of symbols below 32 stays under the cap
pub capped_same : (n : ℕ) (w : Word) → n ≤ 32 → Below n w → capped w ≡ w
capped_same n [] few h = refl
capped_same n (B ∷ w) few h = let b = h.0 in ap₂ {C = List ℕ} (λ x xs. x ∷ xs) (omega arith) (capped_same n w few h.1)

-- one rule
module _ (n k : ℕ) (few : n ≤ 32) (r : FileRule) (legal : LegalRule n k r) (rest : List ℕ) where
  -- symbol, letter and numbers
  abbrev head : List ℕ
  head = r.symbol ∷ r.letter ∷ joined four r.numbers

  -- how long that is, and what follows it
  head_length : length head ≡ 4 * k + 2
  head_length = let e = four_length r.numbers in let s = legal.size in omega arith

  split : rule_bytes r ++ rest ≡ head ++ (length r.word ∷ (r.word ++ rest))
  split = append_assoc (r.symbol ∷ r.letter ∷ joined four r.numbers) (length r.word ∷ r.word) rest

  -- its length, its size and its word
  pub length_read : get_or (rule_bytes r ++ rest) (4 * k + 2) 0 ≡ length r.word
  length_read = ap (λ bs. get_or bs (4 * k + 2) 0) split ∙ get_or_at head (length r.word) (r.word ++ rest) 0 (4 * k + 2) head_length

  pub size_read : 4 * k + 3 + get_or (rule_bytes r ++ rest) (4 * k + 2) 0 ≡ length (rule_bytes r)
  size_read =
      let e = length-append (r.symbol ∷ r.letter ∷ joined four r.numbers) (length r.word ∷ r.word) in
      let f = four_length r.numbers in
      let s = legal.size in
      omega (arith, length_read)

  word_behind : drop (4 * k + 3) (rule_bytes r ++ rest) ≡ r.word ++ rest
  word_behind =
      let long : length (head ++ (length r.word ∷ [])) ≡ 4 * k + 3 = omega (arith, length-append head (length r.word ∷ []), head_length) in
      ap (drop (4 * k + 3)) (split ∙ sym (append_assoc head (length r.word ∷ []) (r.word ++ rest))) ∙ drop_at (head ++ (length r.word ∷ [])) (r.word ++ rest) (4 * k + 3) long

  word_read : word_of k (rule_bytes r ++ rest) ≡ r.word
  word_read =
      let short = legal.short in
      let long : length r.word ≡ min 4 (length r.word) = omega arith in
      ap₂ (λ m bs. take (min 4 m) bs) length_read word_behind ∙ take_at r.word rest (min 4 (length r.word)) long

  -- its numbers, and all of it
  numbers_same : numbers_of k (drop 2 (rule_bytes r ++ rest)) ≡ r.numbers
  numbers_same =
      ap₂ numbers_of (sym legal.size) (append_assoc (joined four r.numbers) (length r.word ∷ r.word) rest) ∙ numbers_read r.numbers ((length r.word ∷ r.word) ++ rest)

  pub rule_read : rule_of k (rule_bytes r ++ rest) ≡ r
  rule_read =
      let word : capped (word_of k (rule_bytes r ++ rest)) ≡ r.word = ap capped word_read ∙ capped_same n r.word few legal.word in
      λ i. record { symbol = r.symbol; letter = r.letter; numbers = numbers_same i; word = word i }

-- rules are short
pub rules_short : (n k : ℕ) (rs : List FileRule) → k ≤ 2 → All (LegalRule n k) rs → length (joined rule_bytes rs) ≤ 15 * length rs
rules_short n k [] few h = omega arith
rules_short n k (r ∷ rs) few h =
    let s = h.0.size in
    let l = h.0.short in
    let ih = rules_short n k rs few h.1 in
    let all = length-append (rule_bytes r) (joined rule_bytes rs) in
    let one = length-append (r.symbol ∷ r.letter ∷ joined four r.numbers) (length r.word ∷ r.word) in
    let f = four_length r.numbers in
    omega arith

-- the test for a rule
module _ (A a : ℕ) where
  abbrev pub at_rule : FileRule → Bool
  at_rule r = eqb r.symbol A && eqb r.letter a

  at_true : (r : FileRule) → at_rule r ≡ true → (r.symbol ≡ A) × (r.letter ≡ a)
  at_true r e = let h = and_parts (eqb r.symbol A) (eqb r.letter a) e in (eqb-true r.symbol A h.0, eqb-true r.letter a h.1)

  true_at : (r : FileRule) → r.symbol ≡ A → r.letter ≡ a → at_rule r ≡ true
  true_at r h k = and_from (eqb r.symbol A) (eqb r.letter a) (eq-eqb r.symbol A h) (eq-eqb r.letter a k)

  false_at : (r : FileRule) → ¬ ((r.symbol ≡ A) × (r.letter ≡ a)) → at_rule r ≡ false
  false_at r h = at (at_rule r) refl
    where
      at : (b : Bool) → at_rule r ≡ b → b ≡ false
      at true e = absurd (h (at_true r e))
      at false e = refl

  -- one rule more at the end
  at_push_other : (xs : List FileRule) (r : FileRule) → at_rule r ≡ false → rule_at A a (xs ++ (r ∷ [])) ≡ rule_at A a xs
  at_push_other [] r e = ap (λ b. cond b (Some r) None) e
  at_push_other (x ∷ xs) r e = ap (λ o. cond (at_rule x) (Some x) o) (at_push_other xs r e)

  at_push_here : (xs : List FileRule) (r : FileRule) → at_rule r ≡ true → rule_at A a xs ≡ None → rule_at A a (xs ++ (r ∷ [])) ≡ Some r
  at_push_here [] r e none = ap (λ b. cond b (Some r) None) e
  at_push_here (x ∷ xs) r e none = at (at_rule x) (at_push_here xs r e) none
    where
      at : (b : Bool) → (rule_at A a xs ≡ None → rule_at A a (xs ++ (r ∷ [])) ≡ Some r) → cond b (Some x) (rule_at A a xs) ≡ None → cond b (Some x) (rule_at A a (xs ++ (r ∷ []))) ≡ Some r
      at true ih e = absurd (let z : ◌≡◌ {A = ℕ} 0 1 = cc in omega arith)
      at false ih e = ih e

  -- a list of rules of which none is there
  pub rule_at_none : (P : FileRule → Type 0) → ((r : FileRule) → P r → ¬ ((r.symbol ≡ A) × (r.letter ≡ a))) → (xs : List FileRule) → All P xs → rule_at A a xs ≡ None
  rule_at_none P not [] h = refl
  rule_at_none P not (x ∷ xs) h = ap (λ b. cond b (Some x) (rule_at A a xs)) (false_at x (not x h.0)) ∙ rule_at_none P not xs h.1

-- in rising rules each comes before every later one
after_trans : (x y z : FileRule) → After x y → After y z → After x z
after_trans x y z (inl h) (inl k) = inl (omega arith)
after_trans x y z (inl h) (inr k) = let e = k.0 in inl (omega arith)
after_trans x y z (inr h) (inl k) = let e = h.0 in inl (omega arith)
after_trans x y z (inr h) (inr k) = inr (h.0 ∙ k.0, let e = h.1 in let f = k.1 in omega arith)

rising_all : (xs : List FileRule) (r : FileRule) (todo : List FileRule) → Rising After (xs ++ (r ∷ todo)) → All (λ x. After x r) xs
rising_all [] r todo h = tt
rising_all (x ∷ []) r todo h = (h.0, tt)
rising_all (x ∷ y ∷ ys) r todo h = let later = rising_all (y ∷ ys) r todo h.1 in (after_trans x y r h.0 later.0, later)

-- and none stands where a later one does
after_apart : (x r : FileRule) → After x r → ¬ ((x.symbol ≡ r.symbol) × (x.letter ≡ r.letter))
after_apart x r (inl h) e = let d = e.0 in omega arith
after_apart x r (inr h) e = let d = e.1 in let l = h.1 in omega arith

pub rule_at_new : (xs : List FileRule) (r : FileRule) (todo : List FileRule) → Rising After (xs ++ (r ∷ todo)) → rule_at r.symbol r.letter xs ≡ None
rule_at_new xs r todo h = rule_at_none r.symbol r.letter (λ x. After x r) (λ x k. after_apart x r k) xs (rising_all xs r todo h)

-- places are apart
index_apart : (A a B b : ℕ) → Letter a → Letter b → ¬ ((B ≡ A) × (b ≡ a)) → index A a ≢ index B b
index_apart A a B b h k not e =
    let low = h.0 in
    let high = h.1 in
    let from = k.0 in
    let to = k.1 in
    let same : B ≡ A = omega arith in
    let likewise : b ≡ a = omega arith in
    not (same, likewise)

index_within : (A a : ℕ) → A < 32 → Letter a → index A a < 832
index_within A a h k = let low = k.0 in let high = k.1 in omega arith

-- the rules done and those to do, the bytes left, the place of the next rule, and the table so far
pub record Passed (k : ℕ) (bs : List ℕ) (rs : List FileRule) (left : List ℕ) (place : ℕ) (ps : List ℕ) : Type 0 where
  pub done : List FileRule
  pub todo : List FileRule
  pub parts : rs ≡ done ++ todo
  pub rest : left ≡ joined rule_bytes todo
  pub place_is : place ≡ suc (length (joined rule_bytes done))
  pub placed : Placed k bs done ps

module _ (k : ℕ) (bs : List ℕ) (rs : List FileRule) (h : RulesOf k bs rs) where
  -- the start
  pub passed_none : Passed k bs rs bs 1 (replicate 832 0)
  passed_none = record {
    done = [];
    todo = rs;
    parts = refl;
    rest = h.bytes;
    place_is = refl;
    placed = λ A a few l. ap (λ p. option_map (rule_of k) (from_place bs p)) (get_or-replicate 832 (index A a) 0 0 (index_within A a few l));
  }

  -- the end: nothing is to do
  pub passed_all : (left : List ℕ) (place : ℕ) (ps : List ℕ) → Passed k bs rs left place ps → length left < 2 → Placed k bs rs ps
  passed_all left place ps w short = at w.todo w.parts w.rest
    where
      at : (todo : List FileRule) → rs ≡ w.done ++ todo → left ≡ joined rule_bytes todo → Placed k bs rs ps
      at [] e d = subst (λ xs. Placed k bs xs ps) (sym (e ∙ append-nil w.done)) w.placed
      at (r ∷ todo) e d = absurd (omega (arith, ap length d))

  -- the turn: the place of the next rule is written, and its bytes are passed
  pub passed_more : k ≤ 2 → (left : List ℕ) (place : ℕ) (ps : List ℕ) → length ps ≡ 832 → 2 ≤ length left → Passed k bs rs left place ps →
      (size : ℕ) → size ≡ 4 * k + 3 + get_or left (4 * k + 2) 0 → (rest : List ℕ) → rest ≡ drop size left → (next : ℕ) → next ≡ min (place + size) 65535 →
      (qs : List ℕ) → qs ≡ set ps (index (get_or left 0 0) (get_or left 1 0)) place → Passed k bs rs rest next qs
  passed_more few_kinds left place ps room long w size size_is rest rest_is next next-is qs qs-is = at w.todo w.parts w.rest
    where
      at : (todo : List FileRule) → rs ≡ w.done ++ todo → left ≡ joined rule_bytes todo → Passed k bs rs rest next qs
      at [] e d = absurd (omega (arith, ap length d))
      at (r ∷ todo) e d = record {
        done = w.done ++ (r ∷ []);
        todo = todo;
        parts = parts;
        rest = rest_is ∙ ap₂ drop long_is d ∙ drop_at (rule_bytes r) (joined rule_bytes todo) (length (rule_bytes r)) refl;
        place_is = next-is ∙ farther;
        placed = λ A a few l. ap (λ q. option_map (rule_of k) (from_place bs (get_or q (index A a) 0))) qs-is ∙ here A a few l (at_rule A a r) refl;
      }
        where
          parts : rs ≡ (w.done ++ (r ∷ [])) ++ todo
          parts = e ∙ sym (append_assoc w.done (r ∷ []) todo)

          each : All (LegalRule h.symbols k) ((w.done ++ (r ∷ [])) ++ todo)
          each = subst (All (LegalRule h.symbols k)) parts h.legal.each

          legal : LegalRule h.symbols k r
          legal = (all_back (LegalRule h.symbols k) w.done (r ∷ []) (all_front (LegalRule h.symbols k) (w.done ++ (r ∷ [])) todo each)).0

          rises : Rising After (w.done ++ (r ∷ todo))
          rises = subst (Rising After) e h.legal.rising

          long_is : size ≡ length (rule_bytes r)
          long_is = size_is ∙ ap (λ l. 4 * k + 3 + get_or l (4 * k + 2) 0) d ∙ size_read h.symbols k h.few r legal (joined rule_bytes todo)

          farther : min (place + size) 65535 ≡ suc (length (joined rule_bytes (w.done ++ (r ∷ []))))
          farther =
              let short = rules_short h.symbols k (w.done ++ (r ∷ [])) few_kinds (all_front (LegalRule h.symbols k) (w.done ++ (r ∷ [])) todo each) in
              let few = h.legal.few in
              let all = ap length parts ∙ length-append (w.done ++ (r ∷ [])) todo in
              let sum : length (joined rule_bytes (w.done ++ (r ∷ []))) ≡ length (joined rule_bytes w.done) + length (rule_bytes r) = ap length (joined_push rule_bytes w.done r) ∙ length-append (joined rule_bytes w.done) (rule_bytes r) in
              let before = w.place_is in
              let more = long_is in
              let total : place + size ≡ suc (length (joined rule_bytes (w.done ++ (r ∷ [])))) = omega arith in
              omega arith

          bytes : bs ≡ joined rule_bytes w.done ++ (rule_bytes r ++ joined rule_bytes todo)
          bytes = h.bytes ∙ ap (joined rule_bytes) e ∙ joined_append rule_bytes w.done (r ∷ todo)

          found : option_map (rule_of k) (from_place bs place) ≡ Some r
          found =
              ap (λ p. option_map (rule_of k) (from_place bs p)) w.place_is
              ∙ ap {B = Option FileRule} (λ l. Some (rule_of k l)) (ap (drop (length (joined rule_bytes w.done))) bytes ∙ drop_at (joined rule_bytes w.done) (rule_bytes r ++ joined rule_bytes todo) (length (joined rule_bytes w.done)) refl)
              ∙ ap {B = Option FileRule} Some (rule_read h.symbols k h.few r legal (joined rule_bytes todo))

          same_index : index (get_or left 0 0) (get_or left 1 0) ≡ index r.symbol r.letter
          same_index = ap (λ l. index (get_or l 0 0) (get_or l 1 0)) d

          here : (A a : ℕ) → A < 32 → Letter a → (b : Bool) → at_rule A a r ≡ b → option_map (rule_of k) (from_place bs (get_or (set ps (index (get_or left 0 0) (get_or left 1 0)) place) (index A a) 0)) ≡ rule_at A a (w.done ++ (r ∷ []))
          here A a few l true t =
              let is = at_true A a r t in
              let same : index (get_or left 0 0) (get_or left 1 0) ≡ index A a = same_index ∙ ap₂ index is.0 is.1 in
              let within : index A a < length ps = let i = index_within A a few l in omega arith in
              let none : rule_at A a w.done ≡ None = ap₂ (λ B b. rule_at B b w.done) (sym is.0) (sym is.1) ∙ rule_at_new w.done r todo rises in
              ap (λ i. option_map (rule_of k) (from_place bs (get_or (set ps i place) (index A a) 0))) same
              ∙ ap (λ p. option_map (rule_of k) (from_place bs p)) (get_or-set_same ps (index A a) place 0 within)
              ∙ found ∙ sym (at_push_here A a w.done r t none)
          here A a few l false t =
              let other : ¬ ((r.symbol ≡ A) × (r.letter ≡ a)) = λ q. both_ways (at_rule A a r) t (true_at A a r q.0 q.1) in
              let apart : index A a ≢ index r.symbol r.letter = index_apart A a r.symbol r.letter l legal.letter other in
              ap (λ i. option_map (rule_of k) (from_place bs (get_or (set ps i place) (index A a) 0))) same_index
              ∙ ap (λ p. option_map (rule_of k) (from_place bs p)) (get_or-set_other ps (index r.symbol r.letter) (index A a) place 0 apart)
              ∙ w.placed A a few l ∙ sym (at_push_other A a w.done r t)
