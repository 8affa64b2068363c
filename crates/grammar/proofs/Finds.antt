-- Records of a list grammar: the search for the first one, and the word of one. Assumes nothing.
use Rattle.std.proofs.Common.{◌≡◌, ℕ, ◌+◌, ◌<◌, ◌≤◌, min, Bool, true, false, cond, ◌&&◌, eqb, ltb, leb, List, [], ◌∷◌, ◌++◌, length, get_or, take, drop, Some, None, Option, sym, refl, ap, ◌∙◌, arith, length-take, get_or-take, ltb-true, lt-ltb, eq-eqb, eqb-true, le-leb, leb-true}
use lib.ListN.{length-map}
use borrow.Author.Tests.{both_ways}
use Rattle.std.proofs.lemmas.Bool.{and_parts, and_from}
use Rattle.std.specs.Option.{option_map}
use Rattle.std.proofs.lemmas.List.{get_or_past, get_or-map, drop_all}
use Rattle.std.specs.List.{find}
use Rattle.grammar.specs.declared.records.RuleWord.{RuleWord}
use Rattle.grammar.specs.declared.records.RuleRecord.{RuleRecord}
use Rattle.grammar.specs.Meaning.{Weighted}
use Rattle.grammar.specs.Listed.{written, first_hit, hit, letter, of_record, listed, Misses, FirstFor, Gives, ListLaw}
use Rattle.grammar.proofs.Lists.{opened}
use Rattle.grammar.proofs.Options.{none_some, some_same}

module _ {T : Type 0} (A a : ℕ) (rs : List (RuleRecord T)) (i : ℕ) (r : RuleRecord T) (h : i < length rs) (read : r ≡ get_or rs i r) where
  pub first_here : hit A a r ≡ true → first_hit A a (drop i rs) ≡ Some r
  first_here e = ap (first_hit A a) (opened rs i r r h read) ∙ ap (λ b. cond b (Some r) (first_hit A a (drop (i + 1) rs))) e

  pub first_later : hit A a r ≡ false → first_hit A a (drop i rs) ≡ first_hit A a (drop (i + 1) rs)
  first_later e = ap (first_hit A a) (opened rs i r r h read) ∙ ap (λ b. cond b (Some r) (first_hit A a (drop (i + 1) rs))) e

pub first_none : {T : Type 0} (A a : ℕ) (rs : List (RuleRecord T)) (i : ℕ) → length rs ≤ i → first_hit A a (drop i rs) ≡ None
first_none A a rs i h = ap (first_hit A a) (drop_all i rs h)

-- the search goes on behind a record that is missed
pub first_hit_found : {T : Type 0} (A a : ℕ) (rs : List (RuleRecord T)) → first_hit A a rs ≡ find (hit A a) rs
first_hit_found A a [] = refl
first_hit_found A a (r ∷ rs) = ap (cond (hit A a r) (Some r)) (first_hit_found A a rs)

-- how many symbols of a record count
pub written_length : (w : RuleWord) → length w.symbols ≡ 5 → length (written w) ≡ min 5 w.length
written_length w h = simp (length-map, length-take) (omega arith)

pub written_few : (w : RuleWord) → length (written w) ≤ min 5 w.length
written_few w = simp (length-map, length-take) (omega arith)

-- a symbol among those that count, and beyond them
pub written_within : (w : RuleWord) (i : ℕ) → i < length (written w) → get_or w.symbols i 0 < 256 → get_or w.symbols i 0 ≡ get_or (written w) i 255
written_within w i h k =
    let few = written_few w in
    let n : ℕ = min 5 w.length in
    let front : get_or (take n w.symbols) i 0 ≡ get_or w.symbols i 0 = get_or-take n w.symbols i 0 (omega arith) in
    let read : get_or (written w) i 255 ≡ min 255 (get_or (take n w.symbols) i 0) = get_or-map (λ B. min 255 B) (take n w.symbols) i 0 255 (simp length-map at h) in
    omega arith

pub written_beyond : (w : RuleWord) (i : ℕ) → length (written w) ≤ i → 255 ≡ get_or (written w) i 255
written_beyond w i h = sym (get_or_past (written w) i 255 h)

-- The rules of a list grammar are just those that its records give.
module _ {T : Type 0} (A a : ℕ) where
  hit_true : (r : RuleRecord T) → hit A a r ≡ true → (r.symbol ≡ A) × (r.letter ≡ a)
  hit_true r e = let h = and_parts (eqb r.symbol A) (eqb r.letter a) e in (eqb-true r.symbol A h.0, eqb-true r.letter a h.1)

  true_hit : (r : RuleRecord T) → (r.symbol ≡ A) × (r.letter ≡ a) → hit A a r ≡ true
  true_hit r h = and_from (eqb r.symbol A) (eqb r.letter a) (eq-eqb r.symbol A h.0) (eq-eqb r.letter a h.1)

  hit_false : (r : RuleRecord T) → hit A a r ≡ false → ¬ ((r.symbol ≡ A) × (r.letter ≡ a))
  hit_false r e h = both_ways (hit A a r) e (true_hit r h)

  false_hit : (r : RuleRecord T) → ¬ ((r.symbol ≡ A) × (r.letter ≡ a)) → hit A a r ≡ false
  false_hit r h = at (hit A a r) refl
    where
      at : (b : Bool) → hit A a r ≡ b → b ≡ false
      at true e = absurd (h (hit_true r e))
      at false e = refl

  first_found : (rs : List (RuleRecord T)) (r : RuleRecord T) → first_hit A a rs ≡ Some r → FirstFor A a r rs
  first_found [] r e = absurd (none_some e)
  first_found (x ∷ rs) r e = at (hit A a x) refl (first_found rs r) e
    where
      at : (b : Bool) → hit A a x ≡ b → (first_hit A a rs ≡ Some r → FirstFor A a r rs) → cond b (Some x) (first_hit A a rs) ≡ Some r → FirstFor A a r (x ∷ rs)
      at true h ih e =
          let same : x ≡ r = some_same e in
          let k = hit_true x h in
          record { front = []; back = rs; parts = ap (λ y. y ∷ rs) same; symbol = sym (ap (λ (y : RuleRecord T). y.symbol) same) ∙ k.0; letter = sym (ap (λ (y : RuleRecord T). y.letter) same) ∙ k.1; misses = tt }
      at false h ih e =
          let f = ih e in
          record { front = x ∷ f.front; back = f.back; parts = ap (λ ys. x ∷ ys) f.parts; symbol = f.symbol; letter = f.letter; misses = (hit_false x h, f.misses) }

  found_first : (front back : List (RuleRecord T)) (r : RuleRecord T) → (r.symbol ≡ A) × (r.letter ≡ a) → Misses A a front → first_hit A a (front ++ r ∷ back) ≡ Some r
  found_first [] back r h m = rw (true_hit r h)
  found_first (x ∷ front) back r h m = rw (false_hit x m.0) (found_first front back r h m.1)

pub list_law : {T : Type 0} (n : ℕ) (rs : List (RuleRecord T)) → ListLaw n rs
list_law {T} n rs A a m = (to, from)
  where
    to : (listed n rs).rule A a ≡ Some m → Gives n rs A a m
    to e = at (ltb A (min 255 n)) (letter a) refl refl (first_hit A a rs) refl e
      where
        at : (b c : Bool) → ltb A (min 255 n) ≡ b → letter a ≡ c → (o : Option (RuleRecord T)) → first_hit A a rs ≡ o → cond (b && c) (option_map of_record o) None ≡ Some m → Gives n rs A a m
        at true true d f (Some r) h e =
            let k = and_parts (leb 65 a) (leb a 90) f in
            record { counted = ltb-true A (min 255 n) d; lettered = (leb-true 65 a k.0, leb-true a 90 k.1); source = r; first = first_found A a rs r h; rule = sym (some_same e) }
        at true true d f None h e = absurd (none_some e)
        at true false d f o h e = absurd (none_some e)
        at false c d f o h e = absurd (none_some e)

    from : Gives n rs A a m → (listed n rs).rule A a ≡ Some m
    from g =
        let f = g.first in
        let found : first_hit A a rs ≡ Some g.source = ap (first_hit A a) f.parts ∙ found_first A a f.front f.back g.source (f.symbol, f.letter) f.misses in
        let lettered : letter a ≡ true = and_from (leb 65 a) (leb a 90) (le-leb 65 a g.lettered.0) (le-leb a 90 g.lettered.1) in
        rw (lt-ltb A (min 255 n) g.counted, lettered, found) (ap {B = Option (Weighted T)} Some (sym g.rule))
