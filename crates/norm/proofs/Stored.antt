-- What a table of words has. Assumes nothing.
use Rattle.std.proofs.Common.{◌≡◌, ℕ, ◌<◌, ◌≤◌, Bool, true, false, cond, ◌&&◌, List, length, get_or, is_some, Some, None, Option, refl, nat_lt, nat_le, arith, length-take, ltb-true, leb-true}
use Rattle.std.proofs.lemmas.Bool.{and_parts}
use Rattle.std.specs.Option.{option_map}
use Rattle.grammar.specs.Meaning.{Word, Letter}
use Rattle.grammar.specs.Listed.{letter}
use Rattle.norm.specs.Words.{body}
use Rattle.grammar.specs.Places.{index}
use Rattle.norm.specs.Tabled.{held, stored}
use Rattle.norm.specs.declared.short_word.ShortWord.{ShortWord}

-- a letter, told by its test
pub letter_true : (a : ℕ) → letter a ≡ true → Letter a
letter_true a e = let h = and_parts (nat_le 65 a) (nat_le a 90) e in (leb-true 65 a h.0, leb-true a 90 h.1)

-- what is found in a table passed its test
pub stored_tested : (n : ℕ) (ws : List (Option (ShortWord 4))) (A a : ℕ) → is_some (stored n ws A a) ≡ true → (A < n) × Letter a
stored_tested n ws A a e =
    let p = and_parts (nat_lt A n) (letter a) (tested (nat_lt A n && letter a) (option_map held (get_or ws (index A a) None)) e) in
    (ltb-true A n p.0, letter_true a p.1)
  where
    tested : (b : Bool) (o : Option Word) → is_some (cond b o None) ≡ true → b ≡ true
    tested true o e = refl
    tested false o e = e

pub stored_counted : (n : ℕ) (ws : List (Option (ShortWord 4))) (A a : ℕ) → is_some (stored n ws A a) ≡ true → A < n
stored_counted n ws A a e = (stored_tested n ws A a e).0

-- and has at most 4 symbols
pub body_short : (n : ℕ) (ws : List (Option (ShortWord 4))) (A a : ℕ) → length (body (stored n ws A a)) ≤ 4
body_short n ws A a = tested (nat_lt A n && letter a)
  where
    found : (o : Option (ShortWord 4)) → length (body (option_map held o)) ≤ 4
    found None = omega arith
    found (Some w) = let h = w.within in simp length-take (omega arith)

    tested : (b : Bool) → length (body (cond b (option_map held (get_or ws (index A a) None)) None)) ≤ 4
    tested true = found (get_or ws (index A a) None)
    tested false = omega arith
