-- Lines of the form WORD INPUT, and what is answered.
--
-- names                the names of the symbols, in their order
-- named n              the symbol of a name, if it has one
-- onward k o           k of the symbol, if there is one
-- spelled w ns         the word w and then the symbols of the names ns, if each is a name
-- is b                 the test whether a byte is b
-- cut_at b s           the bytes of s before and after its first b, if there is one
-- pair_now p           what the two lent parts hold
-- first_line s         the first line, and what follows its line feed
-- two_fields p         a line cut at its first space, if neither part is empty and no other space is in it
-- plain_bytes s        the bytes of a field; a minus sign alone stands for none
-- GivesLine s r t      of the text s the line r is given and t is left; of the empty text none
-- Spells r ns          r is the word that the names ns spell, or that there is none; without memory nothing is said
-- Reads r line         r is what the line holds, or what is wrong with it; without memory nothing is said
-- in_millimetres r     what a run answers, its tally as a number of millimetres
--
-- Assumes nothing.
use Rattle.std.specs.Prelude.{◌≡◌, ℕ, ◌+◌, ◌<◌, Bool, cond, ◌||◌, List, [], ◌∷◌, ◌++◌, length, take, drop, Some, None, Ok, Err, vec_items, Option, Result, MatchOption, ◌==◌}
use Rattle.std.specs.Borrow.{Bor}
use Rattle.std.specs.List.{position, list_any}
use Rattle.std.specs.Option.{option_map, unwrap_or}
use Rattle.std.specs.declared.vec.Vec.{Vec}
use Rattle.tally.specs.declared.foot_mm.FootMm.{FootMm}
use Rattle.worked.specs.Seven.{millimetres}
use Rattle.worked.specs.declared.query.Query.{Query}
use Rattle.worked.specs.declared.query.QueryError.{QueryError}
use Rattle.worked.specs.declared.query.QueryError.TheVariants.{NoFields, NoWord, OutOfMemory}
use Rattle.grammar.specs.declared.too_long.InputTooLong.{InputTooLong}

abbrev pub names : List ℕ
names = 98 ∷ 99 ∷ 100 ∷ 101 ∷ 102 ∷ 107 ∷ 113 ∷ []

abbrev pub is : ℕ → ℕ → Bool
is b x = x == b

abbrev pub named : ℕ → Option ℕ
named n = position (is n) names

abbrev pub onward : (ℕ → Option (List ℕ)) → Option ℕ → Option (List ℕ)
onward k (Some A) = k A
onward k None = None

abbrev pub spelled : List ℕ → List ℕ → Option (List ℕ)
spelled w [] = Some w
spelled w (n ∷ ns) = onward (λ A. spelled (w ++ A ∷ []) ns) (named n)

abbrev pub cut_at : ℕ → List ℕ → Option (List ℕ × List ℕ)
cut_at b s = option_map (λ i. (take i s, drop (i + 1) s)) (position (is b) s)

abbrev pub pair_now : Bor (List ℕ) × Bor (List ℕ) → List ℕ × List ℕ
pair_now p = (p.0.now, p.1.now)

abbrev pub first_line : List ℕ → List ℕ × List ℕ
first_line s = unwrap_or (cut_at 10 s) (s, [])

abbrev pub two_fields : Option (List ℕ × List ℕ) → Option (List ℕ × List ℕ)
two_fields None = None
two_fields (Some p) = cond (length p.0 == 0 || (length p.1 == 0 || list_any (is 32) p.1)) None (Some p)

abbrev pub plain_bytes : List ℕ → List ℕ
plain_bytes [] = []
plain_bytes (x ∷ []) = cond (x == 45) [] (x ∷ [])
plain_bytes (x ∷ y ∷ s) = x ∷ y ∷ s

abbrev pub GivesLine : List ℕ → Option (Bor (List ℕ)) → List ℕ → Type 0
GivesLine s r t = MatchOption r (s ≡ []) (λ line. (0 < length s) × ((line.now, t) ≡ first_line s))

abbrev pub Spells : {A : Type 0} → Result (Vec ℕ A) QueryError → List ℕ → Type 0
Spells (Ok v) ns = spelled [] ns ≡ Some (vec_items v)
Spells (Err NoFields) ns = ⊥
Spells (Err NoWord) ns = spelled [] ns ≡ None
Spells (Err OutOfMemory) ns = Unit {0}

abbrev pub Reads : Result Query QueryError → List ℕ → Type 0
Reads (Ok q) line = option_map {U = Option (List ℕ) × List ℕ} (λ p. (spelled [] (plain_bytes p.0), plain_bytes p.1)) (two_fields (cut_at 32 line)) ≡ Some (Some (vec_items q.word), q.input.now)
Reads (Err NoFields) line = two_fields (cut_at 32 line) ≡ None
Reads (Err NoWord) line = option_map (λ p. spelled [] (plain_bytes p.0)) (two_fields (cut_at 32 line)) ≡ Some None
Reads (Err OutOfMemory) line = Unit {0}

abbrev pub in_millimetres : Result (Option FootMm) InputTooLong → Result (Option ℕ) InputTooLong
in_millimetres (Ok o) = Ok (millimetres o)
in_millimetres (Err e) = Err e
