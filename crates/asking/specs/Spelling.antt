-- Words as they are written: the names of their symbols run together, and a minus sign alone for the empty word.
--
-- is b x                     the test whether x is b
-- symbol_of names x          the symbol whose name is x, if there is one
-- onto A k r                 the symbol A before the word r; k where there is no symbol, or the place in r
-- spelled_from k names text  the word that the names of the text spell, or the first place, counted on from k, of a byte that is no name
-- plain text                 the names of a written word; of a minus sign alone none
-- spelled names text         the word that is written, or the first place of a byte that is no name
-- misspelled_text e          what is wrong with a written word, in words
-- Spells names text r        r is the word that is written, or the place; without memory nothing is said
--
-- Assumes nothing.
use Rattle.std.specs.Prelude.{◌≡◌, ℕ, suc, Bool, cond, List, [], ◌∷◌, ◌++◌, Some, None, Ok, Err, vec_items, Option, Result, ◌==◌, codes}
use Rattle.std.specs.Fmt.{decimal}
use Rattle.std.specs.List.{position}
use Rattle.std.specs.declared.vec.Vec.{Vec}
use Rattle.grammar.specs.Meaning.{Word}
use Rattle.asking.specs.declared.misspelled.Misspelled.{Misspelled}
use Rattle.asking.specs.declared.misspelled.Misspelled.TheVariants.{NoName, OutOfMemory}

abbrev pub is : ℕ → ℕ → Bool
is b x = x == b

abbrev pub symbol_of : List ℕ → ℕ → Option ℕ
symbol_of names x = position (is x) names

abbrev pub onto : Option ℕ → ℕ → Result Word ℕ → Result Word ℕ
onto None k r = Err k
onto (Some A) k (Ok w) = Ok (A ∷ w)
onto (Some A) k (Err j) = Err j

abbrev pub spelled_from : ℕ → List ℕ → List ℕ → Result Word ℕ
spelled_from k names [] = Ok []
spelled_from k names (x ∷ text) = onto (symbol_of names x) k (spelled_from (suc k) names text)

abbrev pub plain : List ℕ → List ℕ
plain [] = []
plain (x ∷ []) = cond (x == 45) [] (x ∷ [])
plain (x ∷ y ∷ text) = x ∷ y ∷ text

abbrev pub spelled : List ℕ → List ℕ → Result Word ℕ
spelled names text = spelled_from 0 names (plain text)

abbrev pub misspelled_text : Misspelled → List ℕ
misspelled_text (NoName k) = codes "the byte at place " ++ decimal k ++ codes " is no name"
misspelled_text OutOfMemory = codes "out of memory"

abbrev pub Spells : {A : Type 0} → List ℕ → List ℕ → Result (Vec ℕ A) Misspelled → Type 0
Spells names text (Ok v) = spelled names text ≡ Ok (vec_items v)
Spells names text (Err (NoName k)) = spelled names text ≡ Err k
Spells names text (Err OutOfMemory) = Unit {0}
