-- Words that are read byte by byte, and numbers that are read one by one. Assumes nothing.
use Rattle.std.proofs.Common.{◌≡◌, ℕ, suc, ◌+◌, ◌<◌, List, [], ◌∷◌, ◌++◌, length, take, drop, get_or, Some, None, Ok, Err, Result, refl, sym, ap, ◌∙◌, arith}
use mathlib.Core.List.{append_assoc}
use Rattle.std.proofs.Math.Seq.{drop-cons, take-suc}
use Rattle.std.proofs.lemmas.Option.{slice_get-get_or, slice_get_within, get_or_from_slice_get}
use Rattle.std.specs.List.{slice_get}
use Rattle.grammar.specs.Meaning.{Word}
use Rattle.grammar.proofs.Options.{none_some}
use Rattle.asking.specs.Spelling.{symbol_of, onto, spelled_from}

-- a word before what is still to be read
abbrev pub before : Word → Result Word ℕ → Result Word ℕ
before w (Ok v) = Ok (w ++ v)
before w (Err k) = Err k

-- a symbol more
before_onto : (w : Word) (A k : ℕ) (r : Result Word ℕ) → before w (onto (Some A) k r) ≡ before (w ++ A ∷ []) r
before_onto w A k (Ok v) = ap Ok (sym (append_assoc w (A ∷ []) v))
before_onto w A k (Err j) = refl

module _ (names text : List ℕ) (k : ℕ) (w : Word) (here : k < length text) where
  read_from : drop k text ≡ get_or text k 0 ∷ drop (suc k) text
  read_from = drop-cons text k 0 here

  -- the byte at k is the name of A
  pub read_on : (A : ℕ) → symbol_of names (get_or text k 0) ≡ Some A →
      before w (spelled_from k names (drop k text)) ≡ before (w ++ A ∷ []) (spelled_from (suc k) names (drop (suc k) text))
  read_on A e =
      ap (λ t. before w (spelled_from k names t)) read_from ∙ ap (λ o. before w (onto o k (spelled_from (suc k) names (drop (suc k) text)))) e
      ∙ before_onto w A k (spelled_from (suc k) names (drop (suc k) text))

-- one number more of a list
pub take_next : (xs : List ℕ) (k n : ℕ) → Some n ≡ slice_get xs k → take (k + 1) xs ≡ take k xs ++ n ∷ []
take_next xs k n e =
    let l = slice_get_within xs k n (sym e) in
    let next : k + 1 ≡ suc k = omega arith in
    ap (λ j. take j xs) next ∙ take-suc xs k 0 l ∙ ap (λ x. take k xs ++ x ∷ []) (get_or_from_slice_get xs k n 0 (sym e))

-- there is one at each place before the end
pub never_past : {X : Type 0} (xs : List ℕ) (k : ℕ) → None ≡ slice_get xs k → k < length xs → X
never_past xs k e h = absurd (none_some (e ∙ slice_get-get_or xs k 0 h))
