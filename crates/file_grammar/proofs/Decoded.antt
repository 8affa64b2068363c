-- The bytes of one rule: what is read out of them. Assumes nothing.
use Rattle.std.proofs.Common.{◌≡◌, ℕ, zero, suc, ◌+◌, ◌*◌, ◌<◌, ◌≤◌, min, List, length, get_or, take, drop, sym, refl, ap, ◌∙◌, ⊎_elim, arith, [], ◌∷◌}
use lib.ListN.{length-map}
use Rattle.std.proofs.lemmas.List.{drop-drop, drop_all, take_all, get_or_past, get_or-map, get_or-drop}
use Rattle.std.proofs.lemmas.Bool.{cases_lt}
use Rattle.std.specs.Int.{from_be_bytes, w32}
use Rattle.grammar.specs.Meaning.{Word}
use Rattle.grammar.specs.Listed.{capped}
use Rattle.file_grammar.specs.Tabled.{number_of, numbers_of}

-- a cut at the end at the latest
pub drop_within : (n : ℕ) (bs : List ℕ) → drop (min n (length bs)) bs ≡ drop n bs
drop_within n bs = ⊎_elim before past (cases_lt n (length bs))
  where
    before : n < length bs → drop (min n (length bs)) bs ≡ drop n bs
    before h = let e : min n (length bs) ≡ n = omega arith in ap (λ m. drop m bs) e

    past : length bs ≤ n → drop (min n (length bs)) bs ≡ drop n bs
    past h = drop_all (min n (length bs)) bs (omega arith) ∙ sym (drop_all n bs h)

pub take_within : (n : ℕ) (bs : List ℕ) → take (min n (length bs)) bs ≡ take n bs
take_within n bs = ⊎_elim before past (cases_lt n (length bs))
  where
    before : n < length bs → take (min n (length bs)) bs ≡ take n bs
    before h = let e : min n (length bs) ≡ n = omega arith in ap (λ m. take m bs) e

    past : length bs ≤ n → take (min n (length bs)) bs ≡ take n bs
    past h = take_all (min n (length bs)) bs (omega arith) ∙ sym (take_all n bs h)

-- each number has four bytes
pub numbers_within : (k i : ℕ) (bs : List ℕ) → i < k → get_or (numbers_of k bs) i 0 ≡ number_of (drop (4 * i) bs)
numbers_within zero i bs h = absurd (omega arith)
numbers_within (suc k) zero bs h = refl
numbers_within (suc k) (suc i) bs h =
    let step : 4 + 4 * i ≡ 4 * suc i = omega arith in
    numbers_within k i (drop 4 bs) (omega arith) ∙ ap number_of (drop-drop (4 * i) 4 bs ∙ ap (λ n. drop n bs) step)

pub numbers_length : (k : ℕ) (bs : List ℕ) → length (numbers_of k bs) ≡ k
numbers_length zero bs = refl
numbers_length (suc k) bs = ap suc (numbers_length k (drop 4 bs))

pub numbers_beyond : (k i : ℕ) (bs : List ℕ) → k ≤ i → 0 ≡ get_or (numbers_of k bs) i 0
numbers_beyond k i bs h = sym (get_or_past (numbers_of k bs) i 0 (let e = numbers_length k bs in omega arith))

-- the number at a place, as the rule's bytes have it behind symbol and letter
pub number_found : (k i : ℕ) (bs : List ℕ) → i < k → number_of (drop (4 * i + 2) bs) ≡ get_or (numbers_of k (drop 2 bs)) i 0
number_found k i bs h =
    let step : 4 * i + 2 ≡ 2 + 4 * i = omega arith in
    sym (numbers_within k i (drop 2 bs) h ∙ ap number_of (drop-drop (4 * i) 2 bs ∙ ap (λ n. drop n bs) (sym step)))

-- four bytes from there on, put together
pub number_read : (i : ℕ) (bs : List ℕ) (j a b c d : ℕ) → j ≡ i → a ≡ get_or bs (4 * j + 2) 0 → b ≡ get_or bs (4 * j + 2 + 1) 0 → c ≡ get_or bs (4 * j + 2 + 2) 0 → d ≡ get_or bs (4 * j + 2 + 3) 0 →
    from_be_bytes w32 (a ∷ b ∷ c ∷ d ∷ []) ≡ number_of (drop (4 * i + 2) bs)
number_read i bs j a b c d same ea eb ec ed =
    let at : 4 * j + 2 ≡ 4 * i + 2 = ap (λ m. 4 * m + 2) same in
    let here : 4 * j + 2 + 0 ≡ 4 * j + 2 = omega arith in
    let e0 = get_or-drop (4 * j + 2) bs 0 0 ∙ ap (λ m. get_or bs m 0) here in
    let e1 = get_or-drop (4 * j + 2) bs 1 0 in
    let e2 = get_or-drop (4 * j + 2) bs 2 0 in
    let e3 = get_or-drop (4 * j + 2) bs 3 0 in
    let all : from_be_bytes w32 (a ∷ b ∷ c ∷ d ∷ []) ≡ number_of (drop (4 * j + 2) bs) = omega arith in
    all ∙ ap (λ n. number_of (drop n bs)) at

-- a symbol of the word, and beyond it
pub symbol_within : (w : Word) (i : ℕ) → i < length w → get_or w i 0 < 256 → get_or w i 0 ≡ get_or (capped w) i 255
symbol_within w i h k = let e = get_or-map (λ B. min 255 B) w i 0 255 h in omega arith

pub symbol_beyond : (w : Word) (i : ℕ) → length w ≤ i → 255 ≡ get_or (capped w) i 255
symbol_beyond w i h = sym (get_or_past (capped w) i 255 (simp length-map h))
