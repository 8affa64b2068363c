-- The lines of a comparer's symbols, and that they fit the buffer.
--
-- The idea: with each symbol one more smallest symbol is found, and its line stands behind the lines before. A norm has at most two digits, so a line has at most seven bytes.
--
-- Assumes nothing.
use Rattle.std.proofs.Common.{◌≡◌, ℕ, zero, suc, ◌+◌, ◌*◌, ◌^◌, ◌<◌, ◌≤◌, ◌⊎◌, List, ◌++◌, length, slice_index, slice_set, Some, None, Option, if◌then◌else◌, nat_lt, sym, ap, ap₂, ◌∙◌, subst, add-one, inl, inr, arith, length-append, get_or-set_other, get_or-set_same}
use Rattle.std.specs.Option.{unwrap_or}
use Rattle.std.proofs.lemmas.Bool.{lt-ltb, cases_order}
use Rattle.std.proofs.lemmas.Fmt.{length-decimal-le}
use Rattle.tally.specs.Group.{Group}
use Rattle.format.specs.Lent.{Wrote}
use Rattle.format.proofs.Writes.{wrote_then}
use Rattle.survey.specs.Surveyed.{surveyed, norm_in}
use Rattle.survey.specs.declared.table.Survey.{Survey}
use Rattle.listing.specs.Listed.{Smallest}
use Rattle.listing.specs.Found.{Found, Tells}
use Rattle.listing.specs.Texts.{symbol_line, lines}
use Rattle.listing.proofs.Parts.{wrote_as}
use Rattle.listing.proofs.OneListing.{lines_same}

-- the norm that a comparer tells
pub norm_told : (n norm A : ℕ) (o : Option ℕ) (k : ℕ) → A < n → o ≡ (if nat_lt A n then Some norm else None) → k ≡ unwrap_or o 0 → k ≡ norm
norm_told n norm A o k h told is = is ∙ ap (λ p. unwrap_or p 0) (told ∙ ap {B = Option ℕ} (λ b. if b then Some norm else None) (lt-ltb A n h))

module _ (bs : List ℕ) (k b : ℕ) (room : k < length bs) where
  set_before : (A : ℕ) → A < k → slice_index (slice_set bs k b) A ≡ slice_index bs A
  set_before A h = get_or-set_other bs k A b 0 (λ e. absurd (omega (arith, e)))

  set_there : slice_index (slice_set bs k b) k ≡ b
  set_there = get_or-set_same bs k b 0 room

module _ {T : Type 0} (𝓣 : Group T) (s : Survey T) (ns bs : List ℕ) where
  abbrev pub line : List ℕ → ℕ → List ℕ
  line found A = symbol_line ns (norm_in s A) A (slice_index found A)

  module _ (k b i : ℕ) (here : i ≡ k) (room : k < length bs) where
    found_more : Found 𝓣 (surveyed s) k bs → Smallest 𝓣 (surveyed s) k b → Found 𝓣 (surveyed s) (k + 1) (slice_set bs i b)
    found_more found least A h = subst (λ j. Smallest 𝓣 (surveyed s) A (slice_index (slice_set bs j b) A)) (sym here) (at (cases_order A k))
      where
        at : (A ≡ k) ⊎ ((A < k) ⊎ (k < A)) → Smallest 𝓣 (surveyed s) A (slice_index (slice_set bs k b) A)
        at (inl e) = subst (λ B. Smallest 𝓣 (surveyed s) B (slice_index (slice_set bs k b) B)) (sym e) (subst (Smallest 𝓣 (surveyed s) k) (sym (set_there bs k b room)) least)
        at (inr (inl l)) = subst (Smallest 𝓣 (surveyed s) A) (sym (set_before bs k b room A l)) (found A l)
        at (inr (inr l)) = absurd (omega arith)

    lines_more : lines (line bs) k ++ symbol_line ns (norm_in s k) k b ≡ lines (line (slice_set bs i b)) (k + 1)
    lines_more =
        let found = slice_set bs k b in
        let same = lines_same (line bs) (line found) k (λ A l. ap (λ B. symbol_line ns (norm_in s A) A B) (sym (set_before bs k b room A l))) in
        let last = ap (λ B. symbol_line ns (norm_in s k) k B) (sym (set_there bs k b room)) in
        ap₂ ◌++◌ same last ∙ ap (λ m. lines (line found) m) (sym (add-one k)) ∙ ap (λ j. lines (line (slice_set bs j b)) (k + 1)) (sym here)

  -- one more symbol is found, and its line is written
  pub one_more : (k b i n : ℕ) → i ≡ k → k < length bs → n ≡ norm_in s k → Found 𝓣 (surveyed s) k bs → Smallest 𝓣 (surveyed s) k b →
      (o p q : List ℕ) (at next : ℕ) → length o < 2 ^ 64 → Wrote o 0 (lines (line bs) k) at p → Wrote p at (symbol_line ns n k b) next q →
      Found 𝓣 (surveyed s) (k + 1) (slice_set bs i b) × Wrote o 0 (lines (line (slice_set bs i b)) (k + 1)) next q
  one_more k b i n here room norm found least o p q at next fits before more = (
    found_more k b i here room found least,
    wrote_as (lines_more k b i here room) (wrote_then fits before (wrote_as (ap (λ m. symbol_line ns m k b) norm) more)),
  )

  -- all are
  pub all_told : (k : ℕ) → s.skeleton.words.count ≤ k → k ≤ s.skeleton.words.count → Found 𝓣 (surveyed s) k bs → Tells 𝓣 s ns (lines (line bs) k)
  all_told k over under found =
      let e : k ≡ s.skeleton.words.count = omega arith in
      record { smallest = slice_index bs; least = λ A l. found A (omega arith); text = ap (lines (line bs)) e }

-- the line of a symbol has at most seven bytes
pub line_short : (ns : List ℕ) (n A B : ℕ) → n ≤ 64 → length (symbol_line ns n A B) ≤ 7
line_short ns n A B h = let l = length-decimal-le 2 n (omega arith) (omega arith) (omega arith) in simp length-append (omega (arith, l))

pub lines_short : (f : ℕ → List ℕ) (k : ℕ) → ((A : ℕ) → A < k → length (f A) ≤ 7) → length (lines f k) ≤ 7 * k
lines_short f zero short = omega arith
lines_short f (suc k) short =
    let before = lines_short f k (λ A l. short A (omega arith)) in
    let more = short k (omega arith) in
    omega (arith, length-append (lines f k) (f k))
