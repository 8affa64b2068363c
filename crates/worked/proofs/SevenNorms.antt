-- The norms and first inputs of the example, by a certificate that is computed. Assumes nothing.
use Rattle.std.proofs.Common.{◌≡◌, ℕ, zero, suc, ◌<◌, ◌≤◌, Bool, true, ◌&&◌, ltb, leb, List, [], ◌∷◌, ◌++◌, length, is_some, Some, None, Option, sym, refl, ap, subst, arith, ltb-true, leb-true}
use Rattle.std.proofs.lemmas.Bool.{and_parts}
use Rattle.std.specs.Prelude.{slice_index}
use Rattle.std.specs.Option.{option_map}
use Rattle.tally.specs.Makes.{foot_group}
use Rattle.tally.specs.declared.foot_mm.FootMm.{FootMm}
use Rattle.grammar.specs.Meaning.{Word, Weighted, Below}
use Rattle.grammar.specs.Listed.{written}
use Rattle.grammar.specs.declared.records.RuleRecord.{RuleRecord}
use Rattle.grammar.proofs.Finds.{list_law}
use Rattle.norm.specs.Words.{words_of, body}
use Rattle.norm.specs.Norms.{First, Normed, norms}
use Rattle.norm.specs.Certified.{Certified, spelled}
use Rattle.norm.proofs.Certificates.{certificate_law}
use Rattle.worked.specs.Seven.{seven_rules, seven, norm, first}

-- the first letters of the first inputs
abbrev letter : ℕ → ℕ
letter = slice_index (76 ∷ 76 ∷ 76 ∷ 76 ∷ 76 ∷ 80 ∷ 80 ∷ [])

-- the test of a record: it does not undercut the norm, its letter is no earlier, its symbols are known
abbrev below : Word → Bool
below [] = true
below (A ∷ w) = ltb A 7 && below w

abbrev fits : RuleRecord FootMm → Bool
fits r = leb (norm r.symbol) (suc (norms norm (written r.word))) && (leb (letter r.symbol) r.letter && below (written r.word))

abbrev all_fit : List (RuleRecord FootMm) → Bool
all_fit [] = true
all_fit (r ∷ rs) = fits r && all_fit rs

below_is : (w : Word) → below w ≡ true → Below 7 w
below_is [] e = tt
below_is (A ∷ w) e = let h = and_parts (ltb A 7) (below w) e in (ltb-true A 7 h.0, below_is w h.1)

picked : (front back : List (RuleRecord FootMm)) (r : RuleRecord FootMm) → all_fit (front ++ r ∷ back) ≡ true → fits r ≡ true
picked [] back r e = (and_parts (fits r) (all_fit back) e).0
picked (x ∷ front) back r e = picked front back r (and_parts (fits x) (all_fit (front ++ r ∷ back)) e).1

-- what the test says of a rule
record Kept (A a : ℕ) (w : Word) : Type 0 where
  under : norm A ≤ suc (norms norm w)
  no_earlier : letter A ≤ a
  known : Below 7 w

kept : (A a : ℕ) (m : Weighted FootMm) → seven.rule A a ≡ Some m → Kept A a m.word
kept A a m e =
    let g = (list_law 7 seven_rules A a m).0 e in
    let r = g.source in
    let f = picked g.first.front g.first.back r (subst (λ rs. all_fit rs ≡ true) g.first.parts refl) in
    let h = and_parts (leb (norm r.symbol) (suc (norms norm (written r.word)))) (leb (letter r.symbol) r.letter && below (written r.word)) f in
    let k = and_parts (leb (letter r.symbol) r.letter) (below (written r.word)) h.1 in
    let own : Kept r.symbol r.letter (written r.word) = record { under = leb-true (norm r.symbol) (suc (norms norm (written r.word))) h.0; no_earlier = leb-true (letter r.symbol) r.letter k.0; known = below_is (written r.word) k.1 } in
    subst (λ w. Kept A a w) (sym (ap (λ (x : Weighted FootMm). x.word) g.rule)) (subst (λ b. Kept A b (written r.word)) g.first.letter (subst (λ B. Kept B r.letter (written r.word)) g.first.symbol own))

some_word : (o : Option (Weighted FootMm)) → is_some (option_map (λ m. m.word) o) ≡ true → (m : Weighted FootMm) × (o ≡ Some m) × (body (option_map (λ m. m.word) o) ≡ m.word)
some_word None e = absurd (let z : ◌≡◌ {A = ℕ} 0 1 = cc in omega arith)
some_word (Some m) e = (m, refl, refl)

there_kept : (A a : ℕ) → is_some (words_of seven A a) ≡ true → Kept A a (body (words_of seven A a))
there_kept A a e = let m = some_word (seven.rule A a) e in subst (λ w. Kept A a w) (sym m.2) (kept A a m.0 m.1)

known : (A a : ℕ) → Below 7 (body (words_of seven A a))
known A a = at (seven.rule A a) refl
  where
    at : (o : Option (Weighted FootMm)) → seven.rule A a ≡ o → Below 7 (body (option_map (λ m. m.word) o))
    at None e = tt
    at (Some m) e = (kept A a m e).known

-- what holds of each of the seven holds below seven
each_of : (P : ℕ → Type 0) → P 0 → P 1 → P 2 → P 3 → P 4 → P 5 → P 6 → (A : ℕ) → A < 7 → P A
each_of P b c d e f k q zero h = b
each_of P b c d e f k q (suc zero) h = c
each_of P b c d e f k q (suc (suc zero)) h = d
each_of P b c d e f k q (suc (suc (suc zero))) h = e
each_of P b c d e f k q (suc (suc (suc (suc zero)))) h = f
each_of P b c d e f k q (suc (suc (suc (suc (suc zero))))) h = k
each_of P b c d e f k q (suc (suc (suc (suc (suc (suc zero)))))) h = q
each_of P b c d e f k q (suc (suc (suc (suc (suc (suc (suc A))))))) h = absurd (omega arith)

certified : Certified 64 7 (words_of seven) norm letter
certified = record {
  below = λ A a e. (there_kept A a e).under;
  there = λ A h l. each_of (λ A. is_some (words_of seven A (letter A)) ≡ true) refl refl refl refl refl refl refl A h;
  attained = λ A h l. each_of (λ A. norm A ≡ suc (norms norm (body (words_of seven A (letter A))))) refl refl refl refl refl refl refl A h;
  earliest = λ A a h e l. let k = (there_kept A a e).no_earlier in absurd (omega arith);
  known = known;
}

small : (A : ℕ) → A < 7 → leb (norm A) 64 ≡ true
small = each_of (λ A. leb (norm A) 64 ≡ true) refl refl refl refl refl refl refl

spells : (A : ℕ) → A < 7 → spelled (words_of seven) letter (norms norm (A ∷ [])) (A ∷ []) ≡ first A
spells = each_of (λ A. spelled (words_of seven) letter (norms norm (A ∷ [])) (A ∷ []) ≡ first A) refl refl refl refl refl refl refl

pub normed : Normed foot_group seven norm first
normed = record {
  first_input = λ A h.
      let w = (certificate_law foot_group).within 64 seven norm letter certified (A ∷ []) (h, tt) (leb-true (norm A) 64 (small A h), tt) in
      subst (λ s. First foot_group seven (A ∷ []) s) (spells A h) w.0;
  size = each_of (λ A. norm A ≡ length (first A)) refl refl refl refl refl refl refl;
}
