-- Contents that hold the same: legal rules that mean the same are the same rules, and rising rows with the same words are the same rows.
--
-- The idea: what is found of the one at a member's place is found of the other there; so both have the same members, and both rise.
--
-- Assumes nothing.
use Rattle.std.proofs.Common.{◌≡◌, ℕ, ◌^◌, ◌<◌, ◌≤◌, List, [], ◌∷◌, length, take, slice_index, Some, None, Option, sym, refl, ap, ◌∙◌, subst, arith}
use Rattle.std.specs.Option.{option_map}
use Rattle.grammar.specs.Meaning.{Weighted}
use Rattle.grammar.proofs.Options.{some_none, some_same}
use Rattle.layout.specs.Contents.{FileRule, FileRow, All, Rising, RowAfter, After, LegalRule}
use Rattle.layout.specs.Wrong.{LegalRules}
use Rattle.format.specs.Kinds.{Lossless}
use Rattle.file_grammar.specs.Filed.{rule_at, weighed}
use Rattle.sheet.specs.Rowed.{row_at}
use Rattle.writing.proofs.Members.{In, member_of, same_list}
use Rattle.writing.proofs.Lookups.{after_trans, after_not_same, rule_found, rule_finds, row_after_trans, row_after_not_same, row_found, row_finds}

module _ {T : Type 0} (ks : List ℕ) (numbers : T → List ℕ) (made : ℕ → ℕ → T) (lossless : Lossless ks numbers made) (few : length ks ≤ 2) where
  -- the numbers of a rule are those of its tally
  numbers_same : (ns : List ℕ) → length ns ≡ length ks → All (λ n. n < 2 ^ 32) ns → numbers (made (slice_index ns 0) (slice_index ns 1)) ≡ ns
  numbers_same ns size small =
      lossless.there few (slice_index ns 0) (slice_index ns 1) (small_first ns small) (small_second ns small)
      ∙ ap (λ k. take k (slice_index ns 0 ∷ slice_index ns 1 ∷ [])) (sym size) ∙ all ns (omega arith)
    where
      small_first : (ns : List ℕ) → All (λ n. n < 2 ^ 32) ns → slice_index ns 0 < 2 ^ 32
      small_first [] h = omega arith
      small_first (n ∷ ns) h = h.0

      small_second : (ns : List ℕ) → All (λ n. n < 2 ^ 32) ns → slice_index ns 1 < 2 ^ 32
      small_second [] h = omega arith
      small_second (n ∷ []) h = omega arith
      small_second (n ∷ m ∷ ns) h = h.1.0

      all : (ns : List ℕ) → length ns ≤ 2 → take (length ns) (slice_index ns 0 ∷ slice_index ns 1 ∷ []) ≡ ns
      all [] l = refl
      all (n ∷ []) l = refl
      all (n ∷ m ∷ []) l = refl
      all (n ∷ m ∷ k ∷ ns) l = absurd (omega arith)

  -- a rule is told by its place and what it gives
  same_rule : (q r : FileRule) → q.symbol ≡ r.symbol → q.letter ≡ r.letter → length q.numbers ≡ length ks → length r.numbers ≡ length ks →
      All (λ n. n < 2 ^ 32) q.numbers → All (λ n. n < 2 ^ 32) r.numbers → weighed made q ≡ weighed made r → q ≡ r
  same_rule q r symbol letter q_size r_size q_small r_small e =
      let same : q.numbers ≡ r.numbers = sym (numbers_same q.numbers q_size q_small) ∙ ap (λ (m : Weighted T). numbers m.tally) e ∙ numbers_same r.numbers r_size r_small in
      λ i. record { symbol = symbol i; letter = letter i; numbers = same i; word = (e i).word }

  -- legal rules that mean the same are the same rules
  module _ (n : ℕ) (rs qs : List FileRule) (r_legal : LegalRules n (length ks) rs) (q_legal : LegalRules n (length ks) qs)
      (same : (A a : ℕ) → option_map (weighed made) (rule_at A a rs) ≡ option_map (weighed made) (rule_at A a qs)) where
    rules_within : (r : FileRule) → In r rs → In r qs
    rules_within r h = go (rule_at r.symbol r.letter qs) refl (ap (option_map (weighed made)) (sym (rule_finds rs r r_legal.rising h)) ∙ same r.symbol r.letter)
      where
        go : (o : Option FileRule) → rule_at r.symbol r.letter qs ≡ o → Some (weighed made r) ≡ option_map (weighed made) o → In r qs
        go None d e = absurd (some_none e)
        go (Some q) d e =
            let f = rule_found r.symbol r.letter qs q d in
            let ql = member_of (LegalRule n (length ks)) qs q q_legal.each f.member in
            let rl = member_of (LegalRule n (length ks)) rs r r_legal.each h in
            subst (λ z. In z qs) (same_rule q r f.symbol f.letter ql.size rl.size ql.numbers rl.numbers (sym (some_same e))) f.member

  pub rules_one : (n : ℕ) (rs qs : List FileRule) → LegalRules n (length ks) rs → LegalRules n (length ks) qs →
      ((A a : ℕ) → option_map (weighed made) (rule_at A a rs) ≡ option_map (weighed made) (rule_at A a qs)) → rs ≡ qs
  rules_one n rs qs h k e =
      same_list After after_trans after_not_same rs qs h.rising k.rising (rules_within n rs qs h k e) (rules_within n qs rs k h (λ A a. sym (e A a)))

-- rising rows with the same words are the same rows
rows_within : (rs qs : List FileRow) → Rising RowAfter rs → Rising RowAfter qs → ((A : ℕ) → row_at A rs ≡ row_at A qs) → (r : FileRow) → In r rs → In r qs
rows_within rs qs h k e r i = row_found r.symbol qs r.word (sym (e r.symbol) ∙ row_finds rs r h i)

pub rows_one : (rs qs : List FileRow) → Rising RowAfter rs → Rising RowAfter qs → ((A : ℕ) → row_at A rs ≡ row_at A qs) → rs ≡ qs
rows_one rs qs h k e =
    same_list RowAfter row_after_trans row_after_not_same rs qs h k (rows_within rs qs h k e) (rows_within qs rs k h (λ A. sym (e A)))
