-- Two comparisons in the grammar with seven symbols. Assumes nothing.
use Rattle.std.proofs.Common.{◌≡◌, ℕ, zero, suc, ◌≤◌, max, Bool, true, false, cond, List, [], ◌∷◌, length, Some, sym, refl, ap, ◌∙◌, ne_eqb, inl, inr, arith, ◌&&◌, ◌==◌}
use Rattle.tally.specs.Group.{Group}
use Rattle.tally.proofs.Totals.{right}
use Rattle.grammar.specs.Meaning.{Meaning, word_of}
use Rattle.grammar.specs.Takes.{Differ, only_second, by_tally}
use Rattle.rows.specs.Sheets.{Sheet, offset, normal_nil, normal_keep, normal_put}
use Rattle.rows.specs.Example.{Line, line_at, L, P, S, b, e, k, q, seven_lines, seven, sevens, row, alone}
use Rattle.rows.proofs.Example as rows
use Rattle.witness.specs.History.{Limited, Pair, given, from_row, Written, Ending, unlike_norms, unlike_sums}
use Rattle.witness.specs.Example.{norm, nothing, e_b, q_k, Examples}
use Rattle.witness.proofs.Sums.{cancel}

norms_short : (A : ℕ) → norm A ≤ 2
norms_short zero = omega arith
norms_short (suc zero) = omega arith
norms_short (suc (suc zero)) = omega arith
norms_short (suc (suc (suc zero))) = omega arith
norms_short (suc (suc (suc (suc zero)))) = omega arith
norms_short (suc (suc (suc (suc (suc zero))))) = omega arith
norms_short (suc (suc (suc (suc (suc (suc zero)))))) = omega arith
norms_short (suc (suc (suc (suc (suc (suc (suc A))))))) = omega arith

module _ {T : Type 0} where
  -- the most symbols of a rule
  abbrev most : List (Line T) → ℕ
  most [] = 0
  most (l ∷ ls) = max (length l.word) (most ls)

  lines_short : (A a : ℕ) (ls : List (Line T)) → length (word_of (line_at A a ls)) ≤ most ls
  lines_short A a [] = omega arith
  lines_short A a (l ∷ ls) = go (A == l.symbol && a == l.letter) (lines_short A a ls)
    where
      go : (t : Bool) → length (word_of (line_at A a ls)) ≤ most ls → length (word_of (cond t (Some (record { word = l.word; tally = l.tally })) (line_at A a ls))) ≤ max (length l.word) (most ls)
      go true k = omega arith
      go false k = omega arith

module _ {T : Type 0} (𝓣 : Group T) (x y z : T) where
  abbrev M : Meaning T
  M = seven 𝓣 x y z

  abbrev one : ℕ → ℕ → Sheet T
  one A B = alone 𝓣 M sevens A (B ∷ [])

  limited : Limited M norm 2
  limited = record {
    norms = λ A h. norms_short A;
    rules = λ A a. let h = lines_short A a (seven_lines 𝓣 x y z) in omega arith;
  }

  -- the given pair, whose words are symbols
  abbrev given_pair : (A B : ℕ) (D : Sheet T) → Pair 𝓣 M (A ∷ []) (B ∷ []) D
  given_pair A B D = record {
    first = A ∷ [];
    second = B ∷ [];
    first_sum = 𝓣.zero;
    second_sum = 𝓣.zero;
    letters = 0;
    origin = inl (given refl refl refl refl refl);
  }

  e_b_written : Written 𝓣 M norm sevens (e ∷ []) (b ∷ []) (nothing 𝓣 x y z) (one e b)
  e_b_written = record {
    apart = record {
      pair = given_pair e b (nothing 𝓣 x y z);
      fork = e_b 𝓣 x y z;
      fork_of = record { one = 𝓣.zero; two = 𝓣.zero; normal_one = normal_keep refl normal_nil; normal_two = normal_keep refl normal_nil; sum_one = refl; sum_two = refl };
    };
    taken = (𝓣.add x 𝓣.zero, refl);
    grown = record { free = refl; here = refl; others = λ C h. rw (ne_eqb C e h) refl };
  }

  e_b_ending : Ending 𝓣 M norm sevens (e ∷ []) (b ∷ []) (one e b)
  e_b_ending = unlike_norms
      (record {
        first = b ∷ b ∷ [];
        second = b ∷ b ∷ b ∷ [];
        first_sum = 𝓣.add (offset 𝓣 M sevens e (b ∷ [])) 𝓣.zero;
        second_sum = 𝓣.zero;
        letters = 1;
        origin = inr (from_row e S (row 𝓣 M sevens e (b ∷ [])) (record { word = b ∷ b ∷ b ∷ []; tally = 𝓣.zero }) (record { word = b ∷ b ∷ []; tally = 𝓣.zero }) refl refl refl refl refl refl refl refl);
      })
      (omega arith)

  q_k_written : Written 𝓣 M norm sevens (q ∷ []) (k ∷ []) (nothing 𝓣 x y z) (one q k)
  q_k_written = record {
    apart = record {
      pair = given_pair q k (nothing 𝓣 x y z);
      fork = q_k 𝓣 x y z;
      fork_of = record { one = 𝓣.zero; two = 𝓣.zero; normal_one = normal_keep refl normal_nil; normal_two = normal_keep refl normal_nil; sum_one = refl; sum_two = refl };
    };
    taken = (𝓣.add z (𝓣.add x 𝓣.zero), refl);
    grown = record { free = refl; here = refl; others = λ C h. rw (ne_eqb C q h) refl };
  }

  q_k_ending : ¬ (z ≡ 𝓣.zero) → Ending 𝓣 M norm sevens (q ∷ []) (k ∷ []) (one q k)
  q_k_ending f = unlike_sums (given_pair q k (one q k)) (k ∷ []) (𝓣.add (offset 𝓣 M sevens q (k ∷ [])) 𝓣.zero) 𝓣.zero (normal_put {r = []} refl (normal_keep refl normal_nil)) (normal_keep refl normal_nil) unlike
    where
      unlike : ¬ (𝓣.add 𝓣.zero (𝓣.add (offset 𝓣 M sevens q (k ∷ [])) 𝓣.zero) ≡ 𝓣.add 𝓣.zero 𝓣.zero)
      unlike h =
          let none : 𝓣.neg z ≡ 𝓣.zero = sym (rows.examples 𝓣 x y z).q_k_offset ∙ sym (right 𝓣 (offset 𝓣 M sevens q (k ∷ []))) ∙ cancel 𝓣 𝓣.zero (𝓣.add (offset 𝓣 M sevens q (k ∷ [])) 𝓣.zero) 𝓣.zero h in
          f (sym (𝓣.left z) ∙ ap (λ t. 𝓣.add t z) (sym none) ∙ 𝓣.inverse z)

  q_k_witness : ¬ (z ≡ 𝓣.zero) → Differ 𝓣 M (q ∷ []) (k ∷ []) (P ∷ L ∷ [])
  q_k_witness f = by_tally (𝓣.add 𝓣.zero (𝓣.add x 𝓣.zero)) (𝓣.add z (𝓣.add x 𝓣.zero)) refl refl (λ h. f (sym (same h)))
    where
      same : 𝓣.add 𝓣.zero (𝓣.add x 𝓣.zero) ≡ 𝓣.add z (𝓣.add x 𝓣.zero) → 𝓣.zero ≡ z
      same h = cancel 𝓣 (𝓣.add x 𝓣.zero) 𝓣.zero z (𝓣.comm (𝓣.add x 𝓣.zero) 𝓣.zero ∙ h ∙ 𝓣.comm z (𝓣.add x 𝓣.zero))

  pub examples : Examples 𝓣 x y z
  examples = record {
    limited = limited;
    e_b_written = e_b_written;
    e_b_ending = e_b_ending;
    e_b_candidates = refl;
    e_b_witness = only_second (𝓣.add 𝓣.zero (𝓣.add x (𝓣.add x 𝓣.zero))) refl refl;
    q_k_written = q_k_written;
    q_k_ending = q_k_ending;
    q_k_witness = q_k_witness;
  }
