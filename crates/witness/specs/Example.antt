-- Two comparisons in the grammar with seven symbols, worked out by hand.
--
-- norm A              the norm of A in the grammar
-- nothing             the sheet with no rows
-- e_b, q_k 𝓣 x y z    the forks of the words e and b, and of q and k, under it
-- Examples 𝓣 x y z    the worked examples
--
-- Assumes nothing.
use Rattle.std.specs.Prelude.{◌≡◌, ℕ, [], ◌∷◌, length, None, refl}
use Rattle.std.proofs.Common.{inr, arith}
use Rattle.tally.specs.Group.{Group}
use Rattle.grammar.specs.Takes.{Differ}
use Rattle.rows.specs.Sheets.{Sheet}
use Rattle.rows.specs.Example.{L, P, S, b, e, k, q, seven, sevens, alone}
use Rattle.witness.specs.Forks.{Fork, candidates}
use Rattle.witness.specs.History.{Limited, Written, Ending}

abbrev pub norm : ℕ → ℕ
norm A = length (sevens A)

module _ {T : Type 0} (𝓣 : Group T) (x y z : T) where
  abbrev pub nothing : Sheet T
  nothing A = None

  abbrev pub e_b : Fork 𝓣 (seven 𝓣 x y z) norm sevens
  e_b = record {
    common = [];
    later = e;
    earlier = b;
    later_end = [];
    earlier_end = [];
    later_sum = 𝓣.add 𝓣.zero 𝓣.zero;
    earlier_sum = 𝓣.add 𝓣.zero 𝓣.zero;
    left = record { word = []; tally = 𝓣.add x 𝓣.zero };
    runs = refl;
    order = inr (refl, omega arith);
    weighs = refl;
    later_known = omega arith;
    earlier_known = omega arith;
    common_known = tt;
    end_known = tt;
  }

  abbrev pub q_k : Fork 𝓣 (seven 𝓣 x y z) norm sevens
  q_k = record {
    common = [];
    later = q;
    earlier = k;
    later_end = [];
    earlier_end = [];
    later_sum = 𝓣.add 𝓣.zero 𝓣.zero;
    earlier_sum = 𝓣.add 𝓣.zero 𝓣.zero;
    left = record { word = []; tally = 𝓣.add 𝓣.zero (𝓣.add x 𝓣.zero) };
    runs = refl;
    order = inr (refl, omega arith);
    weighs = refl;
    later_known = omega arith;
    earlier_known = omega arith;
    common_known = tt;
    end_known = tt;
  }

  pub record Examples : Type 0 where
    pub limited : Limited (seven 𝓣 x y z) norm 2
    -- e and b: the row e → b is written; it leads at S to bbb and bb, which have two norms
    pub e_b_written : Written 𝓣 (seven 𝓣 x y z) norm sevens (e ∷ []) (b ∷ []) nothing (alone 𝓣 (seven 𝓣 x y z) sevens e (b ∷ []))
    pub e_b_ending : Ending 𝓣 (seven 𝓣 x y z) norm sevens (e ∷ []) (b ∷ []) (alone 𝓣 (seven 𝓣 x y z) sevens e (b ∷ []))
    -- the row is not true on SLL, which comes from bb's first input behind S; of the candidates made from it the first is a witness
    pub e_b_candidates : candidates 𝓣 (seven 𝓣 x y z) norm sevens e_b (S ∷ L ∷ L ∷ []) ≡ (S ∷ L ∷ L ∷ []) ∷ (L ∷ []) ∷ (S ∷ L ∷ L ∷ []) ∷ (L ∷ []) ∷ []
    pub e_b_witness : Differ 𝓣 (seven 𝓣 x y z) (e ∷ []) (b ∷ []) (S ∷ L ∷ L ∷ [])
    -- q and k: the row q → k is written, and has an offset if there is a tally between them; then the words have one normal form with two sums
    pub q_k_written : Written 𝓣 (seven 𝓣 x y z) norm sevens (q ∷ []) (k ∷ []) nothing (alone 𝓣 (seven 𝓣 x y z) sevens q (k ∷ []))
    pub q_k_ending : ¬ (z ≡ 𝓣.zero) → Ending 𝓣 (seven 𝓣 x y z) norm sevens (q ∷ []) (k ∷ []) (alone 𝓣 (seven 𝓣 x y z) sevens q (k ∷ []))
    pub q_k_witness : ¬ (z ≡ 𝓣.zero) → Differ 𝓣 (seven 𝓣 x y z) (q ∷ []) (k ∷ []) (P ∷ L ∷ [])
