-- What a tally is, and what a list of tallies comes to.
--
-- Group T       an abelian group on T, with decidable equality
-- total 𝓣 ts    the sum of the list ts; zero where it is empty
-- TotalLaws 𝓣   how sums of lists go together
--
-- Assumes nothing.
use Rattle.std.specs.Prelude.{◌≡◌, List, [], ◌∷◌, ◌++◌}

pub record Group (T : Type 0) : Type 0 where
  pub zero : T
  pub add : T → T → T
  pub neg : T → T
  pub assoc : (a b c : T) → add (add a b) c ≡ add a (add b c)
  pub comm : (a b : T) → add a b ≡ add b a
  pub left : (a : T) → add zero a ≡ a
  pub inverse : (a : T) → add (neg a) a ≡ zero
  pub decides : (a b : T) → Dec (a ≡ b)

abbrev pub total : {T : Type 0} → Group T → List T → T
total 𝓣 [] = 𝓣.zero
total 𝓣 (t ∷ ts) = 𝓣.add t (total 𝓣 ts)

pub record TotalLaws {T : Type 0} (𝓣 : Group T) : Type 0 where
  -- of a concatenation
  pub append : (ts us : List T) → total 𝓣 (ts ++ us) ≡ 𝓣.add (total 𝓣 ts) (total 𝓣 us)
  -- with one more at the end
  pub push : (ts : List T) (t : T) → total 𝓣 (ts ++ t ∷ []) ≡ 𝓣.add (total 𝓣 ts) t
