-- What the laws of a group give of sums. Assumes nothing.
use Rattle.std.proofs.Common.{◌≡◌, ℕ, ◌+◌, ◌<◌, List, [], ◌∷◌, ◌++◌, length, get_or, take, sym, ap, ◌∙◌}
use Rattle.std.proofs.lemmas.List.{take_more}
use Rattle.tally.specs.Group.{Group, total, TotalLaws}

module _ {T : Type 0} (𝓣 : Group T) where
  -- zero is neutral on the right too
  pub right : (a : T) → 𝓣.add a 𝓣.zero ≡ a
  right a = 𝓣.comm a 𝓣.zero ∙ 𝓣.left a

  pub total_append : (ts us : List T) → total 𝓣 (ts ++ us) ≡ 𝓣.add (total 𝓣 ts) (total 𝓣 us)
  total_append [] us = sym (𝓣.left (total 𝓣 us))
  total_append (t ∷ ts) us = ap (𝓣.add t) (total_append ts us) ∙ sym (𝓣.assoc t (total 𝓣 ts) (total 𝓣 us))

  pub total_push : (ts : List T) (t : T) → total 𝓣 (ts ++ t ∷ []) ≡ 𝓣.add (total 𝓣 ts) t
  total_push ts t = total_append ts (t ∷ []) ∙ ap (𝓣.add (total 𝓣 ts)) (right t)

  pub total_laws : TotalLaws 𝓣
  total_laws = record { append = total_append; push = total_push }

  -- one element more of the front of a list
  pub total_next : (ts : List T) (i : ℕ) (t : T) → i < length ts → t ≡ get_or ts i t → 𝓣.add (total 𝓣 (take i ts)) t ≡ total 𝓣 (take (i + 1) ts)
  total_next ts i t within read =
      let pushed : take (i + 1) ts ≡ take i ts ++ (t ∷ []) = take_more ts i t within ∙ ap (λ y. take i ts ++ (y ∷ [])) (sym read) in
      sym (ap (total 𝓣) pushed ∙ total_push (take i ts) t)
