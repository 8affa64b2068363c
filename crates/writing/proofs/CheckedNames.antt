-- Names, looked at one by one. Assumes nothing.
use Rattle.std.proofs.Common.{◌≡◌, ℕ, suc, ◌+◌, ◌<◌, true, false, ◌&&◌, Bool, List, [], ◌∷◌, reverse, length, get_or, take, drop, Some, Option, if◌then◌else◌, sym, ap, ◌∙◌, ap₂, arith, drop-cons}
use Rattle.std.proofs.lemmas.List.{take_more, reverse-append}
use Rattle.layout.specs.Reading.{named, absent}
use Rattle.writing.specs.Files.{bad_name}

module _ (names : List ℕ) where
  -- the first bad name from a place on
  abbrev pub bad_from : ℕ → Option ℕ
  bad_from at = bad_name (at + 1) (reverse (take at names)) (drop at names)

  -- the name at a place may be one, and is none of those before it
  abbrev pub good_at : ℕ → Bool
  good_at at = named (get_or names at 0) && absent (get_or names at 0) (reverse (take at names))

  -- so it decides
  next : (at : ℕ) → at < length names → bad_from at ≡ (if good_at at then bad_from (at + 1) else Some (at + 1))
  next at h =
      let x = get_or names at 0 in
      let here : drop at names ≡ x ∷ drop (at + 1) names = drop-cons names at 0 h ∙ ap (λ n. x ∷ drop n names) (let e : suc at ≡ at + 1 = omega arith in e) in
      let front : x ∷ reverse (take at names) ≡ reverse (take (at + 1) names) = sym (ap reverse (take_more names at 0 h) ∙ reverse-append (take at names) (x ∷ [])) in
      ap (bad_name (at + 1) (reverse (take at names))) here
      ∙ ap₂ (λ k before. if good_at at then bad_name k before (drop (at + 1) names) else Some (at + 1)) (let e : suc (at + 1) ≡ at + 1 + 1 = omega arith in e) front

  -- a good name is passed
  pub good_next : (at : ℕ) → at < length names → good_at at ≡ true → bad_from at ≡ bad_from (at + 1)
  good_next at h e = next at h ∙ ap (λ b. if b then bad_from (at + 1) else Some (at + 1)) e

  -- a bad one is told by its place, counted from 1
  pub bad_here : (at : ℕ) → at < length names → good_at at ≡ false → bad_from at ≡ Some (at + 1)
  bad_here at h e = next at h ∙ ap (λ b. if b then bad_from (at + 1) else Some (at + 1)) e
