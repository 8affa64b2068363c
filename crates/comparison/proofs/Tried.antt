-- What an input that is tried on a pair of words shows. Assumes nothing.
use Rattle.std.proofs.Common.{◌≡◌, ◌≤◌, length, Some, Ok, Option, Result, sym, ap, ◌∙◌, le-ltb}
use Rattle.tally.specs.Group.{Group}
use Rattle.grammar.specs.Meaning.{Word, Input, Meaning}
use Rattle.grammar.specs.Takes.{shift, takes}
use Rattle.grammar.specs.Laws.{derived, max_input}
use Rattle.grammar.specs.declared.too_long.InputTooLong.{InputTooLong}
use Rattle.grammar.proofs.Options.{some_same}
use Rattle.witness.specs.Alike.{AlikeOn}

module _ {T : Type 0} (𝓣 : Group T) (M : Meaning T) where
  -- what derive answers on an input that is not too long
  pub derived_is : (w : Word) (s : Input) (o : Option T) → length s ≤ max_input → Ok o ≡ derived 𝓣 M w s → takes 𝓣 M w s ≡ o
  derived_is w s o h e =
      let d : derived 𝓣 M w s ≡ Ok (takes 𝓣 M w s) = rw (le-ltb max_input (length s) h) in
      let same : ◌≡◌ {A = Result (Option T) InputTooLong} (Ok o) (Ok (takes 𝓣 M w s)) = e ∙ d in
      cc

  -- two words that take an input do not differ on it where the tallies, with the sums before them, are equal
  pub sums_alike : (p q a b : T) (x y : Word) (s : Input) → takes 𝓣 M x s ≡ Some a → takes 𝓣 M y s ≡ Some b →
      (AlikeOn 𝓣 M p q x y s → 𝓣.add p a ≡ 𝓣.add q b) × (𝓣.add p a ≡ 𝓣.add q b → AlikeOn 𝓣 M p q x y s)
  sums_alike p q a b x y s e f = (
    λ h. some_same (sym (ap (shift 𝓣 p) e) ∙ h ∙ ap (shift 𝓣 q) f),
    λ h. ap (shift 𝓣 p) e ∙ ap {B = Option T} Some h ∙ sym (ap (shift 𝓣 q) f),
  )
