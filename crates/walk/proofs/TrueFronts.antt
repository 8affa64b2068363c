-- Whether a row is true on the fronts of an input that its symbol and its word take. Assumes nothing.
use Rattle.std.proofs.Common.{◌≡◌, ℕ, ◌≤◌, Bool, true, false, not, Decides, [], ◌∷◌, length, take, drop, Some, None, MatchOption, Option, sym, refl, ap, ◌∙◌, subst, arith, take-append-drop, length-take-le}
use borrow.Author.Tests.{clash}
use Rattle.std.specs.Bool.{then_some}
use Rattle.tally.specs.Group.{Group}
use Rattle.grammar.specs.Meaning.{Word, Input, Weighted, Meaning}
use Rattle.grammar.specs.Takes.{shift, takes}
use Rattle.grammar.proofs.Options.{none_some, some_same}
use Rattle.witness.specs.Alike.{TrueOn, TrueOnFront, Cut, cut}
use Rattle.witness.proofs.Sums.{shifted}
use Rattle.witness.proofs.Cuts.{parted, cut_finds}
use Rattle.walk.specs.Fronts.{IsFront}
use Rattle.walk.specs.declared.front.Front.{Front}

module _ {T : Type 0} (𝓣 : Group T) (M : Meaning T) (s : Input) where
  -- what is found of the front that a word takes
  abbrev pub Found : Word → Option (Front T) → Type 0
  Found w o = MatchOption o (cut M w s ≡ None) (λ f. IsFront 𝓣 M w s f.length f.tally)

  -- a front that a word takes is that of its cut
  cut_there : (w : Word) (n : ℕ) (t : T) → takes 𝓣 M w (take n s) ≡ Some t → cut M w s ≡ Some (parted (take n s) (drop n s))
  cut_there w n t e = subst (λ l. cut M w l ≡ Some (parted (take n s) (drop n s))) (take-append-drop n s) (cut_finds 𝓣 M (take n s) (drop n s) w t e)

  module _ (A : ℕ) (m : Weighted T) where
    -- of a front that only one of them takes
    pub own_alone : (n : ℕ) (t : T) → IsFront 𝓣 M (A ∷ []) s n t → cut M m.word s ≡ None → ¬ TrueOn 𝓣 M A m (take n s)
    own_alone n t own none h =
        let i = shifted 𝓣 m.tally (takes 𝓣 M m.word (take n s)) t (sym h ∙ own.taken) in
        none_some (sym none ∙ cut_there m.word n i.0 i.1)

    pub other_alone : (n : ℕ) (t : T) → IsFront 𝓣 M m.word s n t → cut M (A ∷ []) s ≡ None → ¬ TrueOn 𝓣 M A m (take n s)
    other_alone n t other none h = none_some (sym none ∙ cut_there (A ∷ []) n (𝓣.add m.tally t) (h ∙ ap (shift 𝓣 m.tally) other.taken))

    module _ (n k : ℕ) (t u : T) (own : IsFront 𝓣 M (A ∷ []) s n t) (other : IsFront 𝓣 M m.word s k u) where
      -- of two fronts of one length and with even tallies
      even : n ≡ k → t ≡ 𝓣.add m.tally u → TrueOn 𝓣 M A m (take n s)
      even e f = own.taken ∙ ap Some f ∙ ap (shift 𝓣 m.tally) (sym other.taken) ∙ ap (λ j. shift 𝓣 m.tally (takes 𝓣 M m.word (take j s))) (sym e)

      both_true : n ≡ k → t ≡ 𝓣.add m.tally u → TrueOnFront 𝓣 M A m (cut M (A ∷ []) s) × TrueOnFront 𝓣 M A m (cut M m.word s)
      both_true e f = (
        subst (TrueOnFront 𝓣 M A m) (sym own.cuts) (even e f),
        subst (TrueOnFront 𝓣 M A m) (sym other.cuts) (subst (λ j. TrueOn 𝓣 M A m (take j s)) e (even e f)),
      )

      -- where the row is true on the symbol's front, they are so
      true_even : TrueOn 𝓣 M A m (take n s) → (n ≡ k) × (t ≡ 𝓣.add m.tally u)
      true_even h =
          let i = shifted 𝓣 m.tally (takes 𝓣 M m.word (take n s)) t (sym h ∙ own.taken) in
          let same : take n s ≡ take k s = ap (λ (c : Cut). c.front) (some_same (sym (cut_there m.word n i.0 i.1) ∙ other.cuts)) in
          let size = ap length same in
          let a = length-take-le n s own.within in
          let b = length-take-le k s other.within in
          let tally : i.0 ≡ u = some_same (sym i.1 ∙ ap (takes 𝓣 M m.word) same ∙ other.taken) in
          (omega arith, sym i.2 ∙ ap (𝓣.add m.tally) tally)

      -- the test of lengths and tallies
      pub tested : (b : Bool) → Decides b ((n ≡ k) × (t ≡ 𝓣.add m.tally u)) →
          MatchOption (then_some (not b) n) (TrueOnFront 𝓣 M A m (cut M (A ∷ []) s) × TrueOnFront 𝓣 M A m (cut M m.word s)) (λ j. (j ≤ length s) × (¬ TrueOn 𝓣 M A m (take j s)))
      tested true d = let e = d.0 refl in both_true e.0 e.1
      tested false d = (own.within, λ h. clash (d.1 (true_even h)))
