-- The rules of a survey: where there is a word there is a tally. Assumes nothing.
use Rattle.std.proofs.Common.{◌≡◌, ℕ, zero, suc, ◌<◌, true, List, [], ◌∷◌, length, is_some, Some, None, Option, sym, refl, ap, ◌∙◌, ap₂, arith}
use Rattle.std.specs.List.{slice_get}
use Rattle.std.specs.Option.{option_map}
use Rattle.grammar.specs.Meaning.{Word, word_of, tally_of}
use Rattle.grammar.specs.Places.{index}
use Rattle.norm.specs.Words.{words_of}
use Rattle.survey.specs.Surveyed.{weigh, words_in, surveyed}
use Rattle.norm.proofs.Stored.{stored_tested}
use Rattle.survey.specs.declared.table.Survey.{Survey}

-- an element that is there
pub nth_there : {X : Type 0} (xs : List X) (i : ℕ) → i < length xs → (x : X) × (slice_get xs i ≡ Some x)
nth_there [] i h = absurd (omega arith)
nth_there (x ∷ xs) zero h = (x, refl)
nth_there (x ∷ xs) (suc i) h = nth_there xs i (omega arith)

pub mapped_some : {X Y : Type 0} (f : X → Y) (o : Option X) → is_some (option_map f o) ≡ is_some o
mapped_some f None = refl
mapped_some f (Some x) = refl

-- the tally of a word that is there
pub weighed_tally : {T : Type 0} (z x : T) (o : Option Word) (t : Option T) → is_some o ≡ true → t ≡ Some x → x ≡ tally_of z (weigh o t)
weighed_tally z x None t e d = absurd (let y : ◌≡◌ {A = ℕ} 0 1 = cc in omega arith)
weighed_tally z x (Some w) t e d = rw d refl

module _ {T : Type 0} (s : Survey T) (A a : ℕ) where
  pub in_range : is_some (words_in s A a) ≡ true → index A a < length s.tallies
  in_range e =
      let t = stored_tested s.skeleton.words.count s.skeleton.words.words A a e in
      let symbol = t.0 in
      let low = t.1.0 in
      let high = t.1.1 in
      let few = s.skeleton.words.few in
      let room = s.room in
      omega arith

  pub rule_some : (w : Word) → words_in s A a ≡ Some w → (t : T) × (slice_get s.tallies (index A a) ≡ Some t) × ((surveyed s).rule A a ≡ Some (record { word = w; tally = t }))
  rule_some w e = let i = nth_there s.tallies (index A a) (in_range (ap is_some e)) in (i.0, i.1, ap₂ weigh e i.1)

  pub rule_none : words_in s A a ≡ None → (surveyed s).rule A a ≡ None
  rule_none e = ap (λ o. weigh o (slice_get s.tallies (index A a))) e

  pub rule_test : is_some ((surveyed s).rule A a) ≡ is_some (words_in s A a)
  rule_test = go (words_in s A a) refl
    where
      go : (o : Option Word) → words_in s A a ≡ o → is_some ((surveyed s).rule A a) ≡ is_some (words_in s A a)
      go None e = ap is_some (rule_none e) ∙ sym (ap is_some e)
      go (Some w) e = ap is_some (rule_some w e).2 ∙ sym (ap is_some e)

  pub rule_word : (w : Word) → words_in s A a ≡ Some w → word_of ((surveyed s).rule A a) ≡ w
  rule_word w e = ap word_of (rule_some w e).2

  pub words_same : words_of (surveyed s) A a ≡ words_in s A a
  words_same = go (words_in s A a) refl
    where
      go : (o : Option Word) → words_in s A a ≡ o → words_of (surveyed s) A a ≡ words_in s A a
      go None e = ap (option_map (λ m. m.word)) (rule_none e) ∙ sym e
      go (Some w) e = ap (option_map (λ m. m.word)) (rule_some w e).2 ∙ sym e
