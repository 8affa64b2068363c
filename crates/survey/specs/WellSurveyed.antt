-- A survey's meaning is well-formed, and its rules name only its symbols. Proofs, which stand here since a ghost member gives them. Assumes nothing.
use Rattle.std.specs.Prelude.{◌≡◌, ◌<◌, ◌≤◌, true, [], ◌∷◌, length, is_some, Some, None, Option, refl}
use Rattle.std.proofs.Common.{arith}
use Rattle.std.specs.List.{slice_get}
use Rattle.grammar.specs.Meaning.{Word, Each, Below, WellFormed, word_of}
use Rattle.norm.specs.Words.{body}
use Rattle.grammar.specs.Places.{index}
use Rattle.norm.specs.Norms.{Closed}
use Rattle.norm.proofs.Stored.{stored_tested, body_short}
use Rattle.norm.proofs.Weights.{each_from_places}
use Rattle.survey.specs.Surveyed.{weigh, words_in, surveyed}
use Rattle.survey.specs.declared.table.Survey.{Survey}

-- a weighed word is that word
pub weighed_some : {T : Type 0} (o : Option Word) (t : Option T) → is_some (weigh o t) ≡ true → is_some o ≡ true
weighed_some None t e = e
weighed_some (Some w) t e = refl

pub weighed_word : {T : Type 0} (P : Word → Type 0) (o : Option Word) (t : Option T) → P [] → P (body o) → P (word_of (weigh o t))
weighed_word P None t none there = none
weighed_word P (Some w) None none there = none
weighed_word P (Some w) (Some t) none there = there

module _ {T : Type 0} (s : Survey T) where
  pub surveyed_closed : Closed (surveyed s)
  surveyed_closed A a =
      weighed_word (Below s.skeleton.words.count) (words_in s A a) (slice_get s.tallies (index A a)) tt
      (each_from_places (λ B. B < s.skeleton.words.count) (body (words_in s A a)) (s.skeleton.words.known A a))

  pub surveyed_wellformed : WellFormed (surveyed s)
  surveyed_wellformed = record {
    few = let h = s.skeleton.words.few in omega arith;
    counted = λ A a e. (stored_tested s.skeleton.words.count s.skeleton.words.words A a (weighed_some (words_in s A a) (slice_get s.tallies (index A a)) e)).0;
    lettered = λ A a e. (stored_tested s.skeleton.words.count s.skeleton.words.words A a (weighed_some (words_in s A a) (slice_get s.tallies (index A a)) e)).1;
    short = λ A a. weighed_word (λ w. length w ≤ 255) (words_in s A a) (slice_get s.tallies (index A a)) (omega arith) (let h = body_short s.skeleton.words.count s.skeleton.words.words A a in omega arith);
    bytes = λ A a. let few = s.skeleton.words.few in each_smaller (word_of ((surveyed s).rule A a)) few (surveyed_closed A a);
  }
    where
      each_smaller : (w : Word) → s.skeleton.words.count ≤ 32 → Below s.skeleton.words.count w → Each (λ B. B ≤ 255) w
      each_smaller [] few b = tt
      each_smaller (A ∷ w) few b = let h = b.0 in (omega arith, each_smaller w few b.1)
