-- What a survey holds is the grammar that was surveyed, with its norms and first inputs.
--
-- The idea: the table has the words of all rules, and so just the grammar's rules; its norms and letters are a certificate over those words, and a certificate gives norms and first inputs.
--
-- Assumes nothing.
use Rattle.std.proofs.Common.{◌≡◌, ℕ, ◌<◌, [], ◌∷◌, length, get_or, is_some, Some, None, Option, sym, refl, ap, ◌∙◌, subst, arith}
use Rattle.std.proofs.lemmas.Option.{slice_get-get_or}
use Rattle.std.specs.List.{slice_get}
use Rattle.std.specs.Option.{option_map}
use Rattle.tally.specs.Group.{Group}
use Rattle.grammar.specs.Meaning.{Word, Weighted, Meaning, Letter, tally_of}
use Rattle.norm.specs.Words.{words_of}
use Rattle.norm.specs.Norms.{First, Normed, norms}
use Rattle.grammar.specs.Places.{index}
use Rattle.norm.specs.Certified.{Certified, spelled}
use Rattle.norm.specs.Laws.{NormLaws}
use Rattle.norm.proofs.Lawful.{norm_laws}
use Rattle.norm.proofs.Certificates.{certificate_law}
use Rattle.norm.specs.Skeletons.{letter_at}
use Rattle.norm.proofs.Spelling.{skeleton_certified}
use Rattle.survey.specs.Refusals.{Within}
use Rattle.survey.specs.Surveyed.{weigh, words_in, surveyed, norm_in, first_in}
use Rattle.norm.proofs.Stored.{stored_tested}
use Rattle.survey.specs.WellSurveyed.{surveyed_closed, surveyed_wellformed}
use Rattle.survey.specs.Laws.{Surveys, TakenUp}
use Rattle.survey.specs.declared.table.Survey.{Survey}
use Rattle.survey.proofs.Weighing.{words_same}

module _ {T : Type 0} (s : Survey T) where
  abbrev count_in : ℕ
  count_in = s.skeleton.words.count

  pub words_path : words_of (surveyed s) ≡ words_in s
  words_path = λ i A a. words_same s A a i

  -- the same over the words of the grammar
  pub certified_of : Certified 64 count_in (words_of (surveyed s)) (norm_in s) (letter_at s.skeleton)
  certified_of = subst (λ R. Certified 64 count_in R (norm_in s) (letter_at s.skeleton)) (sym words_path) (skeleton_certified s.skeleton)

  module _ (𝓣 : Group T) where
    -- the input that a symbol's letters spell
    spelled_first : (A : ℕ) → A < count_in → First 𝓣 (surveyed s) (A ∷ []) (first_in s A) × (length (first_in s A) ≡ norm_in s A)
    spelled_first A h =
        let one : norms (norm_in s) (A ∷ []) ≡ norm_in s A = omega arith in
        let f = (certificate_law 𝓣).within 64 (surveyed s) (norm_in s) (letter_at s.skeleton) certified_of (A ∷ []) (h, tt) (s.skeleton.small A h, tt) in
        subst (λ R. First 𝓣 (surveyed s) (A ∷ []) (spelled R (letter_at s.skeleton) (norm_in s A) (A ∷ [])) × (length (spelled R (letter_at s.skeleton) (norm_in s A) (A ∷ [])) ≡ norm_in s A)) words_path
        (subst (λ k. First 𝓣 (surveyed s) (A ∷ []) (spelled (words_of (surveyed s)) (letter_at s.skeleton) k (A ∷ [])) × (length (spelled (words_of (surveyed s)) (letter_at s.skeleton) k (A ∷ [])) ≡ k)) one f)

    pub normed_in : Normed 𝓣 (surveyed s) (norm_in s) (first_in s)
    normed_in = record { first_input = λ A h. (spelled_first A h).0; size = λ A h. sym (spelled_first A h).1 }

    pub laws_in : NormLaws 𝓣 (surveyed s) (norm_in s) (first_in s)
    laws_in = norm_laws 𝓣 (surveyed s) (norm_in s) (first_in s) (surveyed_wellformed s) (surveyed_closed s) normed_in

  -- The grammar M that was taken up, with its tallies at their places.
  module _ (𝓣 : Group T) (M : Meaning T) (up : TakenUp 32 M count_in s.skeleton.words.words)
      (tallies : (A a : ℕ) (d : T) → A < count_in → Letter a → get_or s.tallies (index A a) d ≡ tally_of 𝓣.zero (M.rule A a)) where
    rule_same : (A a : ℕ) → (surveyed s).rule A a ≡ M.rule A a
    rule_same A a = go (M.rule A a) refl
      where
        go : (o : Option (Weighted T)) → M.rule A a ≡ o → (surveyed s).rule A a ≡ o
        go None e = ap (λ w. weigh w (slice_get s.tallies (index A a))) (up.words A a ∙ ap (option_map (λ m. m.word)) e)
        go (Some m) e =
            let there : words_in s A a ≡ Some m.word = up.words A a ∙ ap (option_map (λ m. m.word)) e in
            let t = stored_tested count_in s.skeleton.words.words A a (ap is_some there) in
            let symbol = t.0 in
            let low = t.1.0 in
            let high = t.1.1 in
            let few = s.skeleton.words.few in
            let room = s.room in
            let held : get_or s.tallies (index A a) 𝓣.zero ≡ m.tally = tallies A a 𝓣.zero t.0 t.1 ∙ ap (tally_of 𝓣.zero) e in
            let found : slice_get s.tallies (index A a) ≡ Some m.tally = slice_get-get_or s.tallies (index A a) 𝓣.zero (omega arith) ∙ ap {B = Option T} Some held in
            both (words_in s A a) (slice_get s.tallies (index A a)) there found
          where
            both : (o : Option Word) (t : Option T) → o ≡ Some m.word → t ≡ Some m.tally → weigh o t ≡ Some m
            both o t p q = rw (p, q) refl

    pub meaning_same : surveyed s ≡ M
    meaning_same = λ i. record { count = up.count i; rule = λ A a. rule_same A a i }

    within : (A : ℕ) → A < count_in → Within 𝓣 (surveyed s) 64 A
    within A h =
        let N = normed_in 𝓣 in
        let l = N.size A h in
        let small = s.skeleton.small A h in
        (first_in s A, (N.first_input A h).taken, omega arith)

    pub surveys : Surveys 32 64 𝓣 M s
    surveys = record {
      meaning = meaning_same;
      accepted = record {
        sized = up.sized;
        rules = up.rules;
        norms = λ A h. subst (λ N. Within 𝓣 N 64 A) meaning_same (within A (subst (λ k. A < k) (sym up.count) h));
      };
      normed = subst (λ N. Normed 𝓣 N (norm_in s) (first_in s)) meaning_same (normed_in 𝓣);
      laws = subst (λ N. NormLaws 𝓣 N (norm_in s) (first_in s)) meaning_same (laws_in 𝓣);
    }
