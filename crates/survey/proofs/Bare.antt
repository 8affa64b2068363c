-- Grammars with the same words of rules have the same verdicts, norms and first inputs, whatever their tallies.
--
-- The idea: what is taken can be told by the words of the rules alone, and everything else is said of what is taken and of those words.
--
-- Assumes nothing.
use Rattle.std.proofs.Common.{◌≡◌, ℕ, ◌<◌, ◌≤◌, [], ◌∷◌, length, Some, None, Option, sym, refl, ap, ◌∙◌, subst}
use Rattle.std.specs.Option.{option_map}
use Rattle.tally.specs.Group.{Group}
use Rattle.tally.specs.Makes.{untallied_group}
use Rattle.tally.specs.declared.untallied.Untallied.{Untallied}
use Rattle.grammar.specs.Meaning.{Word, Input, Weighted, Meaning, Below, word_of}
use Rattle.grammar.specs.Takes.{takes}
use Rattle.grammar.proofs.Options.{none_some}
use Rattle.norm.specs.Words.{words_of, body, reads}
use Rattle.norm.specs.Norms.{Taken, First, Normed}
use Rattle.norm.proofs.Bridges.{taken_reads, reads_taken}
use Rattle.survey.specs.Refusals.{max_rule, Sized, Fine, BadRule, too_many, strays, TakesSome, TakesNone, Within, Passes, Accepted, Refused, bad_count, bad_rule, no_input, too_long}
use Rattle.survey.specs.Laws.{bare, BareLaw}
use Rattle.survey.specs.declared.fault.GrammarFault.{GrammarFault}
use Rattle.survey.specs.declared.fault.GrammarFault.TheVariants.{Count}

body_of : {T : Type 0} (o : Option (Weighted T)) → body (option_map (λ m. m.word) o) ≡ word_of o
body_of None = refl
body_of (Some m) = refl

taken_across : {T U : Type 0} (𝓣 : Group T) (𝓤 : Group U) (M : Meaning T) (N : Meaning U) → words_of M ≡ words_of N → (w : Word) (s : Input) → Taken 𝓣 M w s → Taken 𝓤 N w s
taken_across 𝓣 𝓤 M N e w s k = reads_taken 𝓤 N s w (subst (λ R. reads R w s ≡ Some []) e (taken_reads 𝓣 M s w k))

module _ {T U : Type 0} (n v : ℕ) (𝓣 : Group T) (𝓤 : Group U) (M : Meaning T) (N : Meaning U) (count : M.count ≡ N.count) (words : words_of M ≡ words_of N) where
  there : (w : Word) (s : Input) → Taken 𝓣 M w s → Taken 𝓤 N w s
  there = taken_across 𝓣 𝓤 M N words

  back : (w : Word) (s : Input) → Taken 𝓤 N w s → Taken 𝓣 M w s
  back = taken_across 𝓤 𝓣 N M (sym words)

  below : (A : ℕ) → A < N.count → A < M.count
  below A h = subst (λ k. A < k) (sym count) h

  pub normed_across : (norm : ℕ → ℕ) (first : ℕ → Input) → Normed 𝓣 M norm first → Normed 𝓤 N norm first
  normed_across norm first h = record {
    first_input = λ A l. first_across A (first A) (h.first_input A (below A l));
    size = λ A l. h.size A (below A l);
  }
    where
      first_across : (A : ℕ) (s : Input) → First 𝓣 M (A ∷ []) s → First 𝓤 N (A ∷ []) s
      first_across A s f = record {
        taken = there (A ∷ []) s f.taken;
        shortest = λ r k. f.shortest r (back (A ∷ []) r k);
        earliest = λ r k e. f.earliest r (back (A ∷ []) r k) e;
      }

  word_same : (A a : ℕ) → word_of (M.rule A a) ≡ word_of (N.rule A a)
  word_same A a = sym (body_of (M.rule A a)) ∙ ap (λ R. body (R A a)) words ∙ body_of (N.rule A a)

  sized : Sized n M → Sized n N
  sized s = record { some = subst (λ k. 1 ≤ k) count s.some; few = subst (λ k. k ≤ n) count s.few }

  sized_back : Sized n N → Sized n M
  sized_back s = record { some = subst (λ k. 1 ≤ k) (sym count) s.some; few = subst (λ k. k ≤ n) (sym count) s.few }

  known : (w x : Word) → w ≡ x → Below M.count w → Below N.count x
  known w x e b = subst (λ k. Below k x) count (subst (λ y. Below M.count y) e b)

  known_back : (w x : Word) → w ≡ x → Below N.count x → Below M.count w
  known_back w x e b = subst (λ k. Below k w) (sym count) (subst (λ y. Below N.count y) (sym e) b)

  fine : (A a : ℕ) → Fine M.count M A a → Fine N.count N A a
  fine A a f = record { short = subst (λ w. length w ≤ max_rule) (word_same A a) f.short; known = known _ _ (word_same A a) f.known }

  bad : (A a : ℕ) (f : GrammarFault) → BadRule M.count M A a f → BadRule N.count N A a f
  bad A a f (too_many h e) = too_many (subst (λ w. max_rule < length w) (word_same A a) h) e
  bad A a f (strays h b e) = strays (subst (λ w. length w ≤ max_rule) (word_same A a) h) (λ k. b (known_back _ _ (word_same A a) k)) e

  some : (A : ℕ) → TakesSome 𝓣 M A → TakesSome 𝓤 N A
  some A k = (k.0, there (A ∷ []) k.0 k.1)

  none : (A : ℕ) → TakesNone 𝓣 M A → TakesNone 𝓤 N A
  none A h s = at (takes 𝓤 N (A ∷ []) s) refl
    where
      at : (o : Option U) → takes 𝓤 N (A ∷ []) s ≡ o → o ≡ None
      at None e = refl
      at (Some t) e = absurd (none_some (sym (h s) ∙ (back (A ∷ []) s (t, e)).1))

  within : (A : ℕ) → Within 𝓣 M v A → Within 𝓤 N v A
  within A k = (k.0, there (A ∷ []) k.0 k.1, k.2)

  passes : (A : ℕ) → Passes 𝓣 M v A → Passes 𝓤 N v A
  passes A h s k = h s (back (A ∷ []) s k)

  pub accepted_across : Accepted n v 𝓣 M → Accepted n v 𝓤 N
  accepted_across a = record { sized = sized a.sized; rules = λ A b. fine A b (a.rules A b); norms = λ A h. within A (a.norms A (below A h)) }

  pub refused_across : (f : GrammarFault) → Refused n v 𝓣 M f → Refused n v 𝓤 N f
  refused_across f (bad_count h e) = bad_count (λ s. h (sized_back s)) (e ∙ ap Count count)
  refused_across f (bad_rule s A a y b) = bad_rule (sized s) A a (λ B c h. fine B c (y B c h)) (bad A a f b)
  refused_across f (no_input s y A h z w e) = no_input (sized s) (λ B c. fine B c (y B c)) A (subst (λ k. A < k) count h) (none A z) (λ B l. some B (w B l)) e
  refused_across f (too_long s y l A h z w e) =
      too_long (sized s) (λ B c. fine B c (y B c)) (λ B k. some B (l B (below B k))) A (subst (λ k. A < k) count h) (passes A z) (λ B k. within B (w B k)) e

pub bare_law : {T : Type 0} (n v : ℕ) (𝓣 : Group T) (M : Meaning T) → BareLaw n v 𝓣 M
bare_law {T} n v 𝓣 M = record {
  accepted = (accepted_across n v 𝓣 untallied_group M (bare M) refl words, accepted_across n v untallied_group 𝓣 (bare M) M refl (sym words));
  refused = λ f. (refused_across n v 𝓣 untallied_group M (bare M) refl words f, refused_across n v untallied_group 𝓣 (bare M) M refl (sym words) f);
  normed = λ norm first. (normed_across n v 𝓣 untallied_group M (bare M) refl words norm first, normed_across n v untallied_group 𝓣 (bare M) M refl (sym words) norm first);
}
  where
    each : (o : Option (Weighted T)) → option_map (λ m. m.word) o ≡ option_map (λ (m : Weighted Untallied). m.word) (option_map (λ m. record { word = m.word; tally = record {} }) o)
    each None = refl
    each (Some m) = refl

    words : words_of M ≡ words_of (bare M)
    words = λ i A a. each (M.rule A a) i
