-- A grammar has one verdict: each way to be refused rules out the others and acceptance.
--
-- The idea: of two rules that are not fine, with all before them fine, neither is before the other; of two symbols that take nothing, with all smaller ones taking something, neither is smaller.
--
-- Assumes nothing.
use Rattle.std.proofs.Common.{◌≡◌, ℕ, ◌<◌, ◌⊎◌, List, [], ◌∷◌, Some, None, Option, Ok, Err, Result, is_ok, sym, refl, ap, ◌∙◌, subst, inl, inr, arith}
use Rattle.std.proofs.lemmas.Bool.{cases_order}
use Rattle.tally.specs.Group.{Group}
use Rattle.grammar.specs.Meaning.{Meaning}
use Rattle.grammar.specs.Takes.{takes}
use Rattle.grammar.proofs.Options.{none_some}
use Rattle.norm.specs.Words.{words_of, Lives, Barren}
use Rattle.norm.specs.Measured as measured
use Rattle.norm.specs.Tabled.{stored}
use Rattle.norm.specs.declared.short_word.ShortWord.{ShortWord}
use Rattle.norm.specs.declared.fault.NormFault.{NormFault}
use Rattle.norm.specs.declared.fault.NormFault.TheVariants as norm_faults
use Rattle.norm.proofs.Bridges.{taken_reads, reads_taken}
use Rattle.survey.specs.Refusals.{Sized, Fine, BadRule, too_many, strays, Sooner, TakesSome, TakesNone, Within, Passes, Accepted, Refused, bad_count, bad_rule, no_input, too_long}
use Rattle.survey.specs.Faults.{from_norms}
use Rattle.survey.specs.Laws.{Exact, OneVerdict, TakenUp}
use Rattle.survey.specs.declared.table.Survey.{Survey}
use borrow.Author.Tests.{clash}
use Rattle.survey.specs.declared.fault.GrammarFault.{GrammarFault}
use Rattle.survey.specs.declared.fault.GrammarFault.TheVariants.{NoInput, TooLong}

-- the smaller of two that are first of their kind
pub first_once : (P Q : ℕ → Type 0) → ((A : ℕ) → P A → ¬ Q A) → (A B : ℕ) → P A → P B → ((C : ℕ) → C < A → Q C) → ((C : ℕ) → C < B → Q C) → A ≡ B
first_once P Q apart A B p q f g = at (cases_order A B)
  where
    at : (A ≡ B) ⊎ ((A < B) ⊎ (B < A)) → A ≡ B
    at (inl e) = e
    at (inr (inl h)) = absurd (apart A p (g A h))
    at (inr (inr h)) = absurd (apart B q (f B h))

module _ {T : Type 0} (M : Meaning T) where
  -- a bad rule is not fine
  bad_fine : (k A a : ℕ) (f : GrammarFault) → BadRule k M A a f → ¬ Fine k M A a
  bad_fine k A a f (too_many h e) x = let l = x.short in omega arith
  bad_fine k A a f (strays l h e) x = h x.known

  -- what is wrong with it is one thing
  bad_once : (k A a : ℕ) (f g : GrammarFault) → BadRule k M A a f → BadRule k M A a g → f ≡ g
  bad_once k A a f g (too_many h e) (too_many i d) = e ∙ sym d
  bad_once k A a f g (too_many h e) (strays l i d) = absurd (omega arith)
  bad_once k A a f g (strays l h e) (too_many i d) = absurd (omega arith)
  bad_once k A a f g (strays l h e) (strays m i d) = e ∙ sym d

  -- the first bad rule is one
  first_bad : (k A a B b : ℕ) → ¬ Fine k M A a → ¬ Fine k M B b → ((C c : ℕ) → Sooner C c A a → Fine k M C c) → ((C c : ℕ) → Sooner C c B b → Fine k M C c) → (A ≡ B) × (a ≡ b)
  first_bad k A a B b p q f g = at (cases_order A B) (cases_order a b)
    where
      at : (A ≡ B) ⊎ ((A < B) ⊎ (B < A)) → (a ≡ b) ⊎ ((a < b) ⊎ (b < a)) → (A ≡ B) × (a ≡ b)
      at (inl e) (inl d) = (e, d)
      at (inl e) (inr (inl h)) = absurd (p (g A a (inr (e, h))))
      at (inl e) (inr (inr h)) = absurd (q (f B b (inr (sym e, h))))
      at (inr (inl h)) d = absurd (p (g A a (inl h)))
      at (inr (inr h)) d = absurd (q (f B b (inl h)))

  two_bad : (k A a B b : ℕ) (f g : GrammarFault) → BadRule k M A a f → BadRule k M B b g → ((C c : ℕ) → Sooner C c A a → Fine k M C c) → ((C c : ℕ) → Sooner C c B b → Fine k M C c) → f ≡ g
  two_bad k A a B b f g p q x y =
      let e = first_bad k A a B b (bad_fine k A a f p) (bad_fine k B b g q) x y in
      bad_once k A a f g p (subst (λ c. BadRule k M A c g) (sym e.1) (subst (λ C. BadRule k M C b g) (sym e.0) q))

module _ {T : Type 0} (n v : ℕ) (𝓣 : Group T) (M : Meaning T) where
  none_some_apart : (A : ℕ) → TakesNone 𝓣 M A → ¬ TakesSome 𝓣 M A
  none_some_apart A none some = none_some (sym (none some.0) ∙ some.1.1)

  passes_apart : (A : ℕ) → Passes 𝓣 M v A → ¬ Within 𝓣 M v A
  passes_apart A p w = let h = p w.0 w.1 in let l = w.2 in omega arith

  pub never_both : (f : GrammarFault) → Refused n v 𝓣 M f → ¬ Accepted n v 𝓣 M
  never_both f (bad_count h e) x = h x.sized
  never_both f (bad_rule s A a y b) x = bad_fine M M.count A a f b (x.rules A a)
  never_both f (no_input s y A h z w e) x = let i = x.norms A h in none_some_apart A z (i.0, i.1)
  never_both f (too_long s y l A h z w e) x = passes_apart A z (x.norms A h)

  pub one_fault : (f g : GrammarFault) → Refused n v 𝓣 M f → Refused n v 𝓣 M g → f ≡ g
  one_fault f g (bad_count h e) (bad_count i d) = e ∙ sym d
  one_fault f g (bad_count h e) (bad_rule s A a y b) = absurd (h s)
  one_fault f g (bad_count h e) (no_input s y A i z w d) = absurd (h s)
  one_fault f g (bad_count h e) (too_long s y l A i z w d) = absurd (h s)
  one_fault f g (bad_rule s A a y b) (bad_count h e) = absurd (h s)
  one_fault f g (bad_rule s A a y b) (bad_rule t B c z d) = two_bad M M.count A a B c f g b d y z
  one_fault f g (bad_rule s A a y b) (no_input t z B i w x d) = absurd (bad_fine M M.count A a f b (z A a))
  one_fault f g (bad_rule s A a y b) (too_long t z l B i w x d) = absurd (bad_fine M M.count A a f b (z A a))
  one_fault f g (no_input s y A h z w e) (bad_count i d) = absurd (i s)
  one_fault f g (no_input s y A h z w e) (bad_rule t B c x d) = absurd (bad_fine M M.count B c g d (y B c))
  one_fault f g (no_input s y A h z w e) (no_input t x B i p q d) = e ∙ ap NoInput (first_once (TakesNone 𝓣 M) (TakesSome 𝓣 M) none_some_apart A B z p w q) ∙ sym d
  one_fault f g (no_input s y A h z w e) (too_long t x l B i p q d) = absurd (none_some_apart A z (l A h))
  one_fault f g (too_long s y l A h z w e) (bad_count i d) = absurd (i s)
  one_fault f g (too_long s y l A h z w e) (bad_rule t B c x d) = absurd (bad_fine M M.count B c g d (y B c))
  one_fault f g (too_long s y l A h z w e) (no_input t x B i p q d) = absurd (none_some_apart B p (l B i))
  one_fault f g (too_long s y l A h z w e) (too_long t x k B i p q d) = e ∙ ap TooLong (first_once (Passes 𝓣 M v) (Within 𝓣 M v) passes_apart A B z p w q) ∙ sym d

  pub one_verdict : OneVerdict n v 𝓣 M
  one_verdict = record { never_both = never_both; one_fault = one_fault }

  -- the fault of a result, and whether there is one
  abbrev fault_or : GrammarFault → Result (Survey T) GrammarFault → GrammarFault
  fault_or d (Ok s) = d
  fault_or d (Err f) = f

  -- what is accepted is not refused
  pub exact_ok : (s : Survey T) → Accepted n v 𝓣 M → Exact n v 𝓣 M (Ok s)
  exact_ok s x = record { accepted = (λ e. x, λ y. refl); refused = λ f. (λ e. absurd (clash (sym (ap is_ok e))), λ r. absurd (never_both f r x)) }

  -- and what is refused is refused for this
  pub exact_err : (f : GrammarFault) → Refused n v 𝓣 M f → Exact n v 𝓣 M (Err f)
  exact_err f r = record {
    accepted = (λ e. absurd (clash e), λ x. absurd (never_both f r x));
    refused = λ g. (λ e. subst (Refused n v 𝓣 M) (ap (fault_or f) e) r, λ q. ap Err (one_fault f g r q));
  }

  -- what the norms refuse, by the words alone, is so in the grammar
  some_lives : (A : ℕ) → Lives (words_of M) A → TakesSome 𝓣 M A
  some_lives A l = (l.0, reads_taken 𝓣 M l.0 (A ∷ []) l.1)

  none_barren : (A : ℕ) → Barren (words_of M) A → TakesNone 𝓣 M A
  none_barren A b s = at (takes 𝓣 M (A ∷ []) s) refl
    where
      at : (o : Option T) → takes 𝓣 M (A ∷ []) s ≡ o → o ≡ None
      at None e = refl
      at (Some t) e = absurd (b s (taken_reads 𝓣 M s (A ∷ []) (t, e)))

  pub no_input_refused : Sized n M → ((B b : ℕ) → Fine M.count M B b) → (A : ℕ) → measured.IsBarren M.count (words_of M) A → Refused n v 𝓣 M (NoInput A)
  no_input_refused s y A b = no_input s y A b.symbol (none_barren A b.here) (λ B h. some_lives B (b.before B h)) refl

  pub too_long_refused : Sized n M → ((B b : ℕ) → Fine M.count M B b) → (A : ℕ) → measured.IsLong v M.count (words_of M) A → Refused n v 𝓣 M (TooLong A)
  too_long_refused s y A b =
      too_long s y (λ B h. some_lives B (b.live B h)) A b.symbol (λ r k. b.here r (taken_reads 𝓣 M r (A ∷ []) k))
      (λ B h. let w = b.before B h in (w.0, reads_taken 𝓣 M w.0 (B ∷ []) w.1, w.2)) refl

  pub unnormed_refused : (k : ℕ) (ws : List (Option (ShortWord 4))) → TakenUp n M k ws → (f : NormFault) → measured.Unnormed v k (stored k ws) f → Refused n v 𝓣 M (from_norms f)
  unnormed_refused k ws up f u = at f (subst (λ R. measured.Unnormed v M.count R f) same (subst (λ j. measured.Unnormed v j (stored k ws) f) up.count u))
    where
      same : stored k ws ≡ words_of M
      same = λ i A a. up.words A a i

      at : (f : NormFault) → measured.Unnormed v M.count (words_of M) f → Refused n v 𝓣 M (from_norms f)
      at (norm_faults.NoInput A) u = no_input_refused up.sized up.rules A u
      at (norm_faults.TooLong A) u = too_long_refused up.sized up.rules A u
