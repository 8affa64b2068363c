-- The smallest symbol that is the same as a symbol.
--
-- The idea: to be the same is an equivalence. A smaller symbol that is the same as a smaller one still needs no look: if it were the same as the symbol, so would be that one, which was looked at before.
--
-- Assumes nothing.
use Rattle.std.proofs.Common.{◌≡◌, ℕ, ◌+◌, ◌<◌, ◌≤◌, ◌⊎◌, Bool, true, false, List, [], ◌∷◌, Some, None, Ok, Err, Result, refl, sym, ap, ◌∙◌, subst, inl, inr, arith}
use Rattle.std.specs.Bool.{Decides as Tests}
use Rattle.std.proofs.lemmas.Bool.{lt-ltb, cases_order}
use Rattle.tally.specs.Group.{Group}
use Rattle.grammar.specs.Meaning.{Meaning}
use Rattle.grammar.specs.Takes.{Same}
use Rattle.grammar.proofs.Options.{none_some}
use Rattle.survey.specs.Surveyed.{surveyed}
use Rattle.survey.specs.declared.table.Survey.{Survey}
use Rattle.calls.specs.Histories.{compared}
use Rattle.calls.specs.Laws.{Decides}
use Rattle.calls.specs.Refusals.{compare_fault}
use Rattle.calls.specs.declared.answer.Answer.{Answer}
use Rattle.calls.specs.declared.answer.Answer.TheVariants.{Same as SaysSame, Different}
use Rattle.calls.specs.declared.fault.CallFault.{CallFault}
use Rattle.comparer.specs.Comparers.{comparing}
use Rattle.comparer.specs.Lawful.{Lawful}
use Rattle.comparer.specs.declared.comparer.Comparer.{Comparer}
use Rattle.listing.specs.Listed.{Smallest}
use Rattle.listing.specs.Found.{Led}

-- two symbols of the grammar, and room for an input: the comparison is not refused
never_refused : (n A B : ℕ) → A < n → B < n → compare_fault n (A ∷ []) (B ∷ []) 16384 ≡ None
never_refused n A B a b = rw (lt-ltb A n a, lt-ltb B n b) refl

-- whether a comparison answers "same"
abbrev pub says : Result Answer CallFault → Bool
says (Ok SaysSame) = true
says (Ok (Different n)) = false
says (Err f) = false

module _ {T : Type 0} (𝓣 : Group T) (s : Survey T) (c d : Comparer T) (A B k : ℕ) (r : Result Answer CallFault) (o : List ℕ) (long : k ≡ 16384)
    (lawful : Lawful 𝓣 c (compared (A ∷ []) (B ∷ []) k (comparing r o)) d) (led : Led 𝓣 s c) where
  still_led : Led 𝓣 s d
  still_led = record {
    over = lawful.same_grammar.over s led.over;
    events = compared (A ∷ []) (B ∷ []) k (comparing r o) ∷ led.events;
    history = lawful.history s led.over led.events led.history;
  }

  tests : ((f : CallFault) → r ≡ Err f → compare_fault s.skeleton.words.count (A ∷ []) (B ∷ []) k ≡ Some f) → A < s.skeleton.words.count → B < s.skeleton.words.count →
      Tests (says r) (Same 𝓣 (surveyed s) (A ∷ []) (B ∷ []))
  tests fault a b = go r refl (lawful.law s led.over led.events led.history).decides.0
    where
      go : (q : Result Answer CallFault) → r ≡ q → Decides 𝓣 (surveyed s) (A ∷ []) (B ∷ []) (comparing q o) → Tests (says q) (Same 𝓣 (surveyed s) (A ∷ []) (B ∷ []))
      go (Ok SaysSame) e same = (λ _. same, λ _. refl)
      go (Ok (Different n)) e d = (λ w. cc, λ same. absurd (d.0 same))
      go (Err f) e d = absurd (none_some (sym (never_refused _ A B a b) ∙ ap (compare_fault s.skeleton.words.count (A ∷ []) (B ∷ [])) (sym long) ∙ fault f e))

  -- what a comparison of two symbols tells that answers q
  pub compared_symbols : (q : Result Answer CallFault) → r ≡ q → ((f : CallFault) → r ≡ Err f → compare_fault s.skeleton.words.count (A ∷ []) (B ∷ []) k ≡ Some f) →
      A < s.skeleton.words.count → B < s.skeleton.words.count → Led 𝓣 s d × Tests (says q) (Same 𝓣 (surveyed s) (A ∷ []) (B ∷ []))
  compared_symbols q e fault a b = (still_led, subst (λ (p : Result Answer CallFault). Tests (says p) (Same 𝓣 (surveyed s) (A ∷ []) (B ∷ []))) e (tests fault a b))

pub true_false : ¬ (true ≡ false)
true_false e = cc

module _ {T : Type 0} (𝓣 : Group T) (M : Meaning T) where
  abbrev pub Alike : ℕ → ℕ → Type 0
  Alike A B = Same 𝓣 M (A ∷ []) (B ∷ [])

  -- no symbol below k is the same as A
  abbrev pub NoneBelow : ℕ → ℕ → Type 0
  NoneBelow A k = (C : ℕ) → C < k → ¬ Alike A C

  -- the smallest one is no greater than the symbol
  no_greater : (A B : ℕ) → Smallest 𝓣 M A B → B ≤ A
  no_greater A B h = at (cases_order A B)
    where
      at : (A ≡ B) ⊎ ((A < B) ⊎ (B < A)) → B ≤ A
      at (inl e) = omega arith
      at (inr (inl l)) = absurd (h.least A l (λ s. refl))
      at (inr (inr l)) = omega arith

  pub below_more : (A k : ℕ) → NoneBelow A k → ¬ Alike A k → NoneBelow A (k + 1)
  below_more A k none not C h = at (cases_order C k)
    where
      at : (C ≡ k) ⊎ ((C < k) ⊎ (k < C)) → ¬ Alike A C
      at (inl e) = λ same. not (subst (Alike A) e same)
      at (inr (inl l)) = none C l
      at (inr (inr l)) = absurd (omega arith)

  -- a symbol that is the same as a smaller one still
  pub skipped : (A k B : ℕ) → NoneBelow A k → Smallest 𝓣 M k B → ¬ (B ≡ k) → ¬ Alike A k
  skipped A k B none h not same =
      let l = no_greater k B h in
      none B (omega arith) (λ s. same s ∙ h.same s)
