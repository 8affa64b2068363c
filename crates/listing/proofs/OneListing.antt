-- Bytes have one listing.
--
-- The idea: the check of a file comes to one thing, a grammar has one verdict, one norm for each symbol and one smallest symbol that is the same, and an offer of rows comes to one thing.
--
-- one_lists     one text for a tally
-- one_listing   one text for bytes
--
-- Assumes nothing.
use Rattle.std.proofs.Common.{◌≡◌, ℕ, zero, suc, ◌<◌, ◌⊎◌, List, [], ◌∷◌, ◌++◌, Ok, Err, Result, refl, sym, ap, ap₂, ◌∙◌, subst, inl, inr, arith}
use Rattle.std.proofs.lemmas.Bool.{cases_order}
use Rattle.tally.specs.Group.{Group}
use Rattle.tally.specs.Makes.{untallied_group, foot_group, last_group, odd_group, pair_group}
use Rattle.grammar.specs.Meaning.{Input, Meaning}
use Rattle.grammar.proofs.Options.{none_some}
use Rattle.norm.specs.Norms.{Normed}
use Rattle.norm.proofs.Lawful.{one_normed}
use Rattle.layout.specs.Contents.{FileRow, Contents, rows_bytes}
use Rattle.layout.specs.Reading.{checked_any}
use Rattle.layout.specs.declared.fault.Fault.{Fault}
use Rattle.layout.specs.declared.kind.Kind.TheVariants.{Foot, Last}
use Rattle.layout.proofs.Steps.{ok_err, err_same}
use Rattle.format.specs.Kinds.{untallied_made, only_kinds, only_made, foot_numbered, last_numbered, odd_numbered, pair_made}
use Rattle.survey.specs.Faults as grammars
use Rattle.survey.proofs.Verdicts.{never_both, one_fault}
use Rattle.calls.specs.Faults as calls
use Rattle.calls.specs.Offers.{Offered}
use Rattle.calls.specs.declared.fault.CallFault.{CallFault}
use Rattle.listing.specs.Texts.{refusal_text, symbol_line, lines}
use Rattle.listing.specs.Listed.{Smallest, no_rows, grammar, Lists, over_refused, not_taken, taken, ListsFor, for_none, for_foot, for_last, for_odd, for_foot_last, for_foot_odd, for_last_odd, Told, OneListing}
use Rattle.calls.proofs.Renormed.{one_result}

-- lines that are equal one by one
pub lines_same : (f g : ℕ → List ℕ) (k : ℕ) → ((A : ℕ) → A < k → f A ≡ g A) → lines f k ≡ lines g k
lines_same f g zero same = refl
lines_same f g (suc k) same = ap₂ ◌++◌ (lines_same f g k (λ A l. same A (omega arith))) (same k (omega arith))

module _ {T : Type 0} (𝓣 : Group T) where
  -- the smallest symbol that is the same is one
  pub one_smallest : (M : Meaning T) (A B C : ℕ) → Smallest 𝓣 M A B → Smallest 𝓣 M A C → B ≡ C
  one_smallest M A B C s r = at (cases_order B C)
    where
      at : (B ≡ C) ⊎ ((B < C) ⊎ (C < B)) → B ≡ C
      at (inl e) = e
      at (inr (inl l)) = absurd (r.least B l s.same)
      at (inr (inr l)) = absurd (s.least C l r.same)

  module _ (made : ℕ → ℕ → T) (c : Contents) (t u : List ℕ) where
    abbrev M : Meaning T
    M = grammar 𝓣 made c

    -- an offer to a comparer without rows
    one_offered : (norm other : ℕ → ℕ) (first second : ℕ → Input) → Normed 𝓣 M norm first → Normed 𝓣 M other second → (r q : Result (List FileRow) CallFault) →
        Offered 𝓣 M norm first no_rows (rows_bytes c.rows) r → Offered 𝓣 M other second no_rows (rows_bytes c.rows) q → r ≡ q
    one_offered norm other first second N K r q x y = one_result 𝓣 M no_rows (λ A w e. absurd (none_some e)) (rows_bytes c.rows) norm other first second N K r q x y

    pub one_lists : Lists 𝓣 made c t → Lists 𝓣 made c u → t ≡ u
    one_lists (over_refused f r e) (over_refused g s d) = e ∙ ap (λ h. refusal_text (grammars.code_of h)) (one_fault 32 64 𝓣 M f g r s) ∙ sym d
    one_lists (over_refused f r e) (not_taken norm first a N g x d) = absurd (never_both 32 64 𝓣 M f r a)
    one_lists (over_refused f r e) (taken norm first a N x smallest s d) = absurd (never_both 32 64 𝓣 M f r a)
    one_lists (not_taken norm first a N f x e) (over_refused g s d) = absurd (never_both 32 64 𝓣 M g s a)
    one_lists (not_taken norm first a N f x e) (not_taken other second b K g y d) =
        e ∙ ap (λ h. refusal_text (calls.code_of h)) (err_same (one_offered norm other first second N K (Err f) (Err g) x y)) ∙ sym d
    one_lists (not_taken norm first a N f x e) (taken other second b K y smallest s d) = absurd (ok_err (sym (one_offered norm other first second N K (Err f) (Ok c.rows) x y)))
    one_lists (taken norm first a N x smallest s e) (over_refused g r d) = absurd (never_both 32 64 𝓣 M g r a)
    one_lists (taken norm first a N x smallest s e) (not_taken other second b K g y d) = absurd (ok_err (one_offered norm other first second N K (Ok c.rows) (Err g) x y))
    one_lists (taken norm first a N x smallest s e) (taken other second b K y least r d) = e ∙ lines_same _ _ M.count line ∙ sym d
      where
        line : (A : ℕ) → A < M.count → symbol_line c.names (norm A) A (smallest A) ≡ symbol_line c.names (other A) A (least A)
        line A l = ap₂ (λ n B. symbol_line c.names n A B) (one_normed 𝓣 M norm other first second N K A l).0 (one_smallest M A (smallest A) (least A) (s A l) (r A l))

-- the seven tallies, by their kinds
abbrev ListsBy : List ℕ → Contents → List ℕ → Type 0
ListsBy [] c t = Lists untallied_group untallied_made c t
ListsBy (suc zero ∷ []) c t = Lists foot_group (only_made foot_numbered) c t
ListsBy (suc (suc zero) ∷ []) c t = Lists last_group (only_made last_numbered) c t
ListsBy (suc (suc (suc zero)) ∷ []) c t = Lists odd_group (only_made odd_numbered) c t
ListsBy (suc zero ∷ suc (suc zero) ∷ []) c t = Lists (pair_group foot_group last_group) (pair_made (only_kinds Foot) (only_made foot_numbered) (only_made last_numbered)) c t
ListsBy (suc zero ∷ suc (suc (suc zero)) ∷ []) c t = Lists (pair_group foot_group odd_group) (pair_made (only_kinds Foot) (only_made foot_numbered) (only_made odd_numbered)) c t
ListsBy (suc (suc zero) ∷ suc (suc (suc zero)) ∷ []) c t = Lists (pair_group last_group odd_group) (pair_made (only_kinds Last) (only_made last_numbered) (only_made odd_numbered)) c t
ListsBy ks c t = ⊥

by_kinds : (ks : List ℕ) (c : Contents) (t : List ℕ) → ListsFor ks c t → ListsBy ks c t
by_kinds ks c t (for_none e h) = subst (λ l. ListsBy l c t) (sym e) h
by_kinds ks c t (for_foot e h) = subst (λ l. ListsBy l c t) (sym e) h
by_kinds ks c t (for_last e h) = subst (λ l. ListsBy l c t) (sym e) h
by_kinds ks c t (for_odd e h) = subst (λ l. ListsBy l c t) (sym e) h
by_kinds ks c t (for_foot_last e h) = subst (λ l. ListsBy l c t) (sym e) h
by_kinds ks c t (for_foot_odd e h) = subst (λ l. ListsBy l c t) (sym e) h
by_kinds ks c t (for_last_odd e h) = subst (λ l. ListsBy l c t) (sym e) h

one_by : (ks : List ℕ) (c : Contents) (t u : List ℕ) → ListsBy ks c t → ListsBy ks c u → t ≡ u
one_by [] c t u x y = one_lists untallied_group untallied_made c t u x y
one_by (suc zero ∷ []) c t u x y = one_lists foot_group (only_made foot_numbered) c t u x y
one_by (suc (suc zero) ∷ []) c t u x y = one_lists last_group (only_made last_numbered) c t u x y
one_by (suc (suc (suc zero)) ∷ []) c t u x y = one_lists odd_group (only_made odd_numbered) c t u x y
one_by (suc zero ∷ suc (suc zero) ∷ []) c t u x y = one_lists (pair_group foot_group last_group) (pair_made (only_kinds Foot) (only_made foot_numbered) (only_made last_numbered)) c t u x y
one_by (suc zero ∷ suc (suc (suc zero)) ∷ []) c t u x y = one_lists (pair_group foot_group odd_group) (pair_made (only_kinds Foot) (only_made foot_numbered) (only_made odd_numbered)) c t u x y
one_by (suc (suc zero) ∷ suc (suc (suc zero)) ∷ []) c t u x y = one_lists (pair_group last_group odd_group) (pair_made (only_kinds Last) (only_made last_numbered) (only_made odd_numbered)) c t u x y
one_by ks c t u x y = absurd x

pub one_listing : (bs : List ℕ) → OneListing bs
one_listing bs t u = at (checked_any bs)
  where
    at : (o : Result Contents Fault) → Told o t → Told o u → t ≡ u
    at (Ok c) x y = one_by c.kinds c t u (by_kinds c.kinds c t x) (by_kinds c.kinds c u y)
    at (Err f) x y = x ∙ sym y
