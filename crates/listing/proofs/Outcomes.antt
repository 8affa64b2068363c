-- The listing that an opened comparer, or the fault that it was refused for, comes to.
--
-- The idea: the lines are told over a survey of the grammar, which has its count, norms and first inputs; and they fit the buffer.
--
-- Assumes nothing.
use Rattle.std.proofs.Common.{◌≡◌, ℕ, ◌<◌, ◌≤◌, List, ◌++◌, length, drop, Ok, Err, sym, ap, ◌∙◌, subst, arith}
use Rattle.tally.specs.Group.{Group}
use Rattle.grammar.specs.Meaning.{Meaning}
use Rattle.layout.specs.Contents.{Contents}
use Rattle.layout.specs.declared.fault.FaultCode.{FaultCode}
use Rattle.format.specs.Lent.{Wrote}
use Rattle.survey.specs.Surveyed.{norm_in, first_in}
use Rattle.survey.specs.declared.table.Survey.{Survey}
use Rattle.calls.specs.Faults.{code_of}
use Rattle.calls.specs.declared.fault.CallFault.{CallFault}
use Rattle.comparer.specs.declared.comparer.Comparer.{Comparer}
use Rattle.listing.specs.Texts.{refusal_text, symbol_line, lines}
use Rattle.listing.specs.Listed as listed
use Rattle.listing.specs.Listed.{Smallest, grammar, Lists}
use Rattle.listing.specs.Found.{Led, Tells}
use Rattle.listing.specs.Opened.{Opened, over_refused, not_taken, taken}
use Rattle.listing.proofs.Parts.{filled}
use Rattle.listing.proofs.Told.{line_short, lines_short}

module _ {T : Type 0} (𝓣 : Group T) where
  told_short : (s : Survey T) (ns t : List ℕ) → Tells 𝓣 s ns t → s.skeleton.words.count ≤ 32 → length t ≤ 224
  told_short s ns t told few =
      let n : ℕ = s.skeleton.words.count in
      let short = lines_short (λ A. symbol_line ns (norm_in s A) A (told.smallest A)) n (λ A h. line_short ns (norm_in s A) A (told.smallest A) (s.skeleton.small A h)) in
      subst (λ u. length u ≤ 224) (sym told.text) (omega (arith, short))

  module _ (made : ℕ → ℕ → T) (c : Contents) (o p : List ℕ) (n : ℕ) (size : length o ≡ 256) where
    -- the lines of an opened comparer
    pub lines_shown : (ns : List ℕ) → ns ≡ c.names → length ns ≤ 32 → (d : Comparer T) → Opened 𝓣 (grammar 𝓣 made c) c.rows (Ok d) →
        ((s : Survey T) → Led 𝓣 s d → length ns ≡ s.skeleton.words.count → (t : List ℕ) × Tells 𝓣 s ns t × Wrote o 0 t n p) → (t : List ℕ) × Lists 𝓣 made c t × (n ≡ length t) × (p ≡ t ++ drop (length t) o)
    lines_shown ns is few d (taken s _ surveys offer led rows) tells =
        let count : length ns ≡ s.skeleton.words.count = ap length is ∙ sym (ap (λ (N : Meaning T). N.count) surveys.meaning) in
        let w = tells s led count in
        let t = w.0 in
        let told = w.1 in
        let least = subst (λ (N : Meaning T). (A : ℕ) → A < N.count → Smallest 𝓣 N A (told.smallest A)) surveys.meaning told.least in
        let named = ap (λ l. lines (λ A. symbol_line l (norm_in s A) A (told.smallest A)) s.skeleton.words.count) is in
        let counted = ap (lines (λ A. symbol_line c.names (norm_in s A) A (told.smallest A))) (sym count ∙ ap length is) in
        let short = told_short s ns t told (omega arith) in
        let fits = filled o p t n w.2 (omega arith) (omega arith) in
        (t, listed.taken (norm_in s) (first_in s) surveys.accepted surveys.normed offer told.smallest least (told.text ∙ named ∙ counted), fits.0, fits.1)

    -- the refusal, where it was not opened
    pub refusal_shown : (f : CallFault) → Opened 𝓣 (grammar 𝓣 made c) c.rows (Err f) → (k : FaultCode) → k ≡ code_of f → length (refusal_text k) ≤ 71 → Wrote o 0 (refusal_text k) n p →
        (t : List ℕ) × Lists 𝓣 made c t × (n ≡ length t) × (p ≡ t ++ drop (length t) o)
    refusal_shown f opened k is short wrote = (refusal_text k, at f opened is, fits.0, fits.1)
      where
        fits : (n ≡ length (refusal_text k)) × (p ≡ refusal_text k ++ drop (length (refusal_text k)) o)
        fits = filled o p (refusal_text k) n wrote (omega arith) (omega arith)

        at : (f : CallFault) → Opened 𝓣 (grammar 𝓣 made c) c.rows (Err f) → k ≡ code_of f → Lists 𝓣 made c (refusal_text k)
        at _ (over_refused g refused) e = listed.over_refused g refused (ap refusal_text e)
        at _ (not_taken s f surveys offer) e = listed.not_taken (norm_in s) (first_in s) surveys.accepted surveys.normed f offer (ap refusal_text e)
