-- The offer of bytes comes to one thing.
--
-- The idea: an offer is a chain of tests. Each is passed by all rows, or there is a first row that fails it, never both; and the first one is one.
--
-- Assumes nothing.
use Rattle.std.proofs.Common.{◌≡◌, ℕ, ◌<◌, ◌⊎◌, List, Ok, Err, Result, refl, sym, ap, ◌∙◌, subst, inl, inr}
use Rattle.std.proofs.lemmas.Bool.{cases_order}
use Rattle.tally.specs.Group.{Group}
use Rattle.grammar.specs.Meaning.{Word, Input, Meaning}
use Rattle.layout.specs.Contents.{FileRow}
use Rattle.layout.specs.declared.fault.Fault.{Fault}
use Rattle.layout.proofs.Steps.{ok_err, ok_same}
use Rattle.rows.specs.Sheets.{View, Sheet, weighed, SelfProving}
use Rattle.sheet.specs.Candidates.{candidates}
use Rattle.agreement.specs.Agreeing.{FirstWrong}
use Rattle.agreement.specs.declared.agreeing.Disagreement.{Disagreement}
use Rattle.calls.specs.Offers.{with_rows, rows_at, AllOf, FirstOf, fault_of, Passes, Offered, malformed, marked, unlike, misses, disagrees, taken}
use Rattle.calls.specs.declared.test.Test.{Test}
use Rattle.calls.specs.declared.test.Test.TheVariants.{Free, Like, TakesFirst}
use Rattle.calls.specs.declared.fault.CallFault.{CallFault}
use Rattle.calls.specs.declared.fault.CallFault.TheVariants.{File, Disagrees}

abbrev Answer : Type 0
Answer = Result (List FileRow) CallFault

-- one test of the chain: it is passed, and the rest comes to r; or r is its fault, for the first row that fails
abbrev Tested : (ℕ → Word → Type 0) → View → (ℕ → CallFault) → (Answer → Type 0) → Answer → Type 0
Tested P U fault K r = (AllOf P U × K r) ⊎ ((A : ℕ) × FirstOf (λ B w. ¬ P B w) U A × (r ≡ Err (fault A)))

module _ (P : ℕ → Word → Type 0) (U : View) where
  first_failing : (A B : ℕ) → FirstOf (λ C w. ¬ P C w) U A → FirstOf (λ C w. ¬ P C w) U B → A ≡ B
  first_failing A B f g = at (cases_order A B)
    where
      at : (A ≡ B) ⊎ ((A < B) ⊎ (B < A)) → A ≡ B
      at (inl e) = e
      at (inr (inl h)) = absurd (g.before A f.word h f.is f.here)
      at (inr (inr h)) = absurd (f.before B g.word h g.is g.here)

  tested_once : (fault : ℕ → CallFault) (K : Answer → Type 0) → ((r q : Answer) → K r → K q → r ≡ q) → (r q : Answer) → Tested P U fault K r → Tested P U fault K q → r ≡ q
  tested_once fault K once r q (inl x) (inl y) = once r q x.1 y.1
  tested_once fault K once r q (inl x) (inr y) = absurd (y.1.here (x.0 y.0 y.1.word y.1.is))
  tested_once fault K once r q (inr x) (inl y) = absurd (x.1.here (y.0 x.0 x.1.word x.1.is))
  tested_once fault K once r q (inr x) (inr y) = x.2 ∙ ap {B = Answer} (λ A. Err (fault A)) (first_failing x.0 y.0 x.1 y.1) ∙ sym y.2

module _ {T : Type 0} (𝓣 : Group T) (M : Meaning T) (D : Sheet T) where
  -- the first disagreement is one
  first_wrong : (d e : Disagreement) → FirstWrong 𝓣 M D d.symbol d.letter → FirstWrong 𝓣 M D e.symbol e.letter → d ≡ e
  first_wrong d e f g = at (cases_order d.symbol e.symbol) (cases_order d.letter e.letter)
    where
      at : (d.symbol ≡ e.symbol) ⊎ ((d.symbol < e.symbol) ⊎ (e.symbol < d.symbol)) → (d.letter ≡ e.letter) ⊎ ((d.letter < e.letter) ⊎ (e.letter < d.letter)) → d ≡ e
      at (inl k) (inl l) = λ i. record { symbol = k i; letter = l i }
      at (inl k) (inr (inl h)) = absurd (f.here (g.before d.symbol f.row d.letter f.is f.letter (inr (k, h))))
      at (inl k) (inr (inr h)) = absurd (g.here (f.before e.symbol g.row e.letter g.is g.letter (inr (sym k, h))))
      at (inr (inl h)) l = absurd (f.here (g.before d.symbol f.row d.letter f.is f.letter (inl h)))
      at (inr (inr h)) l = absurd (g.here (f.before e.symbol g.row e.letter g.is g.letter (inl h)))

  -- the last test: the rows agree, or there is a first disagreement
  abbrev Agreed : List FileRow → Answer → Type 0
  Agreed rs r = (SelfProving 𝓣 M D × (r ≡ Ok rs)) ⊎ ((d : Disagreement) × FirstWrong 𝓣 M D d.symbol d.letter × (r ≡ Err (Disagrees d)))

  agreed_once : (rs : List FileRow) (r q : Answer) → Agreed rs r → Agreed rs q → r ≡ q
  agreed_once rs r q (inl x) (inl y) = x.1 ∙ sym y.1
  agreed_once rs r q (inl x) (inr y) = absurd (y.1.here (x.0 y.0.symbol y.1.row y.1.is y.0.letter y.1.letter))
  agreed_once rs r q (inr x) (inl y) = absurd (x.1.here (y.0 x.0.symbol x.1.row x.1.is x.0.letter x.1.letter))
  agreed_once rs r q (inr x) (inr y) = x.2 ∙ ap {B = Answer} (λ d. Err (Disagrees d)) (first_wrong x.0 y.0 x.1 y.1) ∙ sym y.2

module _ {T : Type 0} (𝓣 : Group T) (M : Meaning T) (norm : ℕ → ℕ) (first : ℕ → Input) (V : View) where
  abbrev One : Test → List FileRow → (Answer → Type 0) → Answer → Type 0
  One t rs = Tested (Passes 𝓣 M norm first V t) (rows_at rs) (fault_of t)

  abbrev Rows : List FileRow → Answer → Type 0
  Rows rs = Agreed 𝓣 M (weighed 𝓣 M first (with_rows V rs)) rs

  -- the chain, over what the bytes hold
  abbrev Chain : Result (List FileRow) Fault → Answer → Type 0
  Chain (Err f) r = r ≡ Err (File f)
  Chain (Ok rs) r = One Free rs (One Like rs (One TakesFirst rs (Rows rs))) r

  chain_once : (o : Result (List FileRow) Fault) (r q : Answer) → Chain o r → Chain o q → r ≡ q
  chain_once (Err f) r q x y = x ∙ sym y
  chain_once (Ok rs) r q x y =
      once Free (One Like rs (One TakesFirst rs (Rows rs)))
      (once Like (One TakesFirst rs (Rows rs)) (once TakesFirst (Rows rs) (agreed_once 𝓣 M (weighed 𝓣 M first (with_rows V rs)) rs))) r q x y
    where
      once : (t : Test) (K : Answer → Type 0) → ((r q : Answer) → K r → K q → r ≡ q) → (r q : Answer) → One t rs K r → One t rs K q → r ≡ q
      once t = tested_once (Passes 𝓣 M norm first V t) (rows_at rs) (fault_of t)

  module _ (bs : List ℕ) where
    offered_chain : {r : Answer} → Offered 𝓣 M norm first V bs r → Chain (candidates M.count bs) r
    offered_chain (malformed f e) = subst (λ o. Chain o (Err (File f))) (sym e) refl
    offered_chain (marked rs A e x) = subst (λ o. Chain o (Err (fault_of Free A))) (sym e) (inr (A, x, refl))
    offered_chain (unlike rs A e a x) = subst (λ o. Chain o (Err (fault_of Like A))) (sym e) (inl (a, inr (A, x, refl)))
    offered_chain (misses rs A e a b x) = subst (λ o. Chain o (Err (fault_of TakesFirst A))) (sym e) (inl (a, inl (b, inr (A, x, refl))))
    offered_chain (disagrees rs d e a b h x) = subst (λ o. Chain o (Err (Disagrees d))) (sym e) (inl (a, inl (b, inl (h, inr (d, x, refl)))))
    offered_chain (taken rs e a b h x) = subst (λ o. Chain o (Ok rs)) (sym e) (inl (a, inl (b, inl (h, inl (x, refl)))))

    pub one_offer : (r q : Answer) → Offered 𝓣 M norm first V bs r → Offered 𝓣 M norm first V bs q → r ≡ q
    one_offer r q x y = chain_once (candidates M.count bs) r q (offered_chain x) (offered_chain y)

    -- what is taken is not refused
    pub never_both : (rs : List FileRow) (f : CallFault) → Offered 𝓣 M norm first V bs (Ok rs) → ¬ Offered 𝓣 M norm first V bs (Err f)
    never_both rs f x y = ok_err (one_offer (Ok rs) (Err f) x y)

    -- and is taken with these rows
    pub same_rows : (rs qs : List FileRow) → Offered 𝓣 M norm first V bs (Ok rs) → Offered 𝓣 M norm first V bs (Ok qs) → rs ≡ qs
    same_rows rs qs x y = ok_same (one_offer (Ok rs) (Ok qs) x y)
