-- Bytes behind a file that is too long already: its check says the same.
--
-- The idea: so many bytes encode no legal contents, and no field has too few of them. Whatever else is wrong is so in a front of the bytes, and stays so with more behind them.
--
-- longer_check     the check of 14,566 bytes or more is the same with more bytes behind
-- longer_listing   and so is their listing
--
-- Assumes nothing.
use Rattle.std.proofs.Common.{◌≡◌, ℕ, ◌<◌, ◌≤◌, List, ◌∷◌, ◌++◌, length, Ok, Err, Result, refl, sym, ap, ◌∙◌, subst, append_assoc, length-append, arith}
use Rattle.layout.specs.Contents.{Contents}
use Rattle.layout.specs.Reading.{checked_any}
use Rattle.layout.specs.Wrong.{Wrong, short, out_of_limits, too_many_rules, bad_name, bad_kind, bad_letter, rule_order, row_order, rule_symbol, row_symbol, word_symbol, more_bytes, other_kinds}
use Rattle.layout.specs.Laws.{Bytes}
use Rattle.layout.specs.declared.fault.Fault.{Fault}
use Rattle.layout.proofs.Any.{any_law}
use Rattle.layout.proofs.Ordered.{all_front}
use Rattle.listing.specs.Listed.{Told, Listed}
use Rattle.listing.proofs.Sizes.{read_short}
use Rattle.writing.proofs.Sizes.{legal_short}

module _ (bs more : List ℕ) (long : 14566 ≤ length bs) where
  -- a front of the bytes is one of the more bytes
  front : (p q : List ℕ) → bs ≡ p ++ q → bs ++ more ≡ p ++ (q ++ more)
  front p q e = ap (λ l. l ++ more) e ∙ append_assoc p q more

  longer_wrong : (ks : List ℕ) (f : Fault) → Wrong ks bs f → Wrong ks (bs ++ more) f
  longer_wrong ks f (short p rest F e to h d) = absurd (let l = ap length e in let a = length-append p rest in let s = read_short to in omega arith)
  longer_wrong ks f (out_of_limits p rest b lo hi e to h d) = out_of_limits p (rest ++ more) b lo hi (front p (b ∷ rest) e) to h d
  longer_wrong ks f (too_many_rules p rest h l e to i d) = too_many_rules p (rest ++ more) h l (front p (h ∷ l ∷ rest) e) to i d
  longer_wrong ks f (bad_name p rest b before e to h d) = bad_name p (rest ++ more) b before (front p (b ∷ rest) e) to h d
  longer_wrong ks f (bad_kind p rest b before e to h d) = bad_kind p (rest ++ more) b before (front p (b ∷ rest) e) to h d
  longer_wrong ks f (bad_letter p rest b e to h d) = bad_letter p (rest ++ more) b (front p (b ∷ rest) e) to h d
  longer_wrong ks f (rule_order p rest n A a before e to h i j d) = rule_order p (rest ++ more) n A a before (front p (A ∷ a ∷ rest) e) to h i j d
  longer_wrong ks f (row_order p rest n A before e to h i d) = row_order p (rest ++ more) n A before (front p (A ∷ rest) e) to h i d
  longer_wrong ks f (rule_symbol p rest n b before e to h d) = rule_symbol p (rest ++ more) n b before (front p (b ∷ rest) e) to h d
  longer_wrong ks f (row_symbol p rest n b before e to h d) = row_symbol p (rest ++ more) n b before (front p (b ∷ rest) e) to h d
  longer_wrong ks f (word_symbol p rest n b e to h d) = word_symbol p (rest ++ more) n b (front p (b ∷ rest) e) to h d
  longer_wrong ks f (more_bytes p rest b e to d) = more_bytes p (rest ++ more) b (front p (b ∷ rest) e) to d
  longer_wrong ks f (other_kinds p rest fs e to n d) = other_kinds p (rest ++ more) fs (front p rest e) to n d

  module _ (bytes : Bytes (bs ++ more)) where
    fewer : Bytes bs
    fewer = all_front (λ b. b < 256) bs more bytes

    pub longer_check : checked_any bs ≡ checked_any (bs ++ more)
    longer_check = at (checked_any bs) refl
      where
        at : (o : Result Contents Fault) → checked_any bs ≡ o → o ≡ checked_any (bs ++ more)
        at (Ok c) e = let h = ((any_law bs fewer).accepted c).0 e in absurd (let l = ap length h.1 in let s = legal_short c h.0 in omega arith)
        at (Err f) e =
            let h = ((any_law bs fewer).refused f).0 e in
            sym (((any_law (bs ++ more) bytes).refused f).1 (h.0, (h.1.0, longer_wrong h.1.0 f h.1.1)))

-- so the listing is the same
pub longer_listing : (bs more t : List ℕ) → Bytes (bs ++ more) → 14566 ≤ length bs → Listed bs t → Listed (bs ++ more) t
longer_listing bs more t bytes long h = subst (λ o. Told o t) (longer_check bs more long bytes) h
