-- What is found at a symbol and a letter in the rules of a file, and at a symbol in its rows: where these rise, their members. Assumes nothing.
use Rattle.std.proofs.Common.{◌≡◌, ℕ, Bool, true, false, cond, ◌&&◌, ◌==◌, List, [], ◌∷◌, Some, None, Option, Decides, sym, refl, ap, ap₂, ◌∙◌, inl, inr, arith, eq-eqb}
use Rattle.std.proofs.lemmas.Bool.Decides.{Decides-and, Decides-eqb}
use Rattle.grammar.specs.Meaning.{Word}
use Rattle.grammar.proofs.Options.{none_some, some_same}
use Rattle.layout.specs.Contents.{FileRule, FileRow, Rising, After, RowAfter}
use Rattle.layout.proofs.Steps.{false_when}
use Rattle.file_grammar.specs.Filed.{rule_at}
use Rattle.sheet.specs.Rowed.{row_at, over}
use Rattle.calls.proofs.Taking.{row_from}
use Rattle.writing.proofs.Members.{In, all_members, member_of, rising_first, rising_tail}

pub after_trans : (x y z : FileRule) → After x y → After y z → After x z
after_trans x y z h k = grind arith

pub after_not_same : (x : FileRule) → ¬ After x x
after_not_same x h = grind arith

pub row_after_trans : (x y z : FileRow) → RowAfter x y → RowAfter y z → RowAfter x z
row_after_trans x y z h k = omega arith

pub row_after_not_same : (x : FileRow) → ¬ RowAfter x x
row_after_not_same x h = omega arith

-- whether a rule is the one that is looked for
decides_at : (A a : ℕ) (r : FileRule) → Decides (r.symbol == A && r.letter == a) ((r.symbol ≡ A) × (r.letter ≡ a))
decides_at A a r = Decides-and (r.symbol == A) (r.letter == a) (Decides-eqb r.symbol A) (Decides-eqb r.letter a)

-- the rule that is found
pub record Found (A a : ℕ) (rs : List FileRule) (r : FileRule) : Type 0 where
  pub member : In r rs
  pub symbol : r.symbol ≡ A
  pub letter : r.letter ≡ a

pub rule_found : (A a : ℕ) (rs : List FileRule) (r : FileRule) → rule_at A a rs ≡ Some r → Found A a rs r
rule_found A a [] r e = absurd (none_some e)
rule_found A a (x ∷ rs) r e = at (x.symbol == A && x.letter == a) refl (rule_found A a rs r) e
  where
    at : (b : Bool) → (x.symbol == A && x.letter == a) ≡ b → (rule_at A a rs ≡ Some r → Found A a rs r) → cond b (Some x) (rule_at A a rs) ≡ Some r → Found A a (x ∷ rs) r
    at true t further d =
        let same : x ≡ r = some_same d in
        let is = (decides_at A a x).0 t in
        record { member = inl (sym same); symbol = ap (λ (q : FileRule). q.symbol) (sym same) ∙ is.0; letter = ap (λ (q : FileRule). q.letter) (sym same) ∙ is.1 }
    at false t further d = let f = further d in record { member = inr f.member; symbol = f.symbol; letter = f.letter }

pub rule_finds : (rs : List FileRule) (r : FileRule) → Rising After rs → In r rs → rule_at r.symbol r.letter rs ≡ Some r
rule_finds [] r rises h = absurd h
rule_finds (x ∷ rs) r rises (inl e) =
    ap (λ b. cond b (Some x) (rule_at r.symbol r.letter rs)) ((decides_at r.symbol r.letter x).1 (ap (λ (q : FileRule). q.symbol) (sym e), ap (λ (q : FileRule). q.letter) (sym e)))
    ∙ ap {B = Option FileRule} Some (sym e)
rule_finds (x ∷ rs) r rises (inr h) =
    ap (λ b. cond b (Some x) (rule_at r.symbol r.letter rs)) (false_when (x.symbol == r.symbol && x.letter == r.letter) (decides_at r.symbol r.letter x) other)
    ∙ rule_finds rs r (rising_tail After x rs rises) h
  where
    earlier : After x r
    earlier = member_of (After x) rs r (rising_first After after_trans x rs rises) h

    other : ¬ ((x.symbol ≡ r.symbol) × (x.letter ≡ r.letter))
    other p = let d = p.0 in let e = p.1 in let k = earlier in grind arith

pub row_found : (A : ℕ) (rs : List FileRow) (w : Word) → row_at A rs ≡ Some w → In (record { symbol = A; word = w }) rs
row_found A rs w e = row_from (λ r. In r rs) A rs w (all_members (λ r. In r rs) rs (λ z k. k)) e

pub row_finds : (rs : List FileRow) (r : FileRow) → Rising RowAfter rs → In r rs → row_at r.symbol rs ≡ Some r.word
row_finds [] r rises h = absurd h
row_finds (x ∷ rs) r rises (inr h) = ap (λ o. over o (cond (r.symbol == x.symbol) (Some x.word) None)) (row_finds rs r (rising_tail RowAfter x rs rises) h)
row_finds (x ∷ rs) r rises (inl e) =
    ap₂ over (none (row_at r.symbol rs) refl) (ap (λ b. cond b (Some x.word) None) (eq-eqb r.symbol x.symbol (ap (λ (q : FileRow). q.symbol) e)))
    ∙ ap (λ (q : FileRow). Some q.word) (sym e)
  where
    none : (o : Option Word) → row_at r.symbol rs ≡ o → row_at r.symbol rs ≡ None
    none None d = d
    none (Some w) d =
        let later = member_of (RowAfter x) rs (record { symbol = r.symbol; word = w }) (rising_first RowAfter row_after_trans x rs rises) (row_found r.symbol rs w d) in
        let same : r.symbol ≡ x.symbol = ap (λ (q : FileRow). q.symbol) e in
        absurd (omega arith)
