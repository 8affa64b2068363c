-- The sections of a file, written one behind the other. Assumes nothing.
use Rattle.std.proofs.Common.{◌≡◌, ℕ, ◌^◌, ◌<◌, ◌≤◌, Bool, true, false, not, ◌==◌, List, [], ◌∷◌, ◌++◌, length, Some, None, Option, sym, refl, ap, ◌∙◌, subst, append_assoc, arith}
use Rattle.std.proofs.lemmas.Bool.{eqb-true}
use Rattle.std.specs.Option.{option_map}
use Rattle.grammar.specs.Meaning.{Meaning}
use Rattle.layout.specs.Contents.{FileRule, two, joined, rule_bytes, encode}
use Rattle.format.specs.Lent.{Wrote}
use Rattle.format.proofs.Writes.{wrote_then}
use Rattle.rows.specs.Sheets.{View}
use Rattle.calls.specs.Refusals.{first_of, when}
use Rattle.calls.specs.Offers.{copied}
use Rattle.calls.specs.declared.fault.CallFault.{CallFault}
use Rattle.writing.specs.Files.{rules_in, file_of, bad_name, file_kinds, file_faults}

-- a file holds at most two kinds
kinds_few : (ks : List ℕ) → file_kinds ks ≡ true → length ks ≤ 2
kinds_few [] e = omega arith
kinds_few (k ∷ []) e = omega arith
kinds_few (j ∷ k ∷ []) e = omega arith
kinds_few (i ∷ j ∷ k ∷ ks) e = cc

-- no fault, by the tests
passed : (b : Bool) (o : Option ℕ) (k : Bool) (f g : CallFault) (h : ℕ → CallFault) → first_of (when (not b) f ∷ option_map h o ∷ when (not k) g ∷ []) ≡ None → (b ≡ true) × (k ≡ true)
passed false o k f g h e = cc
passed true (Some x) k f g h e = cc
passed true None false f g h e = cc
passed true None true f g h e = (refl, refl)

-- where nothing is to be refused, there are as many names as symbols, and at most two kinds
pub unrefused : (n : ℕ) (ks names : List ℕ) → first_of (file_faults n ks names) ≡ None → (length names ≡ n) × (length ks ≤ 2)
unrefused n ks names e =
    let t = passed (length names == n) (bad_name 1 [] names) (file_kinds ks) _ _ _ e in
    (eqb-true (length names) n t.0, kinds_few ks t.1)

module _ {T : Type 0} (names ks : List ℕ) (numbers : T → List ℕ) (M : Meaning T) (V : View) where
  abbrev rules : List FileRule
  rules = rules_in numbers M M.count

  -- the count of names and the names, the kinds, the rules and the rows
  pub file_written : {o p q r s u : List ℕ} {a b c d e : ℕ} (count : ℕ) → count ≡ length names → length o < 2 ^ 64 →
      Wrote o 0 (count ∷ []) a p → Wrote p a names b q → Wrote q b (length ks ∷ ks) c r → Wrote r c (two (length rules) ++ joined rule_bytes rules) d s →
      Wrote s d (copied V) e u → Wrote o 0 (encode (file_of names ks numbers M V)) e u
  file_written {o} {p} {q} {r} {s} {u} {a} {b} {c} {d} {e} count is room first second third fourth fifth =
      let kinds = length ks ∷ ks in
      let front = count ∷ names ++ kinds in
      let bytes = ap (λ bs. bs ++ copied V) (sym (append_assoc front (two (length rules)) (joined rule_bytes rules)))
      ∙ ap (λ n. n ∷ names ++ kinds ++ two (length rules) ++ joined rule_bytes rules ++ copied V) is in
      subst (λ (bs : List ℕ). Wrote o 0 bs e u) bytes (wrote_then room (wrote_then room (wrote_then room (wrote_then room first second) third) fourth) fifth)
