-- Names and kinds that are not refused are legal. Assumes nothing.
use Rattle.std.proofs.Common.{◌≡◌, ℕ, suc, ◌≤◌, Bool, true, false, not, ◌&&◌, ◌==◌, List, [], ◌∷◌, ◌++◌, reverse, length, Some, None, Option, if◌then◌else◌, nat_lt, sym, refl, ap, ◌∙◌, subst, append_assoc, append-nil, arith, eqb-true, ltb-true, eq-eqb, lt-ltb}
use mathlib.Core.List.{reverse-append}
use Rattle.std.specs.Option.{option_map}
use Rattle.std.proofs.lemmas.Bool.{and_parts}
use Rattle.grammar.proofs.Options.{some_none}
use Rattle.layout.specs.Contents.{Name, Kind, All, Apart}
use Rattle.layout.specs.Reading.{named, absent}
use Rattle.layout.specs.Wrong.{LegalNames, LegalKinds}
use Rattle.layout.specs.declared.fault.Fault.TheVariants.{Limit, Unallowed, Kinds}
use Rattle.layout.proofs.Numbers.{decides_within, decides_name}
use Rattle.layout.proofs.Ordered.{all_push, apart_push, apart_absent}
use Rattle.calls.specs.Refusals.{first_of, when}
use Rattle.calls.specs.declared.fault.CallFault.{CallFault}
use Rattle.calls.specs.declared.fault.CallFault.TheVariants.{File}
use Rattle.writing.specs.Files.{bad_name, kind_byte, file_kinds, file_faults}

-- names, those that come first being legal
names_good : (k : ℕ) (before names : List ℕ) → bad_name k (reverse before) names ≡ None → All Name before → Apart before → All Name (before ++ names) × Apart (before ++ names)
names_good k before [] e all apart = (subst (All Name) (sym (append-nil before)) all, subst Apart (sym (append-nil before)) apart)
names_good k before (x ∷ names) e all apart = at (named x && absent x (reverse before)) refl (names_good (suc k) (before ++ x ∷ []) names) e
  where
    at : (b : Bool) → (named x && absent x (reverse before)) ≡ b → (bad_name (suc k) (reverse (before ++ x ∷ [])) names ≡ None → All Name (before ++ x ∷ []) → Apart (before ++ x ∷ []) → All Name ((before ++ x ∷ []) ++ names) × Apart ((before ++ x ∷ []) ++ names)) →
        (if b then bad_name (suc k) (x ∷ reverse before) names else Some k) ≡ None → All Name (before ++ x ∷ names) × Apart (before ++ x ∷ names)
    at true t further d =
        let good = (decides_name 0 before x).0 t in
        subst (λ ns. All Name ns × Apart ns) (append_assoc before (x ∷ []) names)
        (further (ap (λ bs. bad_name (suc k) bs names) (reverse-append before (x ∷ [])) ∙ d) (all_push Name before x all good.0) (apart_push before x apart good.1))
    at false t further d = absurd (some_none d)

kind_good : (k : ℕ) → kind_byte k ≡ true → Kind k
kind_good k e = (decides_within 1 3 k).0 e

pub kinds_good : (ks : List ℕ) → file_kinds ks ≡ true → LegalKinds ks
kinds_good [] e = record { few = omega arith; each = tt; rising = tt }
kinds_good (k ∷ []) e = record { few = omega arith; each = (kind_good k e, tt); rising = tt }
kinds_good (j ∷ k ∷ []) e =
    let h = and_parts (kind_byte j && kind_byte k) (nat_lt j k) e in
    let i = and_parts (kind_byte j) (kind_byte k) h.0 in
    record { few = omega arith; each = (kind_good j i.0, (kind_good k i.1, tt)); rising = (ltb-true j k h.1, tt) }
kinds_good (i ∷ j ∷ k ∷ ks) e = absurd (let z : ◌≡◌ {A = ℕ} 0 1 = cc in omega arith)

-- the first of some faults is none just if each is
none_first : (o : Option CallFault) (os : List (Option CallFault)) → first_of (o ∷ os) ≡ None → (o ≡ None) × (first_of os ≡ None)
none_first None os e = (refl, e)
none_first (Some f) os e = absurd (some_none e)

when_none : (b : Bool) (f : CallFault) → when b f ≡ None → b ≡ false
when_none true f e = absurd (some_none e)
when_none false f e = refl

not_false : (b : Bool) → not b ≡ false → b ≡ true
not_false true e = refl
not_false false e = sym e

mapped_none : {X Y : Type 0} (f : X → Y) (o : Option X) → option_map f o ≡ None → o ≡ None
mapped_none f None e = refl
mapped_none f (Some x) e = absurd (some_none e)

-- what is written is not refused for its names and kinds
pub record Unrefused (n : ℕ) (ks ns : List ℕ) : Type 0 where
  pub size : length ns ≡ n
  pub names : LegalNames ns
  pub kinds : LegalKinds ks

pub unrefused : (n : ℕ) (ks names : List ℕ) → 1 ≤ n → n ≤ 32 → first_of (file_faults n ks names) ≡ None → Unrefused n ks names
unrefused n ks names some few e =
    let a = none_first (when (not (length names == n)) (File (Limit 0))) _ e in
    let b = none_first (option_map (λ k. File (Unallowed k)) (bad_name 1 [] names)) _ a.1 in
    let c = none_first (when (not (file_kinds ks)) (File Kinds)) [] b.1 in
    let size : length names ≡ n = eqb-true (length names) n (not_false (length names == n) (when_none (not (length names == n)) (File (Limit 0)) a.0)) in
    let good = names_good 1 [] names (mapped_none (λ k. File (Unallowed k)) (bad_name 1 [] names) b.0) tt tt in
    record {
      size = size;
      names = record { some = omega arith; few = omega arith; each = good.0; apart = good.1 };
      kinds = kinds_good ks (not_false (file_kinds ks) (when_none (not (file_kinds ks)) (File Kinds) c.0));
    }

-- and legal names and kinds are not refused
names_pass : (k : ℕ) (before names : List ℕ) → All Name names → Apart (before ++ names) → bad_name k (reverse before) names ≡ None
names_pass k before [] all apart = refl
names_pass k before (x ∷ names) all apart =
    let new = (decides_name 0 before x).1 (all.0, apart_absent before x names apart) in
    let more = names_pass (suc k) (before ++ x ∷ []) names all.1 (subst Apart (sym (append_assoc before (x ∷ []) names)) apart) in
    ap (λ b. if b then bad_name (suc k) (x ∷ reverse before) names else Some k) new ∙ sym (ap (λ bs. bad_name (suc k) bs names) (reverse-append before (x ∷ []))) ∙ more

kind_pass : (k : ℕ) → Kind k → kind_byte k ≡ true
kind_pass k h = (decides_within 1 3 k).1 h

kinds_pass : (ks : List ℕ) → LegalKinds ks → file_kinds ks ≡ true
kinds_pass [] h = refl
kinds_pass (k ∷ []) h = kind_pass k h.each.0
kinds_pass (j ∷ k ∷ []) h = ap (λ b. b && kind_byte k && nat_lt j k) (kind_pass j h.each.0) ∙ ap (λ b. b && nat_lt j k) (kind_pass k h.each.1.0) ∙ lt-ltb j k h.rising.0
kinds_pass (i ∷ j ∷ k ∷ ks) h = absurd (let l = h.few in omega arith)

pub never_refused : (ks names : List ℕ) → LegalNames names → LegalKinds ks → first_of (file_faults (length names) ks names) ≡ None
never_refused ks names ns fs =
    ap (λ b. first_of (when (not b) (File (Limit 0)) ∷ option_map (λ k. File (Unallowed k)) (bad_name 1 [] names) ∷ when (not (file_kinds ks)) (File Kinds) ∷ [])) (eq-eqb (length names) (length names) refl)
    ∙ ap (λ o. first_of (option_map (λ k. File (Unallowed k)) o ∷ when (not (file_kinds ks)) (File Kinds) ∷ [])) (names_pass 1 [] names ns.each ns.apart)
    ∙ ap (λ b. first_of (when (not b) (File Kinds) ∷ [])) (kinds_pass ks fs)
