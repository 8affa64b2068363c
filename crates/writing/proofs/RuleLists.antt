-- The rules that are written of a grammar: legal, rising, and found again just where the grammar has them.
--
-- FromRule n r   r is written of the grammar's rule at a symbol below n and a letter
--
-- Assumes nothing.
use Rattle.std.proofs.Common.{◌≡◌, ℕ, zero, suc, ◌+◌, ◌-◌, ◌^◌, ◌<◌, ◌≤◌, List, ◌++◌, length, is_some, Some, None, Option, sym, refl, ap, ap₂, ◌∙◌, subst, inl, inr, arith}
use Rattle.std.specs.Option.{option_map, option_to_list}
use Rattle.grammar.specs.Meaning.{Weighted, Meaning, Letter, Below, WellFormed, word_of}
use Rattle.grammar.proofs.Options.{none_some, some_same}
use Rattle.layout.specs.Contents.{FileRule, All, Rising, After, LegalRule}
use Rattle.layout.specs.Wrong.{LegalRules}
use Rattle.file_grammar.specs.Filed.{rule_at}
use Rattle.survey.specs.Refusals.{Fine}
use Rattle.writing.specs.Files.{entry, rules_at, rules_in}
use Rattle.writing.proofs.Members.{In, gathered, all_members, in_one, one_in, one_short, one_rising, gathered_in, gathered_from, gathered_short, gathered_rising}
use Rattle.writing.proofs.Lookups.{rule_found, rule_finds}

module _ {T : Type 0} (numbers : T → List ℕ) (M : Meaning T) where
  -- the rule at the letter number i, if there is one
  abbrev rule_of : ℕ → ℕ → Option FileRule
  rule_of A i = option_map (entry numbers A (65 + i)) (M.rule A (65 + i))

  at_gathered : (A k : ℕ) → rules_at numbers M A k ≡ gathered (λ i. option_to_list (rule_of A i)) k
  at_gathered A zero = refl
  at_gathered A (suc k) = ap (λ rs. rs ++ option_to_list (rule_of A k)) (at_gathered A k)

  in_gathered : (n : ℕ) → rules_in numbers M n ≡ gathered (λ A. rules_at numbers M A 26) n
  in_gathered zero = refl
  in_gathered (suc n) = ap (λ rs. rs ++ rules_at numbers M n 26) (in_gathered n)

  pub record FromRule (n : ℕ) (r : FileRule) : Type 0 where
    pub symbol : ℕ
    pub letter : ℕ
    pub rule : Weighted T
    pub below : symbol < n
    pub lettered : Letter letter
    pub there : M.rule symbol letter ≡ Some rule
    pub same : r ≡ entry numbers symbol letter rule

  -- a rule at the letter number i
  is_entry : (A i : ℕ) (r : FileRule) → In r (option_to_list (rule_of A i)) → (m : Weighted T) × (M.rule A (65 + i) ≡ Some m) × (r ≡ entry numbers A (65 + i) m)
  is_entry A i r h = go (M.rule A (65 + i)) refl (in_one (rule_of A i) r h)
    where
      go : (o : Option (Weighted T)) → M.rule A (65 + i) ≡ o → option_map (entry numbers A (65 + i)) o ≡ Some r → (m : Weighted T) × (M.rule A (65 + i) ≡ Some m) × (r ≡ entry numbers A (65 + i) m)
      go None e d = absurd (none_some d)
      go (Some m) e d = (m, e, sym (some_same d))

  at_from : (A k : ℕ) (r : FileRule) → In r (rules_at numbers M A k) → (i : ℕ) × (i < k) × In r (option_to_list (rule_of A i))
  at_from A k r h = gathered_from (λ i. option_to_list (rule_of A i)) k r (subst (In r) (at_gathered A k) h)

  at_symbol : (A k : ℕ) (r : FileRule) → In r (rules_at numbers M A k) → r.symbol ≡ A
  at_symbol A k r h = let p = at_from A k r h in ap (λ (q : FileRule). q.symbol) (is_entry A p.0 r p.2).2

  pub rules_from : (n : ℕ) (r : FileRule) → In r (rules_in numbers M n) → FromRule n r
  rules_from n r h =
      let p = gathered_from (λ A. rules_at numbers M A 26) n r (subst (In r) (in_gathered n) h) in
      let q = at_from p.0 26 r p.2 in
      let low = q.1 in
      let e = is_entry p.0 q.0 r q.2 in
      record { symbol = p.0; letter = 65 + q.0; rule = e.0; below = p.1; lettered = (omega arith, omega arith); there = e.1; same = e.2 }

  pub rules_with : (n A a : ℕ) (m : Weighted T) → A < n → Letter a → M.rule A a ≡ Some m → In (entry numbers A a m) (rules_in numbers M n)
  rules_with n A a m l k e =
      let from = k.0 in
      let to = k.1 in
      let at : 65 + (a - 65) ≡ a = omega arith in
      subst (In (entry numbers A a m)) (sym (in_gathered n)) (gathered_in (λ B. rules_at numbers M B 26) n A (entry numbers A a m) l
      (subst (In (entry numbers A a m)) (sym (at_gathered A 26)) (gathered_in (λ i. option_to_list (rule_of A i)) 26 (a - 65) (entry numbers A a m) (omega arith)
      (one_in (rule_of A (a - 65)) (entry numbers A a m) (ap (λ b. option_map (entry numbers A b) (M.rule A b)) at ∙ ap (option_map (entry numbers A a)) e)))))

  at_rising : (A k : ℕ) → Rising After (rules_at numbers M A k)
  at_rising A k =
      subst (Rising After) (sym (at_gathered A k)) (gathered_rising (λ i. option_to_list (rule_of A i)) After (λ i. one_rising After (rule_of A i)) order k)
    where
      order : (i j : ℕ) (x y : FileRule) → i < j → In x (option_to_list (rule_of A i)) → In y (option_to_list (rule_of A j)) → After x y
      order i j x y l h k =
          let d = (is_entry A i x h).2 in
          let e = (is_entry A j y k).2 in
          let low : x.letter ≡ 65 + i = ap (λ (q : FileRule). q.letter) d in
          let high : y.letter ≡ 65 + j = ap (λ (q : FileRule). q.letter) e in
          inr (ap (λ (q : FileRule). q.symbol) d ∙ sym (ap (λ (q : FileRule). q.symbol) e), omega arith)

  pub rules_rising : (n : ℕ) → Rising After (rules_in numbers M n)
  rules_rising n =
      subst (Rising After) (sym (in_gathered n)) (gathered_rising (λ A. rules_at numbers M A 26) After (λ A. at_rising A 26) order n)
    where
      order : (i j : ℕ) (x y : FileRule) → i < j → In x (rules_at numbers M i 26) → In y (rules_at numbers M j 26) → After x y
      order i j x y l h k = let d = at_symbol i 26 x h in let e = at_symbol j 26 y k in inl (omega arith)

  rules_few : (n : ℕ) → n ≤ 32 → length (rules_in numbers M n) ≤ 832
  rules_few n l =
      let all = gathered_short (λ A. rules_at numbers M A 26) 26 at_few n in
      let same = ap length (in_gathered n) in
      omega arith
    where
      at_few : (A : ℕ) → length (rules_at numbers M A 26) ≤ 26
      at_few A =
          let all = gathered_short (λ i. option_to_list (rule_of A i)) 1 (λ i. one_short (rule_of A i)) 26 in
          let same = ap length (at_gathered A 26) in
          omega arith

  module _ (F : WellFormed M) where
    -- just the grammar's rules are found
    pub rules_back : (A a : ℕ) → rule_at A a (rules_in numbers M M.count) ≡ option_map (entry numbers A a) (M.rule A a)
    rules_back A a = go (M.rule A a) refl
      where
        go : (o : Option (Weighted T)) → M.rule A a ≡ o → rule_at A a (rules_in numbers M M.count) ≡ option_map (entry numbers A a) o
        go None e = none (rule_at A a (rules_in numbers M M.count)) refl
          where
            none : (o : Option FileRule) → rule_at A a (rules_in numbers M M.count) ≡ o → o ≡ None
            none None d = refl
            none (Some r) d =
                let f = rule_found A a (rules_in numbers M M.count) r d in
                let q = rules_from M.count r f.member in
                let symbol : q.symbol ≡ A = sym (ap (λ (r : FileRule). r.symbol) q.same) ∙ f.symbol in
                let letter : q.letter ≡ a = sym (ap (λ (r : FileRule). r.letter) q.same) ∙ f.letter in
                absurd (none_some (sym e ∙ ap₂ (λ B b. M.rule B b) (sym symbol) (sym letter) ∙ q.there))
        go (Some m) e =
            rule_finds (rules_in numbers M M.count) (entry numbers A a m) (rules_rising M.count)
            (rules_with M.count A a m (F.counted A a (ap is_some e)) (F.lettered A a (ap is_some e)) e)

  module _ (F : WellFormed M) (fine : (A a : ℕ) → Fine M.count M A a) (few : M.count ≤ 32) (ks : List ℕ) (size : (x : T) → length (numbers x) ≡ length ks) (small : (x : T) → All (λ n. n < 2 ^ 32) (numbers x)) where
    entry_legal : (A a : ℕ) (m : Weighted T) → A < M.count → Letter a → M.rule A a ≡ Some m → LegalRule M.count (length ks) (entry numbers A a m)
    entry_legal A a m l k e = record {
      symbol = l;
      letter = k;
      size = size m.tally;
      numbers = small m.tally;
      short = subst (λ o. length (word_of o) ≤ 4) e (fine A a).short;
      word = subst (λ o. Below M.count (word_of o)) e (fine A a).known;
    }

    pub rules_legal : LegalRules M.count (length ks) (rules_in numbers M M.count)
    rules_legal = record { few = rules_few M.count few; each = all_members (LegalRule M.count (length ks)) (rules_in numbers M M.count) each; rising = rules_rising M.count }
      where
        each : (r : FileRule) → In r (rules_in numbers M M.count) → LegalRule M.count (length ks) r
        each r h = let q = rules_from M.count r h in subst (LegalRule M.count (length ks)) (sym q.same) (entry_legal q.symbol q.letter q.rule q.below q.lettered q.there)
