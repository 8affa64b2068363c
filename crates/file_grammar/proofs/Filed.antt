-- The table of a checked file means what the file holds. Assumes nothing.
use Rattle.std.proofs.Common.{◌≡◌, ℕ, ◌<◌, ◌≤◌, min, Bool, true, false, cond, ◌&&◌, ltb, leb, List, length, get_or, Some, None, Ok, Option, sym, refl, ap, ◌∙◌, arith, ltb-true, lt-ltb, le-leb, leb-true}
use borrow.Author.Tests.{both_ways}
use Rattle.std.proofs.lemmas.Bool.{and_parts, and_from}
use Rattle.std.specs.Option.{option_map}
use Rattle.grammar.specs.Listed.{letter}
use Rattle.layout.specs.Contents.{FileRule, Contents, LegalRule, Legal}
use Rattle.file_grammar.specs.Filed.{rule_at, weighed, held}
use Rattle.file_grammar.specs.Placed.{Tables}
use Rattle.grammar.specs.Places.{index}
use Rattle.file_grammar.specs.Tabled.{rule_of, from_place, tabled}
use Rattle.file_grammar.specs.declared.rule_table.RuleTable.{RuleTable}
use Rattle.file_grammar.proofs.Placing.{rule_at_none}

module _ {T : Type 0} (made : ℕ → ℕ → T) (t : RuleTable) (c : Contents) (h : Legal c) (says : Tables t c) where
  -- the two counts
  same_count : min 255 t.count ≡ length c.names
  same_count = let few = h.few in let e = says.count in omega arith

  -- the two rules, by the test of symbol and letter
  same_rule : (A a : ℕ) → (tabled made t).rule A a ≡ (held made (Ok c)).rule A a
  same_rule A a = at (ltb A (min 255 t.count) && letter a) refl
    where
      at : (b : Bool) → (ltb A (min 255 t.count) && letter a) ≡ b → option_map (λ bs. weighed made (rule_of t.kinds bs)) (cond b (from_place t.rules.now (get_or t.places (index A a) 0)) None) ≡ option_map (weighed made) (rule_at A a c.rules)
      at true e =
          let p = and_parts (ltb A (min 255 t.count)) (letter a) e in
          let l = and_parts (leb 65 a) (leb a 90) p.1 in
          let below = ltb-true A (min 255 t.count) p.0 in
          let few = h.few in
          let n = same_count in
          let small : A < 32 = omega arith in
          twice (from_place t.rules.now (get_or t.places (index A a) 0)) ∙ ap (option_map (weighed made)) (says.places A a small (leb-true 65 a l.0, leb-true a 90 l.1))
        where
          twice : (o : Option (List ℕ)) → option_map (λ bs. weighed made (rule_of t.kinds bs)) o ≡ option_map (weighed made) (option_map (rule_of t.kinds) o)
          twice (Some bs) = refl
          twice None = refl
      at false e = sym (ap (option_map (weighed made)) (rule_at_none A a (LegalRule (length c.names) (length c.kinds)) other c.rules h.rules))
        where
          other : (r : FileRule) → LegalRule (length c.names) (length c.kinds) r → ¬ ((r.symbol ≡ A) × (r.letter ≡ a))
          other r k q =
              let n = same_count in
              let s = k.symbol in
              let low = k.letter.0 in
              let high = k.letter.1 in
              let at_A = q.0 in
              let at_a = q.1 in
              let below : A < min 255 t.count = omega arith in
              let from : 65 ≤ a = omega arith in
              let to : a ≤ 90 = omega arith in
              both_ways (ltb A (min 255 t.count) && letter a) e (and_from (ltb A (min 255 t.count)) (letter a) (lt-ltb A (min 255 t.count) below) (and_from (leb 65 a) (leb a 90) (le-leb 65 a from) (le-leb a 90 to)))

  -- the two meanings, by their parts
  pub same_meaning : tabled made t ≡ held made (Ok c)
  same_meaning = λ i. record { count = same_count i; rule = λ A a. same_rule A a i }
