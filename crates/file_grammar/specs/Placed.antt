-- What a table has to say of a file's rules.
--
-- RulesOf k bs rs      bs encode the legal rules rs, each with k numbers
-- Placed k bs rs ps    at each symbol and letter ps has the place of the rule of rs in bs
-- Tables t c           the table t is that of the contents c
--
-- Assumes nothing.
use Rattle.std.specs.Prelude.{◌≡◌, ℕ, ◌<◌, ◌≤◌, List, length, slice_index}
use Rattle.std.specs.Option.{option_map}
use Rattle.grammar.specs.Meaning.{Letter}
use Rattle.layout.specs.Contents.{FileRule, Contents, joined, rule_bytes}
use Rattle.layout.specs.Wrong.{LegalRules}
use Rattle.file_grammar.specs.Filed.{rule_at}
use Rattle.grammar.specs.Places.{index}
use Rattle.file_grammar.specs.Tabled.{rule_of, from_place}
use Rattle.file_grammar.specs.declared.rule_table.RuleTable.{RuleTable}

pub record RulesOf (k : ℕ) (bs : List ℕ) (rs : List FileRule) : Type 0 where
  pub symbols : ℕ
  pub few : symbols ≤ 32
  pub legal : LegalRules symbols k rs
  pub bytes : bs ≡ joined rule_bytes rs

abbrev pub Placed : ℕ → List ℕ → List FileRule → List ℕ → Type 0
Placed k bs rs ps = (A a : ℕ) → A < 32 → Letter a → option_map (rule_of k) (from_place bs (slice_index ps (index A a))) ≡ rule_at A a rs

pub record Tables (t : RuleTable) (c : Contents) : Type 0 where
  pub count : t.count ≡ length c.names
  pub kinds : t.kinds ≡ length c.kinds
  pub places : Placed t.kinds t.rules.now c.rules t.places
