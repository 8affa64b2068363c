-- The words of the rules that a table holds. Assumes nothing.
use Rattle.norm.specs.Words.{Words}
use Rattle.norm.specs.Tabled.{stored}
use Rattle.norm.specs.declared.rule_words.RuleWords.{RuleWords}

abbrev pub rules_of : RuleWords → Words
rules_of t = stored t.count t.words
