use Rattle.std.proofs.Common.{◌≡◌, ◌++◌, drop, vec_items}
use Rattle.asking.specs.Texts.{word_text}
use Rattle.asking.proofs.labels.Labels.push_word.Given as goal

abbrev pub invariant-loop-symbol : goal.invariant-loop-symbol
invariant-loop-symbol l = vec_items l.text ++ word_text l.self (drop l.symbol-index l.word) ≡ vec_items l.fn.text ++ word_text l.self l.word
