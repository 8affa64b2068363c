use Rattle.std.proofs.Common.{◌∙◌}
use Rattle.file_grammar.proofs.Decoded.{number_read, number_found, numbers_beyond}
use Rattle.file_grammar.proofs.rule_bytes.RuleBytes.number.Goals as goal

pub returns-then-at-self : goal.returns-then-at-self
returns-then-at-self c = numbers_beyond c.args.self.now.kinds c.args.at _ c.if-at-self.true

pub returns : goal.returns
returns c =
    let bs = c.args.self.now.bytes.now in
    c.from_be_bytes.ensures ∙ number_read c.args.at bs _ _ _ _ _ c.from.ensures c.byte.ensures c.byte-2.ensures c.byte-3.ensures c.byte-4.ensures
    ∙ number_found c.args.self.now.kinds c.args.at bs c.if-at-self.false
