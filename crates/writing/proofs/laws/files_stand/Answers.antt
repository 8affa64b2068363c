use Rattle.writing.proofs.Examples.{examples}
use Rattle.writing.proofs.Surveyed.{survey_law, survey_taken}
use Rattle.writing.proofs.laws.files_stand.Goals as goal

pub returns : goal.returns
returns g c = record {
  law = λ s V names some. survey_law g.T.Tally.group s some g.T.FileTally.kinds g.T.FileTally.numbers g.T.FileTally.made g.T.FileTally.lossless V names;
  taken = λ s V names. survey_taken g.T.Tally.group s g.T.FileTally.kinds g.T.FileTally.numbers names V;
  examples = examples;
}
