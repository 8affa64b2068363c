use Rattle.std.proofs.Common.{◌<◌, ◌^◌, ◌∙◌, length, arith, length-set}
use Rattle.survey.specs.Surveyed.{norm_in}
use Rattle.listing.proofs.Told.{norm_told, one_more, all_told}
use Rattle.listing.proofs.listing.lines_into.Goals as goal

pub loop-symbol-preserved : goal.loop-symbol-preserved
loop-symbol-preserved g c = record {
  room = length-set c.loop-symbol.found c.from.result c.smallest-least.result ∙ c.loop-symbol.invariant.room;
  told = λ s led count.
      let 𝓣 = g.T.Tally.group in
      let here = c.loop-symbol.invariant.told s led count in
      let k = c.loop-symbol.symbol in
      let known : k < s.skeleton.words.count = omega arith in
      let told = c.smallest-least.ensures s here.0 known here.1 in
      let norm = norm_told s.skeleton.words.count (norm_in s k) k c.norm.result c.unwrap_or-norm.result known (c.norm.ensures.over s told.0.over) c.unwrap_or-norm.ensures in
      let room : length c.args.out.now < 2 ^ 64 = omega arith in
      let more = one_more 𝓣 s c.args.names.now c.loop-symbol.found k c.smallest-least.result c.from.result c.unwrap_or-norm.result c.from.ensures (omega arith) norm here.1 told.1
      c.args.out.now c.loop-symbol.out c.line_into-at.new.out c.loop-symbol.at c.line_into-at.result room here.2 c.line_into-at.ensures in
      (told.0, more.0, more.1);
}

pub returns : goal.returns
returns g c = λ s led count.
    let here = c.loop-symbol.invariant.told s led count in
    (_, all_told g.T.Tally.group s c.args.names.now c.loop-symbol.found c.loop-symbol.symbol (omega arith) (omega arith) here.1, here.2)
