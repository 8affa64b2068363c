use Rattle.std.proofs.Common.{◌<◌, ◌^◌, ◌∷◌, [], length, decimal, slice_index, ap, arith}
use Rattle.format.proofs.Writes.{wrote_then}
use Rattle.listing.proofs.Parts.{wrote_as, line_parts}
use Rattle.listing.proofs.lines.line_into.Goals as goal

pub returns : goal.returns
returns c =
    let names = c.args.names.now in
    let room : length c.args.out.now < 2 ^ 64 = omega arith in
    let name = wrote_as (ap (λ b. b ∷ 32 ∷ []) c.name_of.ensures) c.put-at.ensures in
    let norm = wrote_then room name (wrote_as (ap decimal c.from.ensures) c.number_into-at.ensures.wrote) in
    let end = wrote_as (ap (λ b. 32 ∷ b ∷ 10 ∷ []) c.name_of-2.ensures) c.put.ensures in
    wrote_as (line_parts (slice_index names c.args.symbol) (slice_index names c.args.smallest) (decimal c.args.norm)) (wrote_then room norm end)
