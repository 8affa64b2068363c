use Rattle.std.proofs.Common.{◌<◌, ◌≤◌, ◌^◌, length, codes, decimal, ap, subst, arith}
use Rattle.format.proofs.Writes.{wrote_then}
use Rattle.listing.proofs.Parts.{wrote_as, refusal_parts, refusal_short}
use Rattle.listing.proofs.lines.refusal_into.Goals as goal

pub returns-clause-wrote : goal.returns-clause-wrote
returns-clause-wrote c =
    let k = c.args.code in
    let room : length c.args.out.now < 2 ^ 64 = omega arith in
    let number = wrote_then room c.put-at.ensures (wrote_as (ap decimal c.from.ensures) c.number_into-at.ensures.wrote) in
    let first = wrote_then room (wrote_then room number c.put-at-2.ensures) c.number_into-at-2.ensures.wrote in
    let second = wrote_then room (wrote_then room first c.put-at-3.ensures) c.number_into-at-3.ensures.wrote in
    wrote_as (refusal_parts (codes "refused ") (decimal k.number) (decimal k.first) (decimal k.second)) (wrote_then room second c.put.ensures)

pub returns-clause-short : goal.returns-clause-short
returns-clause-short c =
    let a : length (decimal c.args.code.number) ≤ 20 = subst (λ n. length (decimal n) ≤ 20) c.from.ensures c.number_into-at.ensures.short in
    refusal_short c.args.code a c.number_into-at-2.ensures.short c.number_into-at-3.ensures.short
