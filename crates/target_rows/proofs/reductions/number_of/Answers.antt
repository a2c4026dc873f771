use Rattle.std.proofs.Common.{◌≡◌, ◌<◌, ◌+◌, length, sym, ap, arith, rules}
use Rattle.std.specs.Prelude.{nat_lt}
use Rattle.std.proofs.lemmas.List.Sorted.{IsPartitionPoint-from_clause}
use Rattle.relation_pick.proofs.Places.{at_place_of, count_at, partitioned, place_of}
use Rattle.target_rows.proofs.reductions.number_of.Goals as goal

pub overflow_add-result : goal.overflow_add-result
overflow_add-result c =
    let point = IsPartitionPoint-from_clause (λ other. nat_lt other c.args.place) c.args.written.now c.partition_point.result c.partition_point.ensures.partitioned
    (partitioned c.args.written.now c.args.place c.requires.ascends) (λ a r q k. search rules) in
    let counted : place_of c.args.written.now c.args.place ≡ c.partition_point.result = count_at (λ other. nat_lt other c.args.place) c.args.written.now c.partition_point.result c.partition_point.ensures.bound point.0 point.1 in
    let within : place_of c.args.written.now c.args.place < length c.args.written.now = (at_place_of c.args.written.now c.args.place c.requires.ascends c.requires.listed).0 in
    omega (arith, counted, within, c.requires.few)

pub returns : goal.returns
returns c =
    let point = IsPartitionPoint-from_clause (λ other. nat_lt other c.args.place) c.args.written.now c.partition_point.result c.partition_point.ensures.partitioned
    (partitioned c.args.written.now c.args.place c.requires.ascends) (λ a r q k. search rules) in
    ap (λ n. n + 1) (sym (count_at (λ other. nat_lt other c.args.place) c.args.written.now c.partition_point.result c.partition_point.ensures.bound point.0 point.1))
