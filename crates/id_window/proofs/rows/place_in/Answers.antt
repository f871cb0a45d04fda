use Rattle.std.proofs.Common.{ltb, arith, rules, tests}
use Rattle.std.proofs.lemmas.List.Sorted.{IsPartitionedBy-ltb, IsPartitionPoint-from_clause}
use Rattle.id_window.proofs.PlaceLemmas.{never_falls, place_from_partition}
use Rattle.id_window.proofs.rows.place_in.Goals as goal

pub returns-clause-place : goal.returns-clause-place
returns-clause-place g c =
    let key = g.T.Numbered.number_of in
    let entries = c.args.entries.now in
    let point = IsPartitionPoint-from_clause (λ x. ltb (key x) c.args.number) entries c.partition_point.result c.partition_point.ensures.partitioned (IsPartitionedBy-ltb key entries c.args.number (never_falls key entries c.requires)) (λ a r f called. search (rules, tests)) in
    place_from_partition key c.args.number entries c.partition_point.result c.partition_point.ensures.bound point.0 point.1
