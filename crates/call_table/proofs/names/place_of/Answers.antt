use Rattle.std.proofs.Common.{ltb, arith, rules, tests}
use Rattle.std.proofs.lemmas.List.Sorted.{IsPartitionedBy-ltb, IsPartitionPoint-from_clause}
use Rattle.call_table.proofs.PlaceLemmas.{number_of, never_falls, place_from_partition}
use Rattle.call_table.proofs.names.place_of.Goals as goal

pub returns-clause-place : goal.returns-clause-place
returns-clause-place c =
    let names = c.args.names.now.items in
    let point = IsPartitionPoint-from_clause (λ x. ltb (number_of x) c.args.number) names c.partition_point.result c.partition_point.ensures.partitioned (IsPartitionedBy-ltb number_of names c.args.number (never_falls number_of names c.requires)) (λ a r f called. search (rules, tests)) in
    place_from_partition number_of c.args.number names c.partition_point.result (omega (arith, c.partition_point.ensures.bound, c.args.names.now.ok.0)) point.0 point.1
