use Rattle.std.proofs.Common.{◌∙◌, ℕ, ltb, ap, sym, subst, arith, rules, tests}
use Rattle.std.proofs.lemmas.List.Sorted.{IsPartitionedBy-ltb, IsPartitionPoint-from_clause}
use Rattle.call_table.specs.Held.{Rises, place}
use Rattle.call_table.proofs.PlaceLemmas.{map_same, never_falls, place_from_partition}
use Rattle.call_table.proofs.groups.place_of.Goals as goal

pub returns-clause-place : goal.returns-clause-place
returns-clause-place c =
    let places = c.args.places.now.items in
    let key = λ (x : ℕ). x in
    let point = IsPartitionPoint-from_clause (λ x. ltb x c.args.member) places c.partition_point.result c.partition_point.ensures.partitioned (IsPartitionedBy-ltb key places c.args.member (never_falls key places (subst Rises (sym (map_same places)) c.requires))) (λ a r f called. search (rules, tests)) in
    place_from_partition key c.args.member places c.partition_point.result (omega (arith, c.partition_point.ensures.bound, c.args.places.now.ok.0)) point.0 point.1
    ∙ ap (place c.args.member) (map_same places)
