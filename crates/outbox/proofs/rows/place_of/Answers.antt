use Rattle.std.proofs.Common.{ltb, arith, rules, tests, length, get_or, suc, ◌≡◌, ◌≤◌, ◌<◌, ◌-◌, ◌∙◌, ap, map}
use Rattle.std.proofs.lemmas.List.Sorted.{IsPartitionedBy-ltb, IsPartitionPoint-from_clause}
use Rattle.outbox.proofs.PlaceLemmas.{never_falls, place_behind, place_from_partition, place_in_front}
use Rattle.outbox.specs.Places.{place}
use Rattle.outbox.proofs.rows.place_of.Goals as goal

pub returns-clause-place : goal.returns-clause-place
returns-clause-place g c =
    let key = g.T.Keyed.key_of in
    let entries = c.args.entries.now.items in
    let point = IsPartitionPoint-from_clause (λ x. ltb (key x) c.args.key) entries c.partition_point.result c.partition_point.ensures.partitioned (IsPartitionedBy-ltb key entries c.args.key (never_falls key entries c.requires)) (λ a r f called. search (rules, tests)) in
    place_from_partition key c.args.key entries c.partition_point.result (omega (arith, c.partition_point.ensures.bound, c.args.entries.now.ok.0)) point.0 point.1

pub returns-then-key-clause-place : goal.returns-then-key-clause-place
returns-then-key-clause-place g c =
    let key = g.T.Keyed.key_of in
    let entries = c.args.entries.now.items in
    let long : length entries ≡ suc (c.len-count.result - 1) = omega (arith, c.args.entries.now.ok.0, c.len-count.ensures, c.if-count-eq0.false) in
    let same : c.key.result ≡ key (get_or entries (c.len-count.result - 1) c.index.result.now) = c.key.ensures ∙ ap key c.index.ensures in
    let last : key (get_or entries (c.len-count.result - 1) c.index.result.now) < c.args.key = omega (arith, same, c.if-key.true) in
    let behind : suc (c.len-count.result - 1) ≡ place c.args.key (map key entries) = place_behind key c.args.key entries (c.len-count.result - 1) c.index.result.now c.requires long last in
    omega (arith, behind, c.if-count-eq0.false)

pub returns-then-key-2-clause-place : goal.returns-then-key-2-clause-place
returns-then-key-2-clause-place g c =
    let key = g.T.Keyed.key_of in
    let entries = c.args.entries.now.items in
    let same : c.key-2.result ≡ key (get_or entries 0 c.index-2.result.now) = c.key-2.ensures ∙ ap key c.index-2.ensures in
    let first : c.args.key ≤ key (get_or entries 0 c.index-2.result.now) = omega (arith, same, c.if-key-2.true) in
    place_in_front key c.args.key entries c.index-2.result.now (omega (arith, c.args.entries.now.ok.0, c.len-count.ensures, c.if-count-eq0.false)) first
