use Rattle.std.proofs.Common.{◌≡◌, ℕ, ◌<◌, ◌≤◌, leb, true, false, sym, ◌∙◌, inl, inr, arith, rules, tests}
use Rattle.std.proofs.lemmas.Bool.Decides.{leb_tells}
use Rattle.std.proofs.lemmas.List.Sorted.{IsPartitionedBy-leb, IsPartitionPoint-from_clause}
use Rattle.sim_server.specs.declared.bag.Batch.{Batch}
use Rattle.sim_server.proofs.BagLemmas.{begun-all, later-all, rises}
use Rattle.sim_server.proofs.bag.begun_by.Goals as goal

is-le : (one other : ℕ) → leb one other ≡ true → one ≤ other
is-le one other so = elim (leb_tells one other) [ inl told ↦ told.1 | inr told ↦ absurd (let no : true ≡ false = sym so ∙ told.0 in cc) ]

is-more : (one other : ℕ) → leb one other ≡ false → other < one
is-more one other so = elim (leb_tells one other) [ inl told ↦ absurd (let no : false ≡ true = sym so ∙ told.0 in cc) | inr told ↦ told.1 ]

pub returns-clause-begun : goal.returns-clause-begun
returns-clause-begun c = λ k d below.
    let batches = c.args.batches.now in
    let point = IsPartitionPoint-from_clause (λ (batch : Batch). leb batch.before c.args.place) batches c.partition_point.result c.partition_point.ensures.partitioned
    (IsPartitionedBy-leb (λ (batch : Batch). batch.before) batches c.args.place (rises 0 batches c.requires)) (λ a r f called. search (rules, tests)) in
    is-le _ _ (point.0 k d (omega arith) below)

pub returns-clause-later : goal.returns-clause-later
returns-clause-later c = λ k d least below.
    let batches = c.args.batches.now in
    let point = IsPartitionPoint-from_clause (λ (batch : Batch). leb batch.before c.args.place) batches c.partition_point.result c.partition_point.ensures.partitioned
    (IsPartitionedBy-leb (λ (batch : Batch). batch.before) batches c.args.place (rises 0 batches c.requires)) (λ a r f called. search (rules, tests)) in
    is-more _ _ (point.1 k d least below)

pub returns-then-is_begun_by-clause-begun : goal.returns-then-is_begun_by-clause-begun
returns-then-is_begun_by-clause-begun c =
    begun-all c.args.batches.now _ c.args.place c.requires (omega arith) (omega arith) (c.is_begun_by.ensures.begun c.if-is_begun_by.true)

pub returns-then-is_begun_by-clause-later : goal.returns-then-is_begun_by-clause-later
returns-then-is_begun_by-clause-later c =
    later-all c.args.batches.now _ c.args.place c.requires (c.is_begun_by.ensures.later c.if-is_begun_by.true)
