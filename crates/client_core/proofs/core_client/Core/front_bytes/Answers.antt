use Rattle.std.proofs.Common.{◌∙◌, ◌+◌, ◌-◌, ℕ, Some, length, ap, refl, sym, subst, arith}
use Rattle.call_table.specs.declared.call.Group.TheVariants as group
use Rattle.call_table.specs.Table.{places_from}
use Rattle.call_table.specs.Kept.{is_row_in}
use Rattle.client_core.specs.Kept.{Contents}
use Rattle.client_core.specs.Owed.{follows_at}
use Rattle.client_core.proofs.FrontLemmas.{IsCounted, counted_all, counted_many, counted_next, counted_none, counted_out, none_queued, queued_at}
use Rattle.client_core.proofs.core_client.Core.front_bytes.Goals as goal

pub loop-k-init : goal.loop-k-init
loop-k-init c = record { counted = counted_none _; few = omega arith; some = omega arith }

pub overflow_add-bytes : goal.overflow_add-bytes
overflow_add-bytes c = omega (arith, c.loop-k.invariant.few, c.call_bytes-bytes.ensures.few)

pub loop-k-preserved : goal.loop-k-preserved
loop-k-preserved c =
    let rows = c.args.self.now.calls.rows in
    let there = queued_at _ c.args.self.now c.loop-k.k c.in-Some.call c.self.view_is c.in-Some.ensures.kept in
    let next = counted_next rows c.in-Some.call c.loop-k.k c.loop-k.left c.loop-k.bytes c.call_bytes-bytes.result c.follows.result c.loop-k.invariant.some there
    c.call_bytes-bytes.ensures.bytes c.follows.ensures c.loop-k.invariant.counted in
    record {
      counted = subst (λ (n : ℕ). IsCounted rows (c.loop-k.k + 1) n (c.loop-k.bytes + c.call_bytes-bytes.result)) (sym c.left_behind-left.ensures) next;
      few = omega (arith, c.if-bytes-ge-CONTAINER_BYTES_MAX.false);
      some = omega (arith, c.if-left-eq0.false);
    }

pub returns-then-bytes-ge-CONTAINER_BYTES_MAX : goal.returns-then-bytes-ge-CONTAINER_BYTES_MAX
returns-then-bytes-ge-CONTAINER_BYTES_MAX c =
    let rows = c.args.self.now.calls.rows in
    let there = queued_at _ c.args.self.now c.loop-k.k c.in-Some.call c.self.view_is c.in-Some.ensures.kept in
    let next = counted_next rows c.in-Some.call c.loop-k.k c.loop-k.left c.loop-k.bytes c.call_bytes-bytes.result (follows_at rows (Some (c.in-Some.call.n - 1))) c.loop-k.invariant.some there
    c.call_bytes-bytes.ensures.bytes refl c.loop-k.invariant.counted in
    omega (arith, counted_many rows _ _ _ (omega (arith, c.if-bytes-ge-CONTAINER_BYTES_MAX.true)) next)

pub returns-then-left-eq0 : goal.returns-then-left-eq0
returns-then-left-eq0 c =
    let rows = c.args.self.now.calls.rows in
    let there = queued_at _ c.args.self.now c.loop-k.k c.in-Some.call c.self.view_is c.in-Some.ensures.kept in
    let next = counted_next rows c.in-Some.call c.loop-k.k c.loop-k.left c.loop-k.bytes c.call_bytes-bytes.result c.follows.result c.loop-k.invariant.some there
    c.call_bytes-bytes.ensures.bytes c.follows.ensures c.loop-k.invariant.counted in
    omega (arith, counted_out rows _ _ _ (omega (arith, c.left_behind-left.ensures, c.if-left-eq0.true)) next, c.if-bytes-ge-CONTAINER_BYTES_MAX.false)

pub returns-in_default : goal.returns-in_default
returns-in_default c =
    let none = none_queued _ c.args.self.now c.loop-k.k c.self.view_is (sym c.in_default.is ∙ c.member.ensures.kept) in
    omega (arith, counted_all c.args.self.now.calls.rows c.loop-k.k c.loop-k.left c.loop-k.bytes none c.loop-k.invariant.counted, c.loop-k.invariant.few)

pub returns : goal.returns
returns c =
    let all = ap (λ (core : Contents). length (places_from (is_row_in group.Queued) 0 core.calls.rows)) c.self.view_is in
    omega (arith, counted_all c.args.self.now.calls.rows c.loop-k.k c.loop-k.left c.loop-k.bytes (omega (arith, c.members-k-end.ensures.kept, all, c.loop-k-test.false)) c.loop-k.invariant.counted, c.loop-k.invariant.few)
