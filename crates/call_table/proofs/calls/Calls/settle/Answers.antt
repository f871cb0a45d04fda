use Rattle.std.proofs.Common.{◌≡◌, ◌∙◌, ◌-◌, ◌<◌, None, List, length, ap, sym, arith}
use Rattle.call_table.specs.declared.row.Row.{Row}
use Rattle.call_table.specs.Table.{settled, changed_at}
use Rattle.call_table.specs.Kept.{Contents, number_in, settled_row}
use Rattle.call_table.specs.Held.{number_at}
use Rattle.call_table.proofs.IndexLemmas.{indexed_settled}
use Rattle.call_table.proofs.StandsLemmas.{row_settled, stands_changed}
use Rattle.call_table.proofs.HeldLemmas.{groups_rise, groups_fit, held_set, number_own, number_settled, kept_changed}
use Rattle.call_table.proofs.calls.Calls.settle.Goals as goal

pub enter-requires-clause-ascending : goal.enter-requires-clause-ascending
enter-requires-clause-ascending c = groups_rise c.self.inside.rows.items c.self.inside.names.items c.self.inside.groups c.self.inside.acks.capacity c.self.inside.packets.capacity c.self.invariant.0

pub enter-requires-clause-room : goal.enter-requires-clause-room
enter-requires-clause-room c = groups_fit c.self.inside.rows.items c.self.inside.names.items c.self.inside.groups c.self.inside.acks.capacity c.self.inside.packets.capacity c.self.invariant.0

pub invariant_of-self : goal.invariant_of-self
invariant_of-self c =
    let rows = c.self.inside.rows.items in
    let k = c.place_of-place.result in
    let row = c.index_mut-row.result.now in
    let within : c.place_of-place.result < length c.self.inside.rows.items = omega (arith, c.place_of-place.ensures, c.requires.given.0, c.requires.given.1, ap (λ (kept : Contents). length kept.rows) c.self.view_is) in
    let y : Row = c.settle.new.self in
    let own : number_at k rows ≡ c.number.result = number_own rows k row within c.index_mut-row.ensures.value ∙ sym c.number.ensures in
    let none : number_in y.progress ≡ None = ap (λ (r : Row). number_in r.progress) c.settle.ensures ∙ number_settled c.args.fate in
    let indexed = indexed_settled rows c.self.inside.names.items k y c.number.result within own none c.self.invariant.0.indexed in
    (held_set c.self.inside.rows.items c.self.inside.names.items c.self.inside.groups c.self.inside.acks.capacity c.self.inside.packets.capacity c.self.invariant.0 k row y c.forget.new.names.items c.enter.new.self within c.index_mut-row.ensures.value (ap (λ (r : Row). r.after) c.settle.ensures) c.enter.ensures.placed c.enter.ensures.capacity (rw c.forget.ensures.left indexed) (λ _. ap (λ (r : Row). r.flags) c.settle.ensures), omega (arith, c.forget.ensures.fewer, c.forget.ensures.capacity, c.self.invariant.1))

pub returns-clause-kept : goal.returns-clause-kept
returns-clause-kept c =
    let rows = c.self.inside.rows.items in
    let k = c.place_of-place.result in
    let row = c.index_mut-row.result.now in
    let within : c.place_of-place.result < length c.self.inside.rows.items = omega (arith, c.place_of-place.ensures, c.requires.given.0, c.requires.given.1, ap (λ (kept : Contents). length kept.rows) c.self.view_is) in
    let y : Row = c.settle.new.self in
    let made : y ≡ settled_row c.args.fate row = c.settle.ensures in
    let done = kept_changed (settled_row c.args.fate) rows c.args.self.now (c.args.call.n - 1) k row y (ap (λ (kept : Contents). kept.rows) c.self.view_is) c.place_of-place.ensures within c.index_mut-row.ensures.value made in
    ap (λ (rs : List Row). record { rows = rs; acks = c.self.inside.acks.items; packets = c.self.inside.packets.items; room = c.self.inside.reserved }) done
    ∙ ap (λ (kept : Contents). record { rows = changed_at (c.args.call.n - 1) (settled_row c.args.fate) c.args.self.now.rows; acks = kept.acks; packets = kept.packets; room = kept.room }) c.self.view_is

pub returns-clause-stands : goal.returns-clause-stands
returns-clause-stands c = λ table stands.
    stands_changed (c.args.call.n - 1) (settled_row c.args.fate) (settled c.args.fate) (row_settled c.args.fate) c.args.self.now _ table
    (ap (λ (kept : Contents). kept.rows) (returns-clause-kept c)) (ap (λ (kept : Contents). kept.acks) (returns-clause-kept c)) (ap (λ (kept : Contents). kept.packets) (returns-clause-kept c)) stands
