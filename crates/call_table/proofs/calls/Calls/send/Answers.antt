use Rattle.std.proofs.Common.{◌≡◌, ◌∙◌, ◌-◌, ◌<◌, None, List, length, ap, sym, subst, refl, arith}
use Rattle.std.specs.List.{AllByRecursion}
use Rattle.call_table.specs.declared.row.Row.{Row}
use Rattle.call_table.specs.declared.names.Named.{Named}
use Rattle.call_table.specs.Table.{Queued, sent, changed_at}
use Rattle.call_table.specs.Kept.{Contents, IsBelow, number_in, state_of, sent_row}
use Rattle.call_table.specs.Held.{number_at}
use Rattle.call_table.proofs.IndexLemmas.{indexed_sent}
use Rattle.call_table.proofs.StandsLemmas.{row_sent, stands_changed}
use Rattle.call_table.proofs.HeldLemmas.{groups_rise, groups_fit, held_set, number_queued, kept_changed, row_told, sent_unmarked}
use Rattle.call_table.proofs.calls.Calls.send.Goals as goal

pub enter-requires-clause-ascending : goal.enter-requires-clause-ascending
enter-requires-clause-ascending c = groups_rise c.self.inside.rows.items c.self.inside.names.items c.self.inside.groups c.self.inside.acks.capacity c.self.inside.packets.capacity c.self.invariant.0

pub enter-requires-clause-room : goal.enter-requires-clause-room
enter-requires-clause-room c = groups_fit c.self.inside.rows.items c.self.inside.names.items c.self.inside.groups c.self.inside.acks.capacity c.self.inside.packets.capacity c.self.invariant.0

pub invariant_of-self : goal.invariant_of-self
invariant_of-self c =
    let rows = c.self.inside.rows.items in
    let k = c.place_of-place.result in
    let row = c.index_mut-row.result.now in
    let within : c.place_of-place.result < length c.self.inside.rows.items = omega (arith, c.place_of-place.ensures, c.requires.given.0, c.requires.given.1, ap (λ (kept : Contents). length kept.rows) c.self.view_is) in
    let queued : state_of row.progress ≡ Queued = row_told (λ (r : Row). state_of r.progress) Queued c.args.self.now rows (c.args.call.n - 1) k row (ap (λ (kept : Contents). kept.rows) c.self.view_is) c.place_of-place.ensures within c.index_mut-row.ensures.value c.requires.queued in
    let none : number_at k rows ≡ None = number_queued rows k row within c.index_mut-row.ensures.value queued in
    let below : AllByRecursion (IsBelow c.args.living.number) rows = subst (λ (kept : Contents). AllByRecursion (IsBelow c.args.living.number) kept.rows) (sym c.self.view_is) c.requires.above in
    let one : Named = record { number = c.args.living.number; place = k } in
    let y : Row = c.send.new.self in
    let indexed = indexed_sent rows c.self.inside.names.items k y one refl within none (ap (λ (r : Row). number_in r.progress) c.send.ensures) below c.self.invariant.0.indexed in
    (held_set c.self.inside.rows.items c.self.inside.names.items c.self.inside.groups c.self.inside.acks.capacity c.self.inside.packets.capacity c.self.invariant.0 k row y c.push_back_reserved.new.self.items c.enter.new.self within c.index_mut-row.ensures.value (ap (λ (r : Row). r.after) c.send.ensures) c.enter.ensures.placed c.enter.ensures.capacity (rw c.push_back_reserved.ensures.items indexed) (sent_unmarked y (ap (λ (r : Row). state_of r.progress) c.send.ensures)), omega (arith, c.push_back_reserved.ensures.len, c.push_back_reserved.ensures.capacity, c.self.invariant.1))

pub returns-clause-kept : goal.returns-clause-kept
returns-clause-kept c =
    let rows = c.self.inside.rows.items in
    let k = c.place_of-place.result in
    let row = c.index_mut-row.result.now in
    let within : c.place_of-place.result < length c.self.inside.rows.items = omega (arith, c.place_of-place.ensures, c.requires.given.0, c.requires.given.1, ap (λ (kept : Contents). length kept.rows) c.self.view_is) in
    let y : Row = c.send.new.self in
    let made : y ≡ sent_row c.args.living c.args.salt row = c.send.ensures in
    let done = kept_changed (sent_row c.args.living c.args.salt) rows c.args.self.now (c.args.call.n - 1) k row y (ap (λ (kept : Contents). kept.rows) c.self.view_is) c.place_of-place.ensures within c.index_mut-row.ensures.value made in
    ap (λ (rs : List Row). record { rows = rs; acks = c.self.inside.acks.items; packets = c.self.inside.packets.items; room = c.self.inside.reserved - 1 }) done
    ∙ ap (λ (kept : Contents). record { rows = changed_at (c.args.call.n - 1) (sent_row c.args.living c.args.salt) c.args.self.now.rows; acks = kept.acks; packets = kept.packets; room = kept.room - 1 }) c.self.view_is

pub returns-clause-stands : goal.returns-clause-stands
returns-clause-stands c = λ table stands.
    stands_changed (c.args.call.n - 1) (sent_row c.args.living c.args.salt) (sent c.args.session c.args.living c.args.salt) (row_sent c.args.session c.args.living c.args.salt) c.args.self.now _ table
    (ap (λ (kept : Contents). kept.rows) (returns-clause-kept c)) (ap (λ (kept : Contents). kept.acks) (returns-clause-kept c)) (ap (λ (kept : Contents). kept.packets) (returns-clause-kept c)) stands
