use Rattle.std.proofs.Common.{◌≡◌, ◌∙◌, ◌-◌, ◌<◌, List, length, set, ap, sym, arith}
use Rattle.call_table.specs.declared.row.Row.{Row}
use Rattle.call_table.specs.Table.{Sent, flagged, changed_at}
use Rattle.call_table.specs.Kept.{Contents, number_in, state_of, flagged_row}
use Rattle.call_table.proofs.IndexLemmas.{indexed_same, number_at-set}
use Rattle.call_table.proofs.StandsLemmas.{row_flagged, stands_changed}
use Rattle.call_table.proofs.HeldLemmas.{groups_rise, groups_fit, held_set, number_own, kept_changed, row_told, sent_unmarked}
use Rattle.call_table.proofs.calls.Calls.set_flags.Goals as goal

pub enter-requires-clause-ascending : goal.enter-requires-clause-ascending
enter-requires-clause-ascending c = groups_rise c.self.inside.rows.items c.self.inside.names.items c.self.inside.groups c.self.inside.acks.capacity c.self.inside.packets.capacity c.self.invariant.0

pub enter-requires-clause-room : goal.enter-requires-clause-room
enter-requires-clause-room c = groups_fit c.self.inside.rows.items c.self.inside.names.items c.self.inside.groups c.self.inside.acks.capacity c.self.inside.packets.capacity c.self.invariant.0

pub invariant_of-self : goal.invariant_of-self
invariant_of-self c =
    let rows = c.self.inside.rows.items in
    let k = c.place_of-place.result in
    let row = c.index_mut-row.result.now in
    let within : c.place_of-place.result < length c.self.inside.rows.items = omega (arith, c.place_of-place.ensures, c.requires.given.0, c.requires.given.1, ap (λ (kept : Contents). length kept.rows) c.self.view_is) in
    let y : Row = c.set_flags.new.self in
    let sent : state_of row.progress ≡ Sent = row_told (λ (r : Row). state_of r.progress) Sent c.args.self.now rows (c.args.call.n - 1) k row (ap (λ (kept : Contents). kept.rows) c.self.view_is) c.place_of-place.ensures within c.index_mut-row.ensures.value c.requires.sent in
    let indexed = indexed_same rows (set rows k y) c.self.inside.names.items (λ j. number_at-set rows k j y (ap (λ (r : Row). number_in r.progress) c.set_flags.ensures ∙ sym (number_own rows k row within c.index_mut-row.ensures.value))) c.self.invariant.0.indexed in
    (held_set c.self.inside.rows.items c.self.inside.names.items c.self.inside.groups c.self.inside.acks.capacity c.self.inside.packets.capacity c.self.invariant.0 k row y c.self.inside.names.items c.enter.new.self within c.index_mut-row.ensures.value (ap (λ (r : Row). r.after) c.set_flags.ensures) c.enter.ensures.placed c.enter.ensures.capacity indexed (sent_unmarked y (ap (λ (r : Row). state_of r.progress) c.set_flags.ensures ∙ sent)), c.self.invariant.1)

pub returns-clause-kept : goal.returns-clause-kept
returns-clause-kept c =
    let rows = c.self.inside.rows.items in
    let k = c.place_of-place.result in
    let row = c.index_mut-row.result.now in
    let within : c.place_of-place.result < length c.self.inside.rows.items = omega (arith, c.place_of-place.ensures, c.requires.given.0, c.requires.given.1, ap (λ (kept : Contents). length kept.rows) c.self.view_is) in
    let y : Row = c.set_flags.new.self in
    let made : y ≡ flagged_row c.args.flags row = c.set_flags.ensures in
    let done = kept_changed (flagged_row c.args.flags) rows c.args.self.now (c.args.call.n - 1) k row y (ap (λ (kept : Contents). kept.rows) c.self.view_is) c.place_of-place.ensures within c.index_mut-row.ensures.value made in
    ap (λ (rs : List Row). record { rows = rs; acks = c.self.inside.acks.items; packets = c.self.inside.packets.items; room = c.self.inside.reserved }) done
    ∙ ap (λ (kept : Contents). record { rows = changed_at (c.args.call.n - 1) (flagged_row c.args.flags) c.args.self.now.rows; acks = kept.acks; packets = kept.packets; room = kept.room }) c.self.view_is

pub returns-clause-stands : goal.returns-clause-stands
returns-clause-stands c = λ table stands.
    stands_changed (c.args.call.n - 1) (flagged_row c.args.flags) (flagged c.args.flags) (row_flagged c.args.flags) c.args.self.now _ table
    (ap (λ (kept : Contents). kept.rows) (returns-clause-kept c)) (ap (λ (kept : Contents). kept.acks) (returns-clause-kept c)) (ap (λ (kept : Contents). kept.packets) (returns-clause-kept c)) stands
