use Rattle.std.proofs.Common.{◌≡◌, ◌∙◌, ◌-◌, ◌<◌, List, length, ap, sym, arith}
use Rattle.call_table.specs.declared.row.Row.{Row}
use Rattle.call_table.specs.Table.{Sent, sent_again, changed_at}
use Rattle.call_table.specs.Kept.{Contents, state_of, number_in, again_row, is_row_in}
use Rattle.call_table.proofs.StandsLemmas.{row_again, stands_changed}
use Rattle.call_table.proofs.HeldLemmas.{held_same, number_own, number_again, state_again, group_again, kept_changed, row_told, sent_unmarked}
use Rattle.call_table.proofs.calls.Calls.again.Goals as goal

pub invariant_of-self : goal.invariant_of-self
invariant_of-self c =
    let rows = c.self.inside.rows.items in
    let k = c.place_of.result in
    let row = c.index_mut.result.now in
    let within : c.place_of.result < length c.self.inside.rows.items = omega (arith, c.place_of.ensures, c.requires.given.0, c.requires.given.1, ap (λ (kept : Contents). length kept.rows) c.self.view_is) in
    let sent : state_of row.progress ≡ Sent = row_told (λ (r : Row). state_of r.progress) Sent c.args.self.now rows (c.args.call.n - 1) k row (ap (λ (kept : Contents). kept.rows) c.self.view_is) c.place_of.ensures within c.index_mut.ensures.value c.requires.sent in
    let y : Row = c.send_again.new.self in
    let still : state_of y.progress ≡ Sent = ap (λ (r : Row). state_of r.progress) c.send_again.ensures ∙ (state_again c.args.salt row.progress ∙ sent) in (
      held_same c.self.inside.rows.items c.self.inside.names.items c.self.inside.groups c.self.inside.acks.capacity c.self.inside.packets.capacity c.self.invariant.0 k row y within c.index_mut.ensures.value
          (λ g. ap (is_row_in g) c.send_again.ensures ∙ group_again c.args.salt row g)
          (ap (λ (r : Row). number_in r.progress) c.send_again.ensures ∙ (number_again c.args.salt row.progress ∙ sym (number_own rows k row within c.index_mut.ensures.value))) (ap (λ (r : Row). r.after) c.send_again.ensures) (sent_unmarked y still),
      omega (arith, c.self.invariant.1),
    )

pub returns-clause-kept : goal.returns-clause-kept
returns-clause-kept c =
    let rows = c.self.inside.rows.items in
    let k = c.place_of.result in
    let row = c.index_mut.result.now in
    let within : c.place_of.result < length c.self.inside.rows.items = omega (arith, c.place_of.ensures, c.requires.given.0, c.requires.given.1, ap (λ (kept : Contents). length kept.rows) c.self.view_is) in
    let y : Row = c.send_again.new.self in
    let made : y ≡ again_row c.args.salt row = c.send_again.ensures in
    let done = kept_changed (again_row c.args.salt) rows c.args.self.now (c.args.call.n - 1) k row y (ap (λ (kept : Contents). kept.rows) c.self.view_is) c.place_of.ensures within c.index_mut.ensures.value made in
    ap (λ (rs : List Row). record { rows = rs; acks = c.self.inside.acks.items; packets = c.self.inside.packets.items; room = c.self.inside.reserved - 1 }) done
    ∙ ap (λ (kept : Contents). record { rows = changed_at (c.args.call.n - 1) (again_row c.args.salt) c.args.self.now.rows; acks = kept.acks; packets = kept.packets; room = kept.room - 1 }) c.self.view_is

pub returns-clause-stands : goal.returns-clause-stands
returns-clause-stands c = λ table stands.
    stands_changed (c.args.call.n - 1) (again_row c.args.salt) (sent_again c.args.salt) (row_again c.args.salt) c.args.self.now _ table
    (ap (λ (kept : Contents). kept.rows) (returns-clause-kept c)) (ap (λ (kept : Contents). kept.acks) (returns-clause-kept c)) (ap (λ (kept : Contents). kept.packets) (returns-clause-kept c)) stands
