use Rattle.std.proofs.Common.{◌≡◌, ◌∙◌, ◌+◌, ◌<◌, ◌≤◌, ℕ, List, ◌∷◌, [], ◌++◌, length, length-append, ap, sym, subst, refl, arith}
use Rattle.std.specs.Prelude.{IfSome}
use Rattle.call_table.specs.declared.call.Group.{Group}
use Rattle.call_table.specs.declared.row.Row.{Row}
use Rattle.call_table.specs.Table.{IsGiven, IsEarlier}
use Rattle.call_table.specs.Kept.{Contents, is_row_in, new_row, number_in, state_of}
use Rattle.call_table.specs.Held.{Rises, places_in, capacity_in, with_member}
use Rattle.call_table.proofs.StandsLemmas.{stands_pushed}
use Rattle.call_table.proofs.HeldLemmas.{given_few, groups_rise, groups_fit, held_push, queued_push}
use Rattle.call_table.proofs.calls.Calls.add.Goals as goal

pub new-row-requires : goal.new-row-requires
new-row-requires c = given_few c.args.after c.args.self.now.rows c.requires.few c.requires.earlier

pub enter-requires-clause-ascending : goal.enter-requires-clause-ascending
enter-requires-clause-ascending c = λ g. subst Rises (sym (c.reserve-2.ensures.places g)) (groups_rise c.self.inside.rows.items c.self.inside.names.items c.self.inside.groups c.self.inside.acks.capacity c.self.inside.packets.capacity c.self.invariant.0 g)

pub enter-requires-clause-room : goal.enter-requires-clause-room
enter-requires-clause-room c = λ g.
    let same : length (places_in g c.reserve-2.new.self) ≡ length (places_in g c.self.inside.groups) = ap length (c.reserve-2.ensures.places g) in
    let fit : length (places_in g c.self.inside.groups) < capacity_in g c.self.inside.groups = groups_fit c.self.inside.rows.items c.self.inside.names.items c.self.inside.groups c.self.inside.acks.capacity c.self.inside.packets.capacity c.self.invariant.0 g in
    let grown : capacity_in g c.self.inside.groups ≤ capacity_in g c.reserve-2.new.self = c.reserve-2.ensures.capacity g in
    omega arith

pub invariant_of-self-2 : goal.invariant_of-self-2
invariant_of-self-2 c =
    let rows = c.self.inside.rows.items in
    let k = c.len-place.result in
    let y : Row = c.new-row.result in
    let at : k ≡ length rows = omega (arith, c.self.inside.rows.ok.0, c.len-place.ensures) in
    let few : length rows < 65536 = omega (arith, c.requires.few, ap (λ (kept : Contents). length kept.rows) c.self.view_is) in
    let pushed : c.push_reserved.new.self.items ≡ rows ++ y ∷ [] = c.push_reserved.ensures.items ∙ ap (λ (rs : List Row). rs ++ y ∷ []) c.reserve.ensures.items in
    let placed : (g : Group) → places_in g c.enter.new.self ≡ with_member k (is_row_in g y) (places_in g c.self.inside.groups) = λ g. c.enter.ensures.placed g ∙ ap (with_member k (is_row_in g y)) (c.reserve-2.ensures.places g) in
    let room : (g : Group) → k + 1 < capacity_in g c.enter.new.self = λ g.
    let one : k + 1 < capacity_in g c.reserve-2.new.self = c.in_ok-reserve-2.ensures.room g in
    let grown : capacity_in g c.reserve-2.new.self ≤ capacity_in g c.enter.new.self = c.enter.ensures.capacity g in
    omega arith in
    let follows : IfSome c.args.after (IsEarlier (length rows)) = subst (λ (kept : Contents). IfSome c.args.after (λ one. IsGiven one kept.rows)) (sym c.self.view_is) c.requires.earlier in
    (rw pushed (held_push c.self.inside.rows.items c.self.inside.names.items c.self.inside.groups c.self.inside.acks.capacity c.self.inside.packets.capacity c.self.invariant.0 k y c.enter.new.self at few (ap (λ (r : Row). number_in r.progress) c.new-row.ensures) placed room (rw c.new-row.ensures follows) (rw c.new-row.ensures (λ _. refl))), c.self.invariant.1)

pub returns-clause-stands : goal.returns-clause-stands
returns-clause-stands c = λ table stands.
    let y : Row = c.new-row.result in
    let pushed : c.push_reserved.new.self.items ≡ c.args.self.now.rows ++ y ∷ [] = c.push_reserved.ensures.items ∙ ap (λ (rs : List Row). rs ++ y ∷ []) (c.reserve.ensures.items ∙ ap (λ (kept : Contents). kept.rows) c.self.view_is) in
    let made : y ≡ new_row c.args.body.now c.args.after = c.new-row.ensures ∙ ap (λ (b : List ℕ). new_row b c.args.after) c.in_ok-body.ensures in
    let named : c.push_reserved.new.self.items ≡ c.args.self.now.rows ++ new_row c.args.body.now c.args.after ∷ [] = pushed ∙ ap (λ (r : Row). c.args.self.now.rows ++ r ∷ []) made in
    stands_pushed c.args.self.now _ table c.args.body.now c.args.after named (ap (λ (kept : Contents). kept.acks) c.self.view_is) (ap (λ (kept : Contents). kept.packets) c.self.view_is) stands

pub returns-clause-given : goal.returns-clause-given
returns-clause-given c =
    let rows = c.self.inside.rows.items in
    let y : Row = c.new-row.result in
    let pushed : c.push_reserved.new.self.items ≡ rows ++ y ∷ [] = c.push_reserved.ensures.items ∙ ap (λ (rs : List Row). rs ++ y ∷ []) c.reserve.ensures.items in
    let long : length c.push_reserved.new.self.items ≡ length rows + 1 = ap length pushed ∙ length-append rows (y ∷ []) in
    let at : c.len-place.result ≡ length rows = omega (arith, c.self.inside.rows.ok.0, c.len-place.ensures) in
    (omega arith, omega arith)

pub returns-clause-queued : goal.returns-clause-queued
returns-clause-queued c =
    let rows = c.self.inside.rows.items in
    let y : Row = c.new-row.result in
    let pushed : c.push_reserved.new.self.items ≡ rows ++ y ∷ [] = c.push_reserved.ensures.items ∙ ap (λ (rs : List Row). rs ++ y ∷ []) c.reserve.ensures.items in
    queued_push rows c.push_reserved.new.self.items y c.len-place.result pushed (omega (arith, c.self.inside.rows.ok.0, c.len-place.ensures)) (ap (λ (r : Row). state_of r.progress) c.new-row.ensures)
