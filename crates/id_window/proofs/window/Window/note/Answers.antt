-- A note in a window with room, one below a full window, and one for which a full window forgets its least number.
use Rattle.std.proofs.Common.{◌≡◌, ◌∙◌, ◌+◌, ◌-◌, ◌<◌, ◌≤◌, true, cond, None, List, ◌∷◌, map, length, ap, subst, arith}
use Rattle.id_window.specs.declared.cross.Cross.TheVariants.{None as Apart}
use Rattle.id_window.specs.declared.rows.Row.{Row}
use Rattle.id_window.specs.declared.rows.Accepted.{Accepted}
use Rattle.id_window.specs.Marks.{is_accepted}
use Rattle.id_window.specs.Crossing.{crossing}
use Rattle.id_window.specs.History.{inserted}
use Rattle.id_window.specs.Window.{Contents, IsThatOf, IsAbove, Stands, mark_in}
use Rattle.id_window.proofs.PlaceLemmas.{row_number, accepted_key}
use Rattle.id_window.proofs.OrderLemmas.{length-inserted}
use Rattle.id_window.proofs.InOrderLemmas.{accepted_rise, fewer_accepted, order_entered, order_as, order_left, room_for_one, room_left, room_kept, length_entered, length_taken, least_below, mark_in_others, apart_taken, above_first}
use Rattle.id_window.proofs.WindowLemmas.{stands_entered, stands_passed, stands_moved, nothing_forgotten, passed_forgotten, moved_forgotten, stands_as}
use Rattle.id_window.proofs.window.Window.note.Goals as goal

-- ---- with room

pub enter-requires-clause-accepted_ascend : goal.enter-requires-clause-accepted_ascend
enter-requires-clause-accepted_ascend c = accepted_rise _ _ _ c.self.invariant.0

pub enter-requires-clause-accepted_room : goal.enter-requires-clause-accepted_room
enter-requires-clause-accepted_room c =
    let some : 0 < c.self.inside.reserved = rw (← c.self.view_is) at c.requires.reserved in
    let fewer = fewer_accepted _ _ _ c.self.invariant.0 in
    room_for_one c.self.inside.reserved _ _ some c.self.invariant.2 (omega (arith, c.self.inside.accepted.ok.0, c.self.inside.rows.ok.0))

pub invariant_of-self : goal.invariant_of-self
invariant_of-self c =
    let above : c.self.inside.forgotten_up_to < c.args.number = rw (← c.self.view_is) at c.requires.above_floor in
    let new : mark_in c.args.number c.self.inside.rows.items ≡ None = rw (← c.self.view_is) at c.requires.not_kept in
    let apart : is_accepted c.args.mark ≡ true → crossing c.args.number c.args.seq c.self.inside.accepted.items ≡ Apart = rw (← c.self.view_is) at c.requires.apart in
    let rows' = c.enter.new.rows in
    let accepted' = c.enter.new.accepted in
    let one : Accepted = record { number = c.args.number; seq = c.args.seq } in (
      order_as c.self.inside.forgotten_up_to _ rows'.items _ accepted'.items c.enter.ensures.row c.enter.ensures.accepted
          (order_entered c.self.inside.forgotten_up_to c.self.inside.rows.items c.self.inside.accepted.items c.self.invariant.0 c.args.number c.args.seq c.args.mark above new apart (omega (arith, c.self.inside.rows.ok.0))),
      room_left c.self.inside.reserved _ _ _ _ (omega arith) c.self.invariant.1 c.enter.ensures.row_capacity
          (omega (arith, rows'.ok.0, c.self.inside.rows.ok.0, ap length c.enter.ensures.row, length-inserted row_number (record { number = c.args.number; mark = c.args.mark }) c.self.inside.rows.items)),
      room_left c.self.inside.reserved _ _ _ _ (omega arith) c.self.invariant.2 c.enter.ensures.accepted_capacity
          (omega (arith, accepted'.ok.0, c.self.inside.accepted.ok.0, ap length c.enter.ensures.accepted, length_entered (is_accepted c.args.mark) one c.self.inside.accepted.items)),
    )

pub returns-then-len-lt-WINDOW_NUMBERS-clause-stands : goal.returns-then-len-lt-WINDOW_NUMBERS-clause-stands
unfolding Stands
returns-then-len-lt-WINDOW_NUMBERS-clause-stands c history marks outcome stands same =
    let above : c.self.inside.forgotten_up_to < c.args.number = rw (← c.self.view_is) at c.requires.above_floor in
    let new : mark_in c.args.number c.self.inside.rows.items ≡ None = rw (← c.self.view_is) at c.requires.not_kept in
    let w : Contents = record { rows = c.self.inside.rows.items; accepted = c.self.inside.accepted.items; floor = c.self.inside.forgotten_up_to; room = c.self.inside.reserved } in
    let stands' : IsThatOf w history marks = rw (← c.self.view_is) at stands in
    stands_as _ _ w.floor (c.self.inside.reserved - 1) _ _ _ _ c.enter.ensures.row c.enter.ensures.accepted
    (stands_entered w history marks c.args.number c.args.seq c.args.mark outcome c.self.invariant.0 above new stands' same (c.self.inside.reserved - 1) (omega (arith, c.self.inside.rows.ok.0)))

pub returns-then-len-lt-WINDOW_NUMBERS-clause-forgotten : goal.returns-then-len-lt-WINDOW_NUMBERS-clause-forgotten
unfolding Stands
returns-then-len-lt-WINDOW_NUMBERS-clause-forgotten c history marks outcome stands same =
    let above : c.self.inside.forgotten_up_to < c.args.number = rw (← c.self.view_is) at c.requires.above_floor in
    let new : mark_in c.args.number c.self.inside.rows.items ≡ None = rw (← c.self.view_is) at c.requires.not_kept in
    let w : Contents = record { rows = c.self.inside.rows.items; accepted = c.self.inside.accepted.items; floor = c.self.inside.forgotten_up_to; room = c.self.inside.reserved } in
    let stands' : IsThatOf w history marks = rw (← c.self.view_is) at stands in
    nothing_forgotten w history marks c.args.number c.args.seq c.args.mark outcome c.self.invariant.0 above new stands' same (omega (arith, c.self.inside.rows.ok.0))

-- ---- below a full window

pub invariant_of-self-then-number-index : goal.invariant_of-self-then-number-index
invariant_of-self-then-number-index c =
    let rows = c.self.inside.rows.items in
    let below : IsAbove c.args.number (map row_number rows) = above_first c.args.number c.self.inside.forgotten_up_to rows c.index.result.now c.self.invariant.0.rising (omega (arith, c.self.inside.rows.ok.0)) c.index.ensures c.if-number-index.true in
    let order = c.self.invariant.0 in (
      record { rising = (below, order.rising.1); same_accepted = order.same_accepted; seqs = order.seqs; size = order.size },
      omega (arith, c.self.invariant.1),
      omega (arith, c.self.invariant.2),
    )

pub returns-then-number-index-clause-stands : goal.returns-then-number-index-clause-stands
unfolding Stands
returns-then-number-index-clause-stands c history marks outcome stands same =
    let above : c.self.inside.forgotten_up_to < c.args.number = rw (← c.self.view_is) at c.requires.above_floor in
    let new : mark_in c.args.number c.self.inside.rows.items ≡ None = rw (← c.self.view_is) at c.requires.not_kept in
    let w : Contents = record { rows = c.self.inside.rows.items; accepted = c.self.inside.accepted.items; floor = c.self.inside.forgotten_up_to; room = c.self.inside.reserved } in
    let stands' : IsThatOf w history marks = rw (← c.self.view_is) at stands in
    let below : IsAbove c.args.number (map row_number w.rows) = above_first c.args.number w.floor w.rows c.index.result.now c.self.invariant.0.rising (omega (arith, c.self.inside.rows.ok.0)) c.index.ensures c.if-number-index.true in
    stands_passed w history marks c.args.number c.args.seq c.args.mark outcome c.self.invariant.0 above new stands' same (c.self.inside.reserved - 1) (omega (arith, c.self.inside.rows.ok.0)) below

pub returns-then-number-index-clause-forgotten : goal.returns-then-number-index-clause-forgotten
unfolding Stands
returns-then-number-index-clause-forgotten c history marks outcome stands same =
    let above : c.self.inside.forgotten_up_to < c.args.number = rw (← c.self.view_is) at c.requires.above_floor in
    let new : mark_in c.args.number c.self.inside.rows.items ≡ None = rw (← c.self.view_is) at c.requires.not_kept in
    let w : Contents = record { rows = c.self.inside.rows.items; accepted = c.self.inside.accepted.items; floor = c.self.inside.forgotten_up_to; room = c.self.inside.reserved } in
    let stands' : IsThatOf w history marks = rw (← c.self.view_is) at stands in
    let below : IsAbove c.args.number (map row_number w.rows) = above_first c.args.number w.floor w.rows c.index.result.now c.self.invariant.0.rising (omega (arith, c.self.inside.rows.ok.0)) c.index.ensures c.if-number-index.true in
    passed_forgotten w history marks c.args.number c.args.seq c.args.mark outcome c.self.invariant.0 above new stands' same (omega (arith, c.self.inside.rows.ok.0)) below

-- ---- in a full window

pub enter-requires-2-clause-accepted_ascend : goal.enter-requires-2-clause-accepted_ascend
enter-requires-2-clause-accepted_ascend c =
    let taken = c.take_least-least.ensures in
    accepted_rise _ _ _ (order_left _ _ c.take_least-least.result c.take_least-least.new.rows.items c.self.inside.accepted.items c.take_least-least.new.accepted.items c.self.invariant.0 taken.least taken.accepted)

pub enter-requires-2-clause-accepted_room : goal.enter-requires-2-clause-accepted_room
enter-requires-2-clause-accepted_room c =
    let some : 0 < c.self.inside.reserved = rw (← c.self.view_is) at c.requires.reserved in
    let taken = c.take_least-least.ensures in
    let left = order_left _ _ c.take_least-least.result c.take_least-least.new.rows.items c.self.inside.accepted.items c.take_least-least.new.accepted.items c.self.invariant.0 taken.least taken.accepted in
    let fewer = fewer_accepted _ _ _ left in
    let within : c.take_least-least.new.accepted.len ≤ c.self.inside.accepted.len = omega (arith, c.take_least-least.new.accepted.ok.0, c.self.inside.accepted.ok.0, ap length taken.accepted, length_taken (is_accepted c.take_least-least.result.mark) c.self.inside.accepted.items) in
    room_for_one c.self.inside.reserved c.take_least-least.new.accepted.cap c.take_least-least.new.accepted.len some
    (room_kept c.self.inside.reserved c.self.inside.accepted.cap c.self.inside.accepted.len c.take_least-least.new.accepted.cap c.take_least-least.new.accepted.len c.self.invariant.2 taken.accepted_capacity within)
    (omega (arith, c.take_least-least.new.accepted.ok.0, ap length taken.least, c.self.invariant.0.size))

pub invariant_of-self-2 : goal.invariant_of-self-2
invariant_of-self-2 c =
    let above : c.self.inside.forgotten_up_to < c.args.number = rw (← c.self.view_is) at c.requires.above_floor in
    let new : mark_in c.args.number c.self.inside.rows.items ≡ None = rw (← c.self.view_is) at c.requires.not_kept in
    let apart : is_accepted c.args.mark ≡ true → crossing c.args.number c.args.seq c.self.inside.accepted.items ≡ Apart = rw (← c.self.view_is) at c.requires.apart in
    let least = c.take_least-least.result in
    let others = c.take_least-least.new.rows.items in
    let accepted1 = c.take_least-least.new.accepted.items in
    let taken = c.take_least-least.ensures in
    let left = order_left _ c.self.inside.rows.items least others c.self.inside.accepted.items accepted1 c.self.invariant.0 taken.least taken.accepted in
    let below = least_below c.args.number c.self.inside.rows.items c.index.result.now least others taken.least c.index.ensures c.if-number-index.false new in
    let new' : mark_in c.args.number (least ∷ others) ≡ None = subst (λ (xs : List Row). mark_in c.args.number xs ≡ None) taken.least new in
    let apart' : is_accepted c.args.mark ≡ true → crossing c.args.number c.args.seq accepted1 ≡ Apart = λ (e : is_accepted c.args.mark ≡ true). rw taken.accepted (apart_taken c.args.number c.args.seq (is_accepted least.mark) c.self.inside.accepted.items (apart e)) in
    let long : length c.self.inside.rows.items ≡ length others + 1 = omega (arith, ap length taken.least) in
    let one : Accepted = record { number = c.args.number; seq = c.args.seq } in (
      order_as least.number _ c.enter-2.new.rows.items _ c.enter-2.new.accepted.items c.enter-2.ensures.row c.enter-2.ensures.accepted
          (order_entered least.number others accepted1 left c.args.number c.args.seq c.args.mark below (mark_in_others c.args.number least others new').1 apart' (omega (arith, c.self.invariant.0.size))),
      room_left c.self.inside.reserved _ _ _ _ (omega arith) c.self.invariant.1 (omega (arith, c.enter-2.ensures.row_capacity, taken.row_capacity))
          (omega (arith, c.enter-2.new.rows.ok.0, c.self.inside.rows.ok.0, ap length c.enter-2.ensures.row, length-inserted row_number (record { number = c.args.number; mark = c.args.mark }) others)),
      room_left c.self.inside.reserved _ _ _ _ (omega arith) c.self.invariant.2 (omega (arith, c.enter-2.ensures.accepted_capacity, taken.accepted_capacity))
          (omega (arith, c.enter-2.new.accepted.ok.0, c.self.inside.accepted.ok.0, ap length c.enter-2.ensures.accepted, length_entered (is_accepted c.args.mark) one accepted1, ap length taken.accepted, length_taken (is_accepted least.mark) c.self.inside.accepted.items)),
    )

pub returns-clause-stands : goal.returns-clause-stands
unfolding Stands
returns-clause-stands c history marks outcome stands same =
    let above : c.self.inside.forgotten_up_to < c.args.number = rw (← c.self.view_is) at c.requires.above_floor in
    let new : mark_in c.args.number c.self.inside.rows.items ≡ None = rw (← c.self.view_is) at c.requires.not_kept in
    let w : Contents = record { rows = c.self.inside.rows.items; accepted = c.self.inside.accepted.items; floor = c.self.inside.forgotten_up_to; room = c.self.inside.reserved } in
    let stands' : IsThatOf w history marks = rw (← c.self.view_is) at stands in
    let least = c.take_least-least.result in
    let others = c.take_least-least.new.rows.items in
    let taken = c.take_least-least.ensures in
    let below = least_below c.args.number w.rows c.index.result.now least others taken.least c.index.ensures c.if-number-index.false new in
    let one : Accepted = record { number = c.args.number; seq = c.args.seq } in
    stands_as _ _ least.number (c.self.inside.reserved - 1) _ _ _ _ c.enter-2.ensures.row
    (c.enter-2.ensures.accepted ∙ ap (λ (xs : List Accepted). cond (is_accepted c.args.mark) (inserted accepted_key one xs) xs) taken.accepted)
    (stands_moved w history marks c.args.number c.args.seq c.args.mark outcome c.self.invariant.0 above new stands' same least others taken.least below (omega (arith, c.self.inside.rows.ok.0)) (c.self.inside.reserved - 1))

pub returns-clause-forgotten : goal.returns-clause-forgotten
unfolding Stands
returns-clause-forgotten c history marks outcome stands same =
    let above : c.self.inside.forgotten_up_to < c.args.number = rw (← c.self.view_is) at c.requires.above_floor in
    let new : mark_in c.args.number c.self.inside.rows.items ≡ None = rw (← c.self.view_is) at c.requires.not_kept in
    let w : Contents = record { rows = c.self.inside.rows.items; accepted = c.self.inside.accepted.items; floor = c.self.inside.forgotten_up_to; room = c.self.inside.reserved } in
    let stands' : IsThatOf w history marks = rw (← c.self.view_is) at stands in
    let least = c.take_least-least.result in
    let others = c.take_least-least.new.rows.items in
    let taken = c.take_least-least.ensures in
    let below = least_below c.args.number w.rows c.index.result.now least others taken.least c.index.ensures c.if-number-index.false new in
    moved_forgotten w history marks c.args.number c.args.seq c.args.mark outcome c.self.invariant.0 above new stands' same least others taken.least below (omega (arith, c.self.inside.rows.ok.0))
