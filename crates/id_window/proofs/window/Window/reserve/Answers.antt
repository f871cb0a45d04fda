use Rattle.std.proofs.Common.{arith}
use Rattle.id_window.specs.Window.{Contents, IsThatOf, Stands}
use Rattle.id_window.proofs.InOrderLemmas.{fewer_accepted}
use Rattle.id_window.proofs.WindowLemmas.{stands_as, stands_reserved}
use Rattle.id_window.proofs.window.Window.reserve.Goals as goal

pub missing_room-accepted-requires : goal.missing_room-accepted-requires
missing_room-accepted-requires c =
    let fewer = fewer_accepted _ _ _ c.self.invariant.0 in
    omega (arith, c.self.invariant.0.size, c.self.inside.accepted.ok.0, c.self.inside.rows.ok.0)

pub returns-clause-stands : goal.returns-clause-stands
unfolding Stands
returns-clause-stands c history marks stands =
    let w : Contents = record { rows = c.self.inside.rows.items; accepted = c.self.inside.accepted.items; floor = c.self.inside.forgotten_up_to; room = c.self.inside.reserved } in
    let stands' : IsThatOf w history marks = rw (← c.self.view_is) at stands in
    stands_as history marks w.floor c.max-notes.result w.rows c.reserve_exact.new.self.items w.accepted c.reserve_exact-2.new.self.items c.reserve_exact.ensures.items c.reserve_exact-2.ensures.items (stands_reserved w history marks c.max-notes.result stands')
