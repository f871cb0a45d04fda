use Rattle.inbox.specs.Inbox.{without_room}
use Rattle.inbox.proofs.inbox.Inbox.floor.Goals as goal

pub returns-clause-stands : goal.returns-clause-stands
returns-clause-stands c history marks stands =
    let old = rw (← c.self.view_is) at stands in
    c.floor.ensures.stands history marks (c.room_counts_nothing.ensures (without_room c.self.inside.window) history marks c.self.inside.window.room old.window)
