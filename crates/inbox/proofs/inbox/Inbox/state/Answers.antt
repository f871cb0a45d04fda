use Rattle.std.proofs.Common.{◌∙◌, ℕ, Option, ap}
use Rattle.inbox.specs.Inbox.{without_room}
use Rattle.id_window.specs.declared.mark.Mark.{Mark}
use Rattle.id_window.specs.History.{found, floor}
use Rattle.inbox.specs.States.{state_by}
use Rattle.inbox.proofs.inbox.Inbox.state.Goals as goal

pub returns : goal.returns
returns c history marks stands =
    let old = rw (← c.self.view_is) at stands in
    let window = c.room_counts_nothing.ensures (without_room c.self.inside.window) history marks c.self.inside.window.room old.window in
    c.state_by.ensures
    ∙ ap (λ (m : Option Mark). state_by m c.floor.result c.greatest.result c.args.number) (c.find.ensures.stands history marks window)
    ∙ ap (λ (f : ℕ). state_by (found c.args.number history marks) f c.greatest.result c.args.number) (c.floor.ensures.stands history marks window)
    ∙ ap (λ (g : ℕ). state_by (found c.args.number history marks) (floor history) g c.args.number) (c.greatest.ensures.stands history marks window)
