use Rattle.std.proofs.Common.{subst, sym, ◌∙◌}
use Rattle.std.specs.Prelude.{OnOk}
use Rattle.client_rules.specs.Client.{Client}
use Rattle.client_core.specs.Holding.{kept_of}
use Rattle.client_core.specs.Kept.{Stands}
use Rattle.world_rules.specs.World.{Seat}
use Rattle.sim_clients.specs.Held.{held}
use Rattle.sim_clients.proofs.SeatLemmas.{held_now}
use Rattle.draws.specs.Draws.{word_after}
use Rattle.client_rules.specs.Events.{renewed}
use Rattle.world_rules.specs.Refusals.{stands_open, nothing_more}
use Rattle.sim_clients.specs.Told.{TellsRefusal}
use Rattle.sim_clients.proofs.seat.Seat.renew.Goals as goal

pub returns-clause-refused : goal.returns-clause-refused
returns-clause-refused g c =
    subst (λ kept. (seat : Seat) → Stands (kept_of kept) seat.client → TellsRefusal (stands_open seat nothing_more) c.renew-holder.result.1) (held_now c.args.self.now c.self.inside.holder c.self.inside.clock c.in-Some.holder c.self.view_is (sym c.take.ensures.value ∙ c.in-Some.is)) c.renew-holder.ensures.refused

pub returns-clause-stands : goal.returns-clause-stands
returns-clause-stands g c =
    subst (λ slot. OnOk c.renew-holder.result.1 ((client : Client) → Stands (kept_of c.args.self.now.holder) client → Stands (kept_of (held slot)) (renewed (word_after g.D.Draw.step 0 c.args.draw.now) client))) (sym c.put.ensures)
    (subst (λ kept. OnOk c.renew-holder.result.1 ((client : Client) → Stands (kept_of kept) client → Stands (kept_of c.renew-holder.result.0) (renewed (word_after g.D.Draw.step 0 c.args.draw.now) client))) (held_now c.args.self.now c.self.inside.holder c.self.inside.clock c.in-Some.holder c.self.view_is (sym c.take.ensures.value ∙ c.in-Some.is)) c.renew-holder.ensures.stands)
