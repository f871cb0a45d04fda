use Rattle.std.proofs.Common.{subst}
use Rattle.std.specs.Prelude.{OnOk}
use Rattle.client_rules.specs.Client.{Client}
use Rattle.client_core.specs.Holding.{kept_of, wished}
use Rattle.client_core.specs.Kept.{Stands}
use Rattle.world_rules.specs.World.{Seat}
use Rattle.sim_clients.proofs.SeatLemmas.{held_now}
use Rattle.world_rules.specs.Refusals.{stands_open, nothing_more}
use Rattle.sim_clients.specs.Told.{TellsRefusal}
use Rattle.sim_clients.proofs.seat.Seat.wish.Goals as goal

pub returns-clause-refused : goal.returns-clause-refused
returns-clause-refused c =
    subst (λ held. (seat : Seat) → Stands (kept_of held) seat.client → TellsRefusal (stands_open seat nothing_more) c.wish.result) (held_now c.args.self.now c.self.inside.holder c.self.inside.clock c.in-Some.holder c.self.view_is c.in-Some.is) c.wish.ensures.refused

pub returns-clause-stands : goal.returns-clause-stands
returns-clause-stands c =
    subst (λ held. OnOk c.wish.result ((client : Client) → Stands (kept_of held) client → Stands (kept_of c.wish.new.holder) (wished c.args.wish client))) (held_now c.args.self.now c.self.inside.holder c.self.inside.clock c.in-Some.holder c.self.view_is c.in-Some.is) c.wish.ensures.stands
