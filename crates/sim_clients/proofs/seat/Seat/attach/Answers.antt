use Rattle.std.proofs.Common.{subst}
use Rattle.std.specs.Prelude.{OnOk}
use Rattle.client_rules.specs.Client.{Client}
use Rattle.client_core.specs.Holding.{kept_of}
use Rattle.client_core.specs.Kept.{Stands}
use Rattle.world_rules.specs.World.{Seat}
use Rattle.sim_clients.proofs.SeatLemmas.{held_now}
use Rattle.client_rules.specs.Asking.{attached}
use Rattle.world_rules.specs.Refusals.{goes_on, nothing_more}
use Rattle.sim_clients.specs.Told.{TellsRefusal}
use Rattle.sim_clients.proofs.seat.Seat.attach.Goals as goal

pub returns-clause-refused : goal.returns-clause-refused
returns-clause-refused c =
    subst (λ held. (seat : Seat) → Stands (kept_of held) seat.client → TellsRefusal (goes_on seat nothing_more) c.attach.result) (held_now c.args.self.now c.self.inside.holder c.self.inside.clock c.in-Some.holder c.self.view_is c.in-Some.is) c.attach.ensures.refused

pub returns-clause-stands : goal.returns-clause-stands
returns-clause-stands c =
    subst (λ held. OnOk c.attach.result ((client : Client) → Stands (kept_of held) client → Stands (kept_of c.attach.new.holder) (attached client))) (held_now c.args.self.now c.self.inside.holder c.self.inside.clock c.in-Some.holder c.self.view_is c.in-Some.is) c.attach.ensures.stands
