use Rattle.std.proofs.Common.{◌≡◌, subst}
use Rattle.std.specs.Prelude.{IfOk, OnOk}
use Rattle.client_rules.specs.Client.{Client}
use Rattle.client_core.specs.Holding.{kept_of}
use Rattle.client_core.specs.Kept.{Stands}
use Rattle.world_rules.specs.World.{Seat}
use Rattle.sim_clients.proofs.SeatLemmas.{held_now}
use Rattle.client_rules.specs.Events.{unless_fault}
use Rattle.world_rules.specs.Refusals.{goes_on}
use Rattle.sim_clients.specs.Told.{not_taken}
use Rattle.sim_clients.specs.Told.{TellsRefusal}
use Rattle.std.specs.Prelude.{length}
use Rattle.call_table.specs.Table.{call_no}
use Rattle.client_rules.specs.Client.{calls_of}
use Rattle.sim_clients.proofs.seat.Seat.submit.Goals as goal

pub returns-clause-refused : goal.returns-clause-refused
returns-clause-refused c =
    subst (λ held. (seat : Seat) → Stands (kept_of held) seat.client → TellsRefusal (goes_on seat (not_taken c.args.body.now c.args.after)) c.submit.result) (held_now c.args.self.now c.self.inside.holder c.self.inside.clock c.in-Some.holder c.self.view_is c.in-Some.is) c.submit.ensures.refused

pub returns-clause-stands : goal.returns-clause-stands
returns-clause-stands c =
    subst (λ held. OnOk c.submit.result ((client : Client) → Stands (kept_of held) client → Stands (kept_of c.submit.new.holder) (unless_fault c.args.body.now c.args.after client))) (held_now c.args.self.now c.self.inside.holder c.self.inside.clock c.in-Some.holder c.self.view_is c.in-Some.is) c.submit.ensures.stands

pub returns-clause-call : goal.returns-clause-call
returns-clause-call c =
    subst (λ held. IfOk c.submit.result (λ call. (client : Client) → Stands (kept_of held) client → call ≡ call_no (length (calls_of client)))) (held_now c.args.self.now c.self.inside.holder c.self.inside.clock c.in-Some.holder c.self.view_is c.in-Some.is) c.submit.ensures.call
