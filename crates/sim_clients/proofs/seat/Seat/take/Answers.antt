use Rattle.std.proofs.Common.{ap, subst, sym, ◌∙◌}
use Rattle.client_core.specs.Holding.{kept_of}
use Rattle.client_core.specs.Kept.{Stands}
use Rattle.sim_clients.proofs.SeatLemmas.{clock_now, held_now}
use Rattle.msg_ids.specs.Moments.{moment_of}
use Rattle.sim_clients.specs.Held.{TakenSo, held, taken_in}
use Rattle.sim_clients.proofs.seat.Seat.take.Goals as goal

pub returns-clause-taken : goal.returns-clause-taken
returns-clause-taken g c opens client reading stands =
    subst (λ slot. TakenSo client (taken_in opens (moment_of c.args.self.now.clock) c.args.bytes.now client) (held slot) c.take-holder.result.1) (sym c.put.ensures)
    (subst (λ time. TakenSo client (taken_in opens time c.args.bytes.now client) c.take-holder.result.0 c.take-holder.result.1) (c.new-came.ensures ∙ ap (λ clock. moment_of clock) (clock_now c.args.self.now c.self.inside.holder c.self.inside.clock c.self.view_is))
    (subst (λ kept. Stands (kept_of kept) client → TakenSo client (taken_in opens c.new-came.result c.args.bytes.now client) c.take-holder.result.0 c.take-holder.result.1) (held_now c.args.self.now c.self.inside.holder c.self.inside.clock c.in-Some.holder c.self.view_is (sym c.take.ensures.value ∙ c.in-Some.is))
    (c.take-holder.ensures.taken opens client reading) stands))
