use Rattle.std.proofs.Common.{◌≡◌, ap, subst, ◌∙◌}
use Rattle.std.specs.Prelude.{IfOk, OnErr, OnOk}
use Rattle.client_core.specs.Holding.{kept_of}
use Rattle.client_core.specs.Kept.{Stands}
use Rattle.sim_clients.proofs.SeatLemmas.{clock_now, held_now}
use Rattle.msg_ids.specs.Moments.{moment_of}
use Rattle.client_rules.specs.Flush.{flush}
use Rattle.client_core.specs.Flushed.{setting_of}
use Rattle.world_rules.specs.Refusals.{goes_on, nothing_more, unsent}
use Rattle.sim_clients.specs.Told.{TellsSent, TellsUnsent}
use Rattle.sim_clients.proofs.seat.Seat.flush.Goals as goal

pub returns-clause-refused : goal.returns-clause-refused
returns-clause-refused g c seat stands =
    subst (λ time. TellsUnsent (goes_on seat nothing_more) (goes_on seat (λ other. unsent (flush (setting_of g.D.Draw.step (g.S.Seal.keys c.args.seal.now)) time other.client c.args.draw.now).answer)) c.flush.result) (c.new-now.ensures ∙ ap (λ clock. moment_of clock) (clock_now c.args.self.now c.self.inside.holder c.self.inside.clock c.self.view_is))
    (subst (λ held. Stands (kept_of held) seat.client → TellsUnsent (goes_on seat nothing_more) (goes_on seat (λ other. unsent (flush (setting_of g.D.Draw.step (g.S.Seal.keys c.args.seal.now)) c.new-now.result other.client c.args.draw.now).answer)) c.flush.result) (held_now c.args.self.now c.self.inside.holder c.self.inside.clock c.in-Some.holder c.self.view_is c.in-Some.is) (c.flush.ensures.refused seat) stands)

pub returns-clause-sent : goal.returns-clause-sent
returns-clause-sent g c client stands =
    subst (λ time. IfOk c.flush.result (TellsSent g.S.Seal.lock (g.S.Seal.keys c.args.seal.now) (flush (setting_of g.D.Draw.step (g.S.Seal.keys c.args.seal.now)) time client c.args.draw.now).answer)) (c.new-now.ensures ∙ ap (λ clock. moment_of clock) (clock_now c.args.self.now c.self.inside.holder c.self.inside.clock c.self.view_is))
    (subst (λ held. Stands (kept_of held) client → IfOk c.flush.result (TellsSent g.S.Seal.lock (g.S.Seal.keys c.args.seal.now) (flush (setting_of g.D.Draw.step (g.S.Seal.keys c.args.seal.now)) c.new-now.result client c.args.draw.now).answer)) (held_now c.args.self.now c.self.inside.holder c.self.inside.clock c.in-Some.holder c.self.view_is c.in-Some.is) (c.flush.ensures.sent client) stands)

pub returns-clause-stands : goal.returns-clause-stands
returns-clause-stands g c client stands =
    subst (λ time. OnOk c.flush.result (Stands (kept_of c.flush.new.holder) (flush (setting_of g.D.Draw.step (g.S.Seal.keys c.args.seal.now)) time client c.args.draw.now).client)) (c.new-now.ensures ∙ ap (λ clock. moment_of clock) (clock_now c.args.self.now c.self.inside.holder c.self.inside.clock c.self.view_is))
    (subst (λ held. Stands (kept_of held) client → OnOk c.flush.result (Stands (kept_of c.flush.new.holder) (flush (setting_of g.D.Draw.step (g.S.Seal.keys c.args.seal.now)) c.new-now.result client c.args.draw.now).client)) (held_now c.args.self.now c.self.inside.holder c.self.inside.clock c.in-Some.holder c.self.view_is c.in-Some.is) (c.flush.ensures.stands client) stands)

pub returns-clause-drawn : goal.returns-clause-drawn
returns-clause-drawn g c client stands =
    subst (λ time. OnOk c.flush.result (c.flush.new.draw ≡ (flush (setting_of g.D.Draw.step (g.S.Seal.keys c.args.seal.now)) time client c.args.draw.now).draw)) (c.new-now.ensures ∙ ap (λ clock. moment_of clock) (clock_now c.args.self.now c.self.inside.holder c.self.inside.clock c.self.view_is))
    (subst (λ held. Stands (kept_of held) client → OnOk c.flush.result (c.flush.new.draw ≡ (flush (setting_of g.D.Draw.step (g.S.Seal.keys c.args.seal.now)) c.new-now.result client c.args.draw.now).draw)) (held_now c.args.self.now c.self.inside.holder c.self.inside.clock c.in-Some.holder c.self.view_is c.in-Some.is) (c.flush.ensures.drawn client) stands)

pub returns-clause-unchanged : goal.returns-clause-unchanged
returns-clause-unchanged g c client stands =
    subst (λ held. Stands (kept_of held) client → OnErr c.flush.result (Stands (kept_of c.flush.new.holder) client)) (held_now c.args.self.now c.self.inside.holder c.self.inside.clock c.in-Some.holder c.self.view_is c.in-Some.is) (c.flush.ensures.unchanged client) stands

pub returns-clause-same_draw : goal.returns-clause-same_draw
returns-clause-same_draw g c client stands =
    subst (λ held. Stands (kept_of held) client → OnErr c.flush.result (c.flush.new.draw ≡ c.args.draw.now)) (held_now c.args.self.now c.self.inside.holder c.self.inside.clock c.in-Some.holder c.self.view_is c.in-Some.is) (c.flush.ensures.same_draw client) stands
