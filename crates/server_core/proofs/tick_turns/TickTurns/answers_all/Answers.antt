use Rattle.std.proofs.Common.{length, subst}
use Rattle.waits.specs.Jobs.{Queue}
use Rattle.server_rules.specs.Event.{Setting, State}
use Rattle.server_rules.specs.Speaking.{msg_wait_failed, msg_wait_timeout}
use Rattle.server_rules.specs.Waiting.{after_timeouts, all_given_up, first_failed, first_overdue}
use Rattle.server_session.specs.Says.{setting_of}
use Rattle.server_core.specs.Answering.{IsInTick}
use Rattle.server_core.proofs.tick_turns.TickTurns.answers_all.Goals as goal

pub returns-clause-here : goal.returns-clause-here
returns-clause-here g c = λ ring all. c.answers_each-2.ensures.here ring (c.answers_each.ensures.here ring all)

pub returns-clause-ticks : goal.returns-clause-ticks
returns-clause-ticks g c = λ keys bindings draw state tick.
    let D : Type 0 = g.row.D.Denot in
    let now = c.args.now in
    let setting : Setting D = setting_of now g.D.Draw.step keys in
    let timed : State D = after_timeouts setting state in
    let one = c.answers_each.new in
    let two = c.answers_each-2.new in
    let first : IsInTick now one.sessions one.self.list.items one.self.order.items one.self.entries.entries one.jobs.jobs bindings draw timed =
    subst (λ (jobs : Queue). IsInTick now one.sessions one.self.list.items one.self.order.items one.self.entries.entries one.jobs.jobs bindings draw
    (all_given_up setting msg_wait_timeout (first_overdue now) (length jobs) state)) tick.jobs (c.answers_each.ensures.ticks keys bindings draw state tick) in
    subst (λ (jobs : Queue). IsInTick now two.sessions two.self.list.items two.self.order.items two.self.entries.entries two.jobs.jobs bindings draw
    (all_given_up setting msg_wait_failed first_failed (length jobs) timed)) first.jobs (c.answers_each-2.ensures.ticks keys bindings draw timed first)
