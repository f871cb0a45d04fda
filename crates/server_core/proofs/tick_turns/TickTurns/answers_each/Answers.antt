use Rattle.std.proofs.Common.{◌≡◌, ◌∙◌, None, length, refl, arith}
use Rattle.waits.specs.Jobs.{first_job}
use Rattle.server_rules.specs.Event.{Setting}
use Rattle.server_session.specs.Says.{setting_of}
use Rattle.server_core.specs.Answering.{test_of}
use Rattle.server_core.proofs.TickLoops.{goes-none, goes-on, goes-over}
use Rattle.server_core.proofs.tick_turns.TickTurns.answers_each.Goals as goal

pub loop-step-init : goal.loop-step-init
loop-step-init g c = record {
  voices = c.requires.voices;
  capacity = c.requires.capacity;
  tick = c.requires.tick;
  count = refl;
  here = λ ring all. all;
  ticks = λ keys bindings draw start is. record { state = start; left = length c.args.jobs.now.jobs; rest = omega arith; is = is; same = refl };
}

pub returns-then-not-answers_next-clause-here : goal.returns-then-not-answers_next-clause-here
returns-then-not-answers_next-clause-here g c = λ ring all. c.answers_next.ensures.here ring (c.loop-step.invariant.here ring all)

pub returns-then-not-answers_next-clause-ticks : goal.returns-then-not-answers_next-clause-ticks
returns-then-not-answers_next-clause-ticks g c = λ keys bindings draw state tick.
    let setting : Setting g.row.D.Denot = setting_of c.args.now g.D.Draw.step keys in
    let so_far = c.loop-step.invariant.ticks keys bindings draw state tick in
    let none : first_job (test_of c.args.now c.args.cause) c.loop-step.jobs.jobs ≡ None = c.answers_next.ensures.none c.if-not-answers_next.true in
    goes-none setting c.args.cause c.loop-step.step (length c.args.jobs.now.jobs) c.loop-step.sessions c.answers_next.new.sessions c.loop-step.self.list.items c.answers_next.new.self.list.items
    c.loop-step.self.order.items c.answers_next.new.self.order.items c.loop-step.self.entries.entries c.answers_next.new.self.entries.entries c.loop-step.jobs.jobs c.answers_next.new.jobs.jobs
    bindings draw state so_far none (c.answers_next.ensures.ticks keys bindings draw so_far.state so_far.is)

pub loop-step-preserved : goal.loop-step-preserved
loop-step-preserved g c =
    let so = c.loop-step.invariant in
    record {
      voices = c.answers_next.ensures.voices;
      capacity = c.answers_next.ensures.capacity;
      tick = c.answers_next.ensures.tick;
      count = c.answers_next.ensures.same_count ∙ so.count;
      here = λ ring all. c.answers_next.ensures.here ring (so.here ring all);
      ticks = λ keys bindings draw start tick.
          let setting : Setting g.row.D.Denot = setting_of c.args.now g.D.Draw.step keys in
          let so_far = so.ticks keys bindings draw start tick in
          let end = c.len-step-end.ensures in
          let more = c.loop-step-test.true in
          goes-on setting c.args.cause c.loop-step.step (length c.args.jobs.now.jobs) c.loop-step.sessions c.answers_next.new.sessions c.loop-step.self.list.items c.answers_next.new.self.list.items
          c.loop-step.self.order.items c.answers_next.new.self.order.items c.loop-step.self.entries.entries c.answers_next.new.self.entries.entries c.loop-step.jobs.jobs c.answers_next.new.jobs.jobs
          bindings draw start so_far (omega arith) (c.answers_next.ensures.ticks keys bindings draw so_far.state so_far.is);
    }

pub returns-clause-ticks : goal.returns-clause-ticks
returns-clause-ticks g c = λ keys bindings draw state tick.
    let setting : Setting g.row.D.Denot = setting_of c.args.now g.D.Draw.step keys in
    let so_far = c.loop-step.invariant.ticks keys bindings draw state tick in
    let end = c.len-step-end.ensures in
    let none = c.loop-step-test.false in
    goes-over setting c.args.cause c.loop-step.step (length c.args.jobs.now.jobs) c.loop-step.sessions c.loop-step.self.list.items c.loop-step.self.order.items
    c.loop-step.self.entries.entries c.loop-step.jobs.jobs bindings draw state so_far (omega arith)
