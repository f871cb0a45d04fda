use Rattle.std.proofs.Common.{◌≡◌, ◌∙◌, ℕ, List, ◌++◌, ◌+◌, ◌<◌, ◌≤◌, take, length, sym, ap, arith, None, inl, refl}
use Rattle.world_rules.specs.Refusals.{refusal}
use Rattle.world_rules.specs.Report.{whole_report}
use Rattle.world_rules.specs.Run.{step}
use Rattle.cmd_sim.specs.Worlds.{sim_setting, sim_world}
use Rattle.cmd_sim.proofs.Playing.{still-stands, plays-on, bytes-on, refuses-on, refuses-here, tells-why, answer-refused, ended, whole-world, whole-bytes}
use Rattle.cmd_sim.proofs.sim.play.Goals as goal

pub returns-in-Err : goal.returns-in-Err
returns-in-Err c =
    let events = c.args.events.now in
    let k = c.loop-place.place in
    let within : k < length events = omega arith in
    let world = sim_world (take k events) in
    answer-refused c.args.wire c.refused.result events c.line.result _ c.refused.ensures
    (λ why told. sym c.loop-place.invariant.refusal
    ∙ refuses-here events k c.event-event.result.now within c.event-event.ensures c.line.result why
    (tells-why (refusal sim_setting world c.event-event.result.now) c.in-Err.fault why (c.in-Err.ensures.refused world c.loop-place.invariant.stands) told) c.line.ensures)

pub loop-place-preserved : goal.loop-place-preserved
loop-place-preserved c =
    let events = c.args.events.now in
    let k = c.loop-place.place in
    let event = c.event-event.result.now in
    let within : k < length events = omega arith in
    let world = sim_world (take k events) in
    let lawful : refusal sim_setting world event ≡ None = c.in_default.ensures.refused world c.loop-place.invariant.stands in
    record {
      stands = still-stands (step sim_setting world event) (sim_world (take (k + 1) events)) (plays-on events k event within c.event-event.ensures) (c.in_default.ensures.stands world c.loop-place.invariant.stands);
      bytes = bytes-on events k event within c.event-event.ensures c.loop-place.invariant.bytes c.body_is_bytes.ensures;
      refusal = refuses-on events k event within c.event-event.ensures lawful ∙ c.loop-place.invariant.refusal;
    }

pub returns : goal.returns
returns c =
    let events = c.args.events.now in
    let k = c.loop-place.place in
    let done : length events ≤ k = omega arith in
    let stands = still-stands (sim_world (take k events)) (sim_world events) (whole-world events k done) c.loop-place.invariant.stands in
    let few = (c.draws_on.ensures (sim_world events) stands).0 c.if-not-draws_on.false in
    inl (record {
      done = refl;
      lawful = ended events k done c.loop-place.invariant.refusal;
      report = c.in_ok-report.ensures (sim_world events) stands ∙ ap (λ (t : List ℕ). t ++ whole_report sim_setting c.args.wire (sim_world events)) c.new-text.ensures;
      once = c.sim_executes_once.ensures events (whole-bytes events k done c.loop-place.invariant.bytes) few;
    })
