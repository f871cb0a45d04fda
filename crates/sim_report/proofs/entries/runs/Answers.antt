use Rattle.std.proofs.Common.{◌≡◌, ◌∙◌, Some, ap, sym, slice_get, arith}
use Rattle.std.proofs.lemmas.Option.{slice_get-get_or}
use Rattle.sim_report.proofs.Counting.{runs_on}
use Rattle.sim_report.proofs.entries.runs.Goals as goal

pub loop-event-preserved : goal.loop-event-preserved
loop-event-preserved c =
    let events = c.args.events.now in
    let i = c.loop-event.event-index in
    let event = c.event-item.result in
    let here : slice_get events i ≡ Some event = slice_get-get_or events i event c.loop-event-test.true ∙ ap Some (sym c.event-item.is) in (
      runs_on events i c.loop-event.runs c.runs_in.result event c.as_slice.result.now here c.as_slice.ensures c.runs_in.ensures c.loop-event.invariant.0,
      omega (arith, c.loop-event.invariant.1),
    )
