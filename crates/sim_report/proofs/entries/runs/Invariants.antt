use Rattle.std.proofs.Common.{◌≡◌, ◌*◌, ◌≤◌, ◌^◌, length, take}
use Rattle.std.specs.List.{filter, flat_map}
use Rattle.sim_server.specs.Registers.{entered_in}
use Rattle.sim_report.proofs.entries.runs.Given as goal

-- how many of the events so far ran, each of which made less than 2^64
abbrev pub invariant-loop-event : goal.invariant-loop-event
invariant-loop-event l =
    (l.runs ≡ length (filter (λ entered. entered.entry.ran) (flat_map entered_in (take l.event-index l.events)))) × (l.runs ≤ l.event-index * 2 ^ 64)
