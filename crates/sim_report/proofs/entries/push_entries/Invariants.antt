use Rattle.std.proofs.Common.{◌≡◌, ◌++◌, List, length, take}
use Rattle.std.specs.List.{flat_map}
use Rattle.sim_server.specs.Registers.{entered_in}
use Rattle.sim_clients.specs.Standing.{Stand}
use Rattle.world_rules.specs.Report.{entry_line}
use Rattle.world_rules.specs.World.{Seat}
use Rattle.sim_report.proofs.entries.push_entries.Given as goal

-- the lines of the events so far stand behind the text
abbrev pub invariant-loop-event : goal.invariant-loop-event
invariant-loop-event l =
    ((seats : List Seat) → Stand l.clients seats → l.text ≡ l.fn.text ++ flat_map (λ event. flat_map (entry_line seats) (entered_in event)) (take l.event-index l.events))
    × (take (length l.fn.text) l.text ≡ l.fn.text)
