use Rattle.std.proofs.Common.{◌≡◌, ◌++◌, List, length, take}
use Rattle.std.specs.List.{flat_map}
use Rattle.sim_server.specs.Registers.{entered}
use Rattle.server_dispatch.specs.Entries.{entry_told}
use Rattle.sim_clients.specs.Standing.{Stand}
use Rattle.world_rules.specs.Report.{entry_line}
use Rattle.world_rules.specs.World.{Seat}
use Rattle.sim_report.proofs.entries.push_event.Given as goal

-- the lines of the entries so far stand behind the text
abbrev pub invariant-loop-entry : goal.invariant-loop-entry
invariant-loop-entry l =
    ((seats : List Seat) → Stand l.clients seats → l.text ≡ l.fn.text ++ flat_map (λ entry. entry_line seats (entered l.start (entry_told entry))) (take l.entry-index l.entries))
    × (take (length l.fn.text) l.text ≡ l.fn.text)
