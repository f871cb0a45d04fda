use Rattle.std.proofs.Common.{◌≡◌, ◌++◌, List, length, take}
use Rattle.world_rules.specs.Report.{client_lines}
use Rattle.world_rules.specs.World.{Seat}
use Rattle.sim_text.proofs.clients.push_clients.Given as goal

-- the lines of the clients so far stand behind the text
abbrev pub invariant-loop-place : goal.invariant-loop-place
invariant-loop-place g l =
    ((seats : List Seat) → g.C.Clients.stands l.clients seats → l.text ≡ l.fn.text ++ client_lines 1 (take l.place seats))
    × (take (length l.fn.text) l.text ≡ l.fn.text)
