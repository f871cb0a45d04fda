use Rattle.std.proofs.Common.{◌≡◌, ◌++◌, length, take}
use Rattle.client_rules.specs.Client.{Client, calls_of}
use Rattle.world_rules.specs.Report.{call_lines}
use Rattle.sim_text.specs.Clients.{StandsFor}
use Rattle.sim_text.proofs.client.push_calls.Given as goal

-- the lines of the calls so far stand behind the text
abbrev pub invariant-loop-place : goal.invariant-loop-place
invariant-loop-place l =
    ((whole : Client) → StandsFor l.holder whole → l.text ≡ l.fn.text ++ call_lines l.client 1 (take l.place (calls_of whole)))
    × (take (length l.fn.text) l.text ≡ l.fn.text)
