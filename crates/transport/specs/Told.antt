-- Scaffolding of proofs, and no promise: what the first bytes tell, at most 64 of them.
use Rattle.std.specs.Prelude.{◌≤◌, ℕ, List, length, drop}
use Rattle.transport.specs.Starts.{Starts, IsAwaited, IsRefused}
use Rattle.transport.specs.declared.start.Told as told
use Rattle.transport.specs.declared.start.Told.TheVariants.{Awaited, Refused, Opens}

abbrev pub TellsStart : List ℕ → told.Told → Type 0
TellsStart bytes Awaited = IsAwaited bytes
TellsStart bytes Refused = IsRefused bytes bytes
TellsStart bytes (Opens start form up down) =
    (start ≤ length bytes) × Starts bytes (record { form = form; up = up; down = down }) (drop start bytes)
