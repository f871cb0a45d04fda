-- A session draws the salts that it needs.
use Rattle.std.proofs.Common.{◌≢◌, ℕ, List, [], ◌∷◌}
use Rattle.std.specs.List.{AllByRecursion}
use Rattle.salt_line.specs.Rows.{Row}
use Rattle.server_rules.specs.Server.{Session}
use Rattle.law_moves.specs.World.{World}
use Rattle.law_server_moves.specs.Servers.{AreNewSalts, IsNewSalt}

pub still_all : (w v : World) (word : ℕ) → ((b : ℕ) → IsNewSalt w b → b ≢ word → IsNewSalt v b) → (rows : List Row)
    → AllByRecursion (λ (row : Row). row.word ≢ word) rows → AreNewSalts w rows → AreNewSalts v rows
still_all w v word so [] differ h = tt
still_all w v word so (row ∷ rows) differ h = (so row.word h.0 differ.0, h.1, still_all w v word so rows differ.1 h.2)

abbrev pub with_all : List Row → Session → Session
with_all rows session = record session { salts = record session.salts { rows = rows } }
