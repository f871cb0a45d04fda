-- An event that says nothing.
use Rattle.std.specs.Prelude.{ℕ, []}
use Rattle.server_rules.specs.Answer.{Answer}
use Rattle.server_rules.specs.Server.{Server}

-- it changes nothing but the moment, and draws nothing
abbrev pub quiet : {S : Type 0} → ℕ → Server → S → Answer S
quiet now server draw = record { server = record server { now = now }; draw = draw; packets = []; entries = [] }
