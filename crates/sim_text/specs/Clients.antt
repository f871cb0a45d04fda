-- A client in one of its states, and the client that it stands for.
use Rattle.std.specs.Prelude.{Option, Some, None}
use Rattle.client_rules.specs.Client.{Client}
use Rattle.client_core.specs.Holding.{kept_of}
use Rattle.client_core.specs.Kept.{Stands}
use Rattle.client_core.specs.declared.holder.Holder.{Holder}
use Rattle.world_rules.specs.World.{Seat}

-- it stands for this client
abbrev pub StandsFor : Holder → Client → Type 0
StandsFor kept client = Stands (kept_of kept) client

-- this is the client of a seat that is there
abbrev pub IsClientOf : Holder → Option Seat → Type 0
IsClientOf kept None = ⊥
IsClientOf kept (Some seat) = StandsFor kept seat.client
