-- Events that a client has by itself.
use Rattle.std.specs.Prelude.{⊤}
use Rattle.sched_text.specs.declared.event.Event.{Event}
use Rattle.sched_text.specs.declared.event.Event.TheVariants as line

-- a client joins, has a wish, sends, or ends, or clocks are set: nothing comes to anybody, and the server does nothing
abbrev pub IsOfClients : Event → Type 0
IsOfClients line.Client = ⊤
IsOfClients line.ClientTemp = ⊤
IsOfClients (line.ClockAll at) = ⊤
IsOfClients (line.ClockServer at) = ⊤
IsOfClients (line.ClockClient client at) = ⊤
IsOfClients (line.Call client body after) = ⊤
IsOfClients (line.Flush client) = ⊤
IsOfClients (line.TickClient client) = ⊤
IsOfClients (line.AttachClient client) = ⊤
IsOfClients (line.Ping client) = ⊤
IsOfClients (line.Salts client count) = ⊤
IsOfClients (line.DropAnswer client call) = ⊤
IsOfClients (line.Renew client) = ⊤
IsOfClients (line.End client) = ⊤
IsOfClients _ = ⊥
