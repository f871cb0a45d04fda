-- Scaffolding, and no promise: the families of events that `step` hands on. Each is what the family before it leaves.
use Rattle.std.specs.Prelude.{⊤}
use Rattle.sched_text.specs.declared.event.Event.{Event}
use Rattle.sched_text.specs.declared.event.Event.TheVariants as line

-- what a client is asked to do, beside calls
abbrev pub IsWish : Event → Type 0
IsWish (line.TickClient client) = ⊤
IsWish (line.AttachClient client) = ⊤
IsWish (line.Ping client) = ⊤
IsWish (line.Salts client count) = ⊤
IsWish (line.DropAnswer client call) = ⊤
IsWish (line.Renew client) = ⊤
IsWish (line.End client) = ⊤
IsWish event = ⊥

-- bytes and calls, or a wish
abbrev pub IsBytesOrWish : Event → Type 0
IsBytesOrWish (line.Call client body after) = ⊤
IsBytesOrWish (line.Flush client) = ⊤
IsBytesOrWish (line.Give packet) = ⊤
IsBytesOrWish (line.ForeignClient client bytes) = ⊤
IsBytesOrWish event = IsWish event

-- what happens at the server, or one of these
abbrev pub IsAtServerOrOther : Event → Type 0
IsAtServerOrOther (line.ForeignServer bytes) = ⊤
IsAtServerOrOther (line.Work job) = ⊤
IsAtServerOrOther line.TickServer = ⊤
IsAtServerOrOther (line.AttachServer client) = ⊤
IsAtServerOrOther (line.Lose client) = ⊤
IsAtServerOrOther line.Restart = ⊤
IsAtServerOrOther event = IsBytesOrWish event
