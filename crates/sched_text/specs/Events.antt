-- The words of an event.
use Rattle.std.specs.Prelude.{◌≡◌, ◌≤◌, ℕ, List, [], ◌∷◌, codes, decimal}
use Rattle.sched_text.specs.declared.event.Event.{Event}
use Rattle.sched_text.specs.declared.event.Event.TheVariants.{Client, ClientTemp, ClockAll, ClockServer, ClockClient, Call, Flush, Give, ForeignServer, ForeignClient, Work, TickServer, TickClient, AttachServer, AttachClient, Ping, Salts, DropAnswer, Renew, End, Lose, Restart}
use Rattle.sched_text.specs.Words.{IsNumber, IsHex}
use Rattle.sched_text.specs.Bodies.{SaysCall}

-- the most salts that a line asks for
abbrev pub salts_max : ℕ
salts_max = 4294967295

-- the words stand for this event
abbrev pub IsEvent : Event → List (List ℕ) → Type 0
IsEvent Client words = words ≡ codes "client" ∷ []
IsEvent ClientTemp words = words ≡ codes "client" ∷ codes "temp" ∷ []
IsEvent (ClockAll at) words = IsNumber at × (words ≡ codes "clock" ∷ decimal at ∷ [])
IsEvent (ClockServer at) words = IsNumber at × (words ≡ codes "clock" ∷ codes "server" ∷ decimal at ∷ [])
IsEvent (ClockClient client at) words = IsNumber client × IsNumber at × (words ≡ codes "clock" ∷ decimal client ∷ decimal at ∷ [])
IsEvent (Call client body after) words =
    IsNumber client × ((rest : List (List ℕ)) × SaysCall body after rest × (words ≡ codes "call" ∷ decimal client ∷ rest))
IsEvent (Flush client) words = IsNumber client × (words ≡ codes "flush" ∷ decimal client ∷ [])
IsEvent (Give packet) words = IsNumber packet × (words ≡ codes "give" ∷ decimal packet ∷ [])
IsEvent (ForeignServer bytes) words = (word : List ℕ) × IsHex bytes word × (words ≡ codes "foreign" ∷ codes "server" ∷ word ∷ [])
IsEvent (ForeignClient client bytes) words =
    IsNumber client × ((word : List ℕ) × IsHex bytes word × (words ≡ codes "foreign" ∷ decimal client ∷ word ∷ []))
IsEvent (Work job) words = IsNumber job × (words ≡ codes "work" ∷ decimal job ∷ [])
IsEvent TickServer words = words ≡ codes "tick" ∷ codes "server" ∷ []
IsEvent (TickClient client) words = IsNumber client × (words ≡ codes "tick" ∷ decimal client ∷ [])
IsEvent (AttachServer client) words = IsNumber client × (words ≡ codes "attach" ∷ codes "server" ∷ decimal client ∷ [])
IsEvent (AttachClient client) words = IsNumber client × (words ≡ codes "attach" ∷ decimal client ∷ [])
IsEvent (Ping client) words = IsNumber client × (words ≡ codes "ping" ∷ decimal client ∷ [])
IsEvent (Salts client count) words = IsNumber client × (count ≤ salts_max) × (words ≡ codes "salts" ∷ decimal client ∷ decimal count ∷ [])
IsEvent (DropAnswer client call) words = IsNumber client × IsNumber call × (words ≡ codes "drop" ∷ decimal client ∷ decimal call ∷ [])
IsEvent (Renew client) words = IsNumber client × (words ≡ codes "renew" ∷ decimal client ∷ [])
IsEvent (End client) words = IsNumber client × (words ≡ codes "end" ∷ decimal client ∷ [])
IsEvent (Lose client) words = IsNumber client × (words ≡ codes "lose" ∷ decimal client ∷ [])
IsEvent Restart words = words ≡ codes "restart" ∷ []
