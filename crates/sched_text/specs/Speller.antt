-- A text of any events: a plain speller, so that the grammar has something to say of each list of them.
use Rattle.std.specs.Prelude.{◌≤◌, ℕ, ◌+◌, List, [], ◌∷◌, ◌++◌, codes, decimal, Option, Some, None}
use Rattle.hex.specs.Hex.{encode_lower}
use Rattle.octets.specs.Bytes.{IsBytes}
use Rattle.sched_text.specs.declared.event.Event.{Event}
use Rattle.sched_text.specs.declared.event.Event.TheVariants.{Client, ClientTemp, ClockAll, ClockServer, ClockClient, Call, Flush, Give, ForeignServer, ForeignClient, Work, TickServer, TickClient, AttachServer, AttachClient, Ping, Salts, DropAnswer, Renew, End, Lose, Restart}
use Rattle.sched_text.specs.declared.schedule.Placed.{Placed}
use Rattle.sched_text.specs.Words.{IsNumber}
use Rattle.sched_text.specs.Events.{salts_max}

abbrev pub IsCallNumber : Option ℕ → Type 0
IsCallNumber None = Unit {0}
IsCallNumber (Some call) = IsNumber call

-- an event of numbers below 2^64 and of bytes
abbrev pub IsInRange : Event → Type 0
IsInRange Client = Unit {0}
IsInRange ClientTemp = Unit {0}
IsInRange (ClockAll at) = IsNumber at
IsInRange (ClockServer at) = IsNumber at
IsInRange (ClockClient client at) = IsNumber client × IsNumber at
IsInRange (Call client body after) = IsNumber client × IsBytes body × IsCallNumber after
IsInRange (Flush client) = IsNumber client
IsInRange (Give packet) = IsNumber packet
IsInRange (ForeignServer bytes) = IsBytes bytes
IsInRange (ForeignClient client bytes) = IsNumber client × IsBytes bytes
IsInRange (Work job) = IsNumber job
IsInRange TickServer = Unit {0}
IsInRange (TickClient client) = IsNumber client
IsInRange (AttachServer client) = IsNumber client
IsInRange (AttachClient client) = IsNumber client
IsInRange (Ping client) = IsNumber client
IsInRange (Salts client count) = IsNumber client × (count ≤ salts_max)
IsInRange (DropAnswer client call) = IsNumber client × IsNumber call
IsInRange (Renew client) = IsNumber client
IsInRange (End client) = IsNumber client
IsInRange (Lose client) = IsNumber client
IsInRange Restart = Unit {0}

abbrev pub AreInRange : List Event → Type 0
AreInRange [] = Unit {0}
AreInRange (event ∷ events) = IsInRange event × AreInRange events

-- lower case digits, or `-` for no byte
abbrev pub hex_word : List ℕ → List ℕ
hex_word [] = codes "-"
hex_word (byte ∷ bytes) = encode_lower (byte ∷ bytes)

abbrev pub after_words : Option ℕ → List (List ℕ)
after_words None = []
after_words (Some call) = codes "after" ∷ decimal call ∷ []

-- the words of an event; each body stands as `hex`
abbrev pub words_for : Event → List (List ℕ)
words_for Client = codes "client" ∷ []
words_for ClientTemp = codes "client" ∷ codes "temp" ∷ []
words_for (ClockAll at) = codes "clock" ∷ decimal at ∷ []
words_for (ClockServer at) = codes "clock" ∷ codes "server" ∷ decimal at ∷ []
words_for (ClockClient client at) = codes "clock" ∷ decimal client ∷ decimal at ∷ []
words_for (Call client body after) = codes "call" ∷ decimal client ∷ codes "hex" ∷ hex_word body ∷ after_words after
words_for (Flush client) = codes "flush" ∷ decimal client ∷ []
words_for (Give packet) = codes "give" ∷ decimal packet ∷ []
words_for (ForeignServer bytes) = codes "foreign" ∷ codes "server" ∷ hex_word bytes ∷ []
words_for (ForeignClient client bytes) = codes "foreign" ∷ decimal client ∷ hex_word bytes ∷ []
words_for (Work job) = codes "work" ∷ decimal job ∷ []
words_for TickServer = codes "tick" ∷ codes "server" ∷ []
words_for (TickClient client) = codes "tick" ∷ decimal client ∷ []
words_for (AttachServer client) = codes "attach" ∷ codes "server" ∷ decimal client ∷ []
words_for (AttachClient client) = codes "attach" ∷ decimal client ∷ []
words_for (Ping client) = codes "ping" ∷ decimal client ∷ []
words_for (Salts client count) = codes "salts" ∷ decimal client ∷ decimal count ∷ []
words_for (DropAnswer client call) = codes "drop" ∷ decimal client ∷ decimal call ∷ []
words_for (Renew client) = codes "renew" ∷ decimal client ∷ []
words_for (End client) = codes "end" ∷ decimal client ∷ []
words_for (Lose client) = codes "lose" ∷ decimal client ∷ []
words_for Restart = codes "restart" ∷ []

-- words with one blank between, which is a space
abbrev pub line_of : List (List ℕ) → List ℕ
line_of [] = []
line_of (word ∷ []) = word
line_of (word ∷ next ∷ words) = word ++ 32 ∷ line_of (next ∷ words)

-- one line an event
abbrev pub text_for : List Event → List ℕ
text_for [] = []
text_for (event ∷ events) = line_of (words_for event) ++ 10 ∷ text_for events

-- the events on lines one after the other, the first of which has this number
abbrev pub placed_from : ℕ → List Event → List Placed
placed_from number [] = []
placed_from number (event ∷ events) = record { event = event; line = number } ∷ placed_from (number + 1) events
