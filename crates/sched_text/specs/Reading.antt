-- Scaffolding, and no promise: what words say, as functions that the contracts of `Words` and of private functions cite. What
-- they read is what words stand for (`laws::words_are_read`).
use Rattle.std.specs.Prelude.{ℕ, ◌^◌, nat_lt, nat_le, ◌==◌, ◌&&◌, Bool, true, false, if◌then◌else◌, List, [], ◌∷◌, length, codes, decimal, bytes_eq, Option, Some, None, Result, Ok, Err}
use Rattle.std.specs.Option.{option_map}
use Rattle.std.specs.Str.Parse.{digits_value}
use Rattle.hex.specs.Hex.{decode_of}
use Rattle.hex.specs.declared.error.FromHexError.{FromHexError}
use Rattle.regs_service.specs.Requests.{is_name}
use Rattle.sched_text.specs.declared.arguments.Arguments.{Arguments}
use Rattle.sched_text.specs.declared.arguments.Arguments.TheVariants as arguments
use Rattle.sched_text.specs.declared.verb.Verb.{Verb}
use Rattle.sched_text.specs.declared.verb.Verb.TheVariants as verb
use Rattle.sched_text.specs.declared.verb.Short.{Short}
use Rattle.sched_text.specs.declared.verb.Short.TheVariants as short
use Rattle.sched_text.specs.declared.verb.Kind.{Kind}
use Rattle.sched_text.specs.declared.verb.Kind.TheVariants as kind
use Rattle.sched_text.specs.declared.body.CallLine.{CallLine}
use Rattle.sched_text.specs.declared.event.Event.{Event}
use Rattle.sched_text.specs.declared.event.Event.TheVariants.{Client, ClientTemp, ClockAll, ClockServer, ClockClient, Call, Flush, Give, ForeignServer, ForeignClient, Work, TickServer, TickClient, AttachServer, AttachClient, Ping, Salts, DropAnswer, Renew, End, Lose, Restart}
use Rattle.sched_text.specs.Bodies.{add_body, get_body, pad_body, packed_body, pad_bytes_max}
use Rattle.sched_text.specs.Events.{salts_max}

-- the words that were lent
abbrev pub listed : Arguments → List (List ℕ)
listed arguments.Nothing = []
listed (arguments.One first) = first.now ∷ []
listed (arguments.Two first second) = first.now ∷ second.now ∷ []

infixl 10 ◌>>=◌
abbrev pub ◌>>=◌ : {A B : Type 0} → Option A → (A → Option B) → Option B
None >>= f = None
(Some x) >>= f = f x

-- ---- a word

unfoldable pub number_at : List ℕ → Option ℕ
number_at word =
    let number = digits_value 10 word in
    if nat_lt number (2 ^ 64) && bytes_eq (decimal number) word then Some number else None

abbrev pub not_empty : Result (List ℕ) FromHexError → Option (List ℕ)
not_empty (Ok bytes) = if length bytes == 0 then None else Some bytes
not_empty (Err fault) = None

unfoldable pub hex_at : List ℕ → Option (List ℕ)
hex_at word = if bytes_eq word (codes "-") then Some [] else not_empty (decode_of word)

-- ---- what the first of the words says, and the words behind it

abbrev pub number_from : List (List ℕ) → Option (ℕ × List (List ℕ))
number_from [] = None
number_from (word ∷ words) = number_at word >>= λ number. Some (number, words)

abbrev pub bytes_from : List (List ℕ) → Option (List ℕ × List (List ℕ))
bytes_from [] = None
bytes_from (word ∷ words) = hex_at word >>= λ bytes. Some (bytes, words)

-- whether no word is left
abbrev pub is_end : List (List ℕ) → Bool
is_end [] = true
is_end (word ∷ words) = false

-- ---- first words

-- what a table has under a word
abbrev pub find : {T : Type 0} → List ℕ → List (List ℕ × T) → Option T
find word [] = None
find word (row ∷ rows) = if bytes_eq word row.0 then Some row.1 else find word rows

-- those that end a session, a client or a server
abbrev pub ending_verbs : List (List ℕ × Verb)
ending_verbs =
    (codes "renew", verb.Plain short.Renew) ∷ (codes "end", verb.Plain short.End) ∷ (codes "lose", verb.Plain short.Lose)
    ∷ (codes "restart", verb.Plain short.Restart) ∷ []

-- and those that ask somebody for something
abbrev pub asking_verbs : List (List ℕ × Verb)
asking_verbs =
    (codes "attach", verb.Plain short.Attach) ∷ (codes "ping", verb.Plain short.Ping) ∷ (codes "salts", verb.Plain short.Salts)
    ∷ (codes "drop", verb.Plain short.DropAnswer) ∷ ending_verbs

-- and those by which something comes to somebody
abbrev pub coming_verbs : List (List ℕ × Verb)
coming_verbs =
    (codes "give", verb.Plain short.Give) ∷ (codes "foreign", verb.Foreign) ∷ (codes "work", verb.Plain short.Work)
    ∷ (codes "tick", verb.Plain short.Tick) ∷ asking_verbs

abbrev pub verbs : List (List ℕ × Verb)
verbs =
    (codes "client", verb.Plain short.Client) ∷ (codes "clock", verb.Plain short.Clock) ∷ (codes "call", verb.Call)
    ∷ (codes "flush", verb.Plain short.Flush) ∷ coming_verbs

abbrev pub kinds : List (List ℕ × Kind)
kinds = (codes "add", kind.Add) ∷ (codes "get", kind.Get) ∷ (codes "pad", kind.Pad) ∷ (codes "packed", kind.Packed) ∷ (codes "hex", kind.Hex) ∷ []

-- ---- what stands behind the first word

-- at most two words
abbrev pub few : List (List ℕ) → Option (List (List ℕ))
few [] = Some []
few (first ∷ []) = Some (first ∷ [])
few (first ∷ second ∷ []) = Some (first ∷ second ∷ [])
few (first ∷ second ∷ third ∷ more) = None

abbrev pub is_server : List ℕ → Bool
is_server word = bytes_eq word (codes "server")

abbrev pub one_number : List (List ℕ) → Option ℕ
one_number (word ∷ []) = number_at word
one_number _ = None

abbrev pub two_numbers : List (List ℕ) → Option (ℕ × ℕ)
two_numbers (first ∷ second ∷ []) = do
  m ← number_at first
  n ← number_at second
  Some (m, n)
two_numbers _ = None

abbrev pub client_at : List (List ℕ) → Option Event
client_at [] = Some Client
client_at (word ∷ []) = if bytes_eq word (codes "temp") then Some ClientTemp else None
client_at _ = None

abbrev pub clock_at : List (List ℕ) → Option Event
clock_at (at ∷ []) = option_map ClockAll (number_at at)
clock_at (first ∷ at ∷ []) =
    if is_server first then option_map ClockServer (number_at at)
    else (number_at first >>= λ client. number_at at >>= λ at. Some (ClockClient client at))
clock_at _ = None

abbrev pub tick_at : List (List ℕ) → Option Event
tick_at (word ∷ []) = if is_server word then Some TickServer else option_map TickClient (number_at word)
tick_at _ = None

abbrev pub attach_at : List (List ℕ) → Option Event
attach_at (client ∷ []) = option_map AttachClient (number_at client)
attach_at (first ∷ client ∷ []) = if is_server first then option_map AttachServer (number_at client) else None
attach_at _ = None

abbrev pub salts_at : List (List ℕ) → Option Event
salts_at words = do
  numbers ← two_numbers words
  if nat_le numbers.1 salts_max then Some (Salts numbers.0 numbers.1) else None

abbrev pub drop_at : List (List ℕ) → Option Event
drop_at words = option_map (λ numbers. DropAnswer numbers.0 numbers.1) (two_numbers words)

abbrev pub restart_at : List (List ℕ) → Option Event
restart_at [] = Some Restart
restart_at (word ∷ words) = None

abbrev pub foreign_at : List (List ℕ) → Option Event
foreign_at (first ∷ word ∷ []) =
    if is_server first then option_map ForeignServer (hex_at word)
    else (number_at first >>= λ client. hex_at word >>= λ bytes. Some (ForeignClient client bytes))
foreign_at _ = None

-- the event whose first word this is
abbrev pub short_event : Short → List (List ℕ) → Option Event
short_event short.Client words = client_at words
short_event short.Clock words = clock_at words
short_event short.Flush words = option_map Flush (one_number words)
short_event short.Give words = option_map Give (one_number words)
short_event short.Work words = option_map Work (one_number words)
short_event short.Tick words = tick_at words
short_event short.Attach words = attach_at words
short_event short.Ping words = option_map Ping (one_number words)
short_event short.Salts words = salts_at words
short_event short.DropAnswer words = drop_at words
short_event short.Renew words = option_map Renew (one_number words)
short_event short.End words = option_map End (one_number words)
short_event short.Lose words = option_map Lose (one_number words)
short_event short.Restart words = restart_at words

-- ---- calls

-- a body and the words behind it
abbrev pub body_with : Kind → List (List ℕ) → Option (List ℕ × List (List ℕ))
body_with kind.Add (name ∷ amount ∷ words) =
    if is_name name then (number_at amount >>= λ amount. Some (add_body name amount, words)) else None
body_with kind.Get (name ∷ words) = if is_name name then Some (get_body name, words) else None
body_with kind.Pad (len ∷ words) =
    number_at len >>= λ len. if nat_le len pad_bytes_max then Some (pad_body len, words) else None
body_with kind.Packed words = Some (packed_body, words)
body_with kind.Hex (word ∷ words) = hex_at word >>= λ bytes. Some (bytes, words)
body_with _ _ = None

abbrev pub body_at : List (List ℕ) → Option (List ℕ × List (List ℕ))
body_at [] = None
body_at (word ∷ words) = find word kinds >>= λ kind. body_with kind words

-- `after N`, where anything stands there
abbrev pub after_at : List (List ℕ) → Option (Option ℕ)
after_at [] = Some None
after_at (word ∷ call ∷ []) = if bytes_eq word (codes "after") then option_map Some (number_at call) else None
after_at _ = None

abbrev pub call_at : List (List ℕ) → Option CallLine
call_at words = do
  body ← body_at words
  after ← after_at body.1
  Some (record { body = body.0; after = after })

abbrev pub call_event : List (List ℕ) → Option Event
call_event [] = None
call_event (client ∷ words) = number_at client >>= λ client. call_at words >>= λ call. Some (Call client call.body call.after)

-- ---- lines

abbrev pub event_with : Verb → List (List ℕ) → Option Event
event_with verb.Call words = call_event words
event_with verb.Foreign words = few words >>= foreign_at
event_with (verb.Plain first) words = few words >>= short_event first

abbrev pub event_at : List (List ℕ) → Option Event
event_at [] = None
event_at (word ∷ words) = find word verbs >>= λ verb. event_with verb words
