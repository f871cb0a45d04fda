-- What a client does that the trace of its batches tells of, in order.
use Rattle.std.specs.Prelude.{ℕ, Bool, true, false, List, [], ◌∷◌, ◌++◌, map}
use Rattle.call_script.specs.declared.script.ScriptCall.{ScriptCall}
use Rattle.transport.specs.Starts.{words_drawn}
use Rattle.client_node.specs.Course.{Course, Reading, attaches, hears, is_decided, must_renew, takes_packet}
use Rattle.client_node.specs.Talks.{Began, Close, Connection, Heard, Place, Refused, Rules, Said, Stopped, Talk, Turn, TurnsDone, Unread, Unstarted, begun, drawn, says, turns_from}
use Rattle.client_node.specs.Trace.{Attempt, Made, NoLink, after_all}
use Rattle.client_node.specs.declared.plan.Plan.{Plan}
use Rattle.law_connections.specs.Joint.{Deed, Attaches, Draws, Flushes, Hears, Renews, Submits}
use Rattle.law_runs.specs.Batches.{OneBatch, behind_batches}

-- a flush for each packet that was sent, and a last one that found nothing due, where there was one
abbrev pub flushes_of : ℕ → List (List ℕ) → List Deed
flushes_of now [] = []
flushes_of now (packet ∷ packets) = Flushes now ∷ flushes_of now packets

abbrev pub last_flush : ℕ → Bool → List Deed
last_flush now true = Flushes now ∷ []
last_flush now false = []

abbrev pub said_deeds : ℕ → Said → List Deed
said_deeds now said = flushes_of now said.packets ++ last_flush now said.is_done

-- it goes on in another session where it has to
abbrev pub renewal : Bool → List Deed
renewal true = Renews ∷ []
renewal false = []

abbrev pub renew_deeds : {S : Type 0} → Course S → List Deed
renew_deeds course = renewal (must_renew course.phase course.client)

-- the same behind a packet, unless each call is decided
abbrev pub renewal_unless : {S : Type 0} → Bool → Course S → List Deed
renewal_unless true course = []
renewal_unless false course = renew_deeds course

abbrev pub packet_deeds : {S : Type 0} → Reading → ℕ → Course S → List ℕ → List Deed
packet_deeds reading now course packet =
    let after = hears reading now course packet in
    Hears now packet ∷ renewal_unless (is_decided after.client) after

abbrev pub heard_deeds : {S : Type 0} → (S → ℕ × S) → Reading → ℕ → Course S → List (List ℕ) → List Deed
heard_deeds step reading now course [] = []
heard_deeds step reading now course (packet ∷ packets) =
    packet_deeds reading now course packet ++ heard_deeds step reading now (takes_packet step reading now course packet) packets

-- of a turn: what is sent before the read, and the packets that are heard behind it
abbrev pub turn_deeds : {S : Type 0} → Rules S → Turn → Place S → List Deed
turn_deeds rules turn place =
    said_deeds place.now turn.said ++ heard_deeds rules.setting.step rules.reading turn.moment (says rules turn.said place).course turn.heard

-- of a list of turns, the last one first
abbrev pub turns_deeds : {S : Type 0} → Rules S → Place S → List Turn → List Deed
turns_deeds rules place [] = []
turns_deeds rules place (last ∷ earlier) = turns_deeds rules place earlier ++ turn_deeds rules last (turns_from rules place earlier)

-- of what came behind the turns
abbrev pub close_deeds : {S : Type 0} → Rules S → Said → Close → Place S → List Deed
close_deeds rules said (Stopped end) place = said_deeds place.now said
close_deeds rules said (Unread answer) place = said_deeds place.now said
close_deeds rules said TurnsDone place = said_deeds place.now said
close_deeds rules said (Heard piece moment heard end) place =
    said_deeds place.now said ++ heard_deeds rules.setting.step rules.reading moment (says rules said place).course heard

abbrev pub talk_deeds : {S : Type 0} → Rules S → Place S → Talk → List Deed
talk_deeds rules place talk = turns_deeds rules place talk.turns ++ close_deeds rules talk.said talk.close (turns_from rules place talk.turns)

-- of a connection: words are drawn for its start, it is attached, and then it talks
abbrev pub connection_deeds : {S : Type 0} → Rules S → Plan → Course S → Connection → List Deed
connection_deeds rules plan course (Refused first) = []
connection_deeds rules plan course (Unstarted first start) = Draws (words_drawn plan.obfuscate) ∷ []
connection_deeds rules plan course (Began first start opening talk) =
    Draws (words_drawn plan.obfuscate) ∷ Attaches ∷ (renew_deeds (attaches (drawn rules plan course)) ++ talk_deeds rules (begun rules plan course first) talk)

abbrev pub attempt_deeds : {S : Type 0} → Rules S → Plan → Course S → Attempt → List Deed
attempt_deeds rules plan course NoLink = []
attempt_deeds rules plan course (Made connection) = connection_deeds rules plan course connection

-- of all attempts, the last one first
abbrev pub attempts_deeds : {S : Type 0} → Rules S → Plan → Course S → List Attempt → List Deed
attempts_deeds rules plan course [] = []
attempts_deeds rules plan course (last ∷ earlier) =
    attempts_deeds rules plan course earlier ++ attempt_deeds rules plan (after_all rules plan course earlier) last

-- of all batches, the last one first
abbrev pub batches_deeds : {S : Type 0} → Rules S → Course S → List OneBatch → List Deed
batches_deeds rules course [] = []
batches_deeds rules course (last ∷ earlier) =
    batches_deeds rules course earlier ++ attempts_deeds rules last.plan (behind_batches rules course earlier) last.attempts

-- it is given the calls of a script
abbrev pub given_deeds : List ScriptCall → List Deed
given_deeds calls = map (λ call. Submits call.body call.after) calls
