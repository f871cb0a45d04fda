-- A client between the events of its connections, and what each event makes of it.
use Rattle.std.specs.Prelude.{◌≡◌, ℕ, max, not, ◌&&◌, ◌||◌, Bool, true, false, if◌then◌else◌, Option, Some, List, [], ◌∷◌, fold, ⊤}
use Rattle.std.specs.List.{list_any}
use Rattle.draws.specs.Draws.{draw_after, word_after}
use Rattle.envelope.specs.declared.parts.Envelope.{Envelope}
use Rattle.call_table.specs.Table.{Call, is_held, is_sent}
use Rattle.call_table.specs.Table as table
use Rattle.client_rules.specs.Client.{Binding, Held, Client, calls_of}
use Rattle.client_rules.specs.Asking.{attached, binding_of}
use Rattle.client_rules.specs.Events.{renewed, takes}
use Rattle.client_rules.specs.Flush.{Flushed, Nothing, flush}
use Rattle.client_rules.specs.Sending.{Setting}
use Rattle.auth_keys.specs.declared.ring.RingKey.{RingKey}
use Rattle.envelope.specs.Packet.{Lock}
pub use Rattle.client_core.specs.Holding.{Phase, Opening, Open, Ended, phase_after}
use Rattle.client_core.specs.Flushed.{TellsFlush}
use Rattle.client_core.specs.declared.flush.Flush.{Flush}
use Rattle.client_core.specs.declared.flush.Flush.TheVariants as told

-- ---- the state of a client

-- a client in its state, and what is drawn after it
pub record Course (S : Type 0) : Type 0 where
  pub phase : Phase
  pub client : Client
  pub draw : S

-- ---- its calls

-- it isn't decided yet what became of a call
abbrev pub is_undecided : Call → Bool
is_undecided call = table.is_open call.state

-- every call is `Done`, `Refused` or `Unknown`
abbrev pub is_decided : Client → Bool
is_decided client = not (list_any is_undecided (calls_of client))

abbrev pub is_binding_held : Option Binding → Bool
is_binding_held (Some Held) = true
is_binding_held _ = false

-- a call or the binding waits for another session, and no call is sent
abbrev pub is_stuck : Client → Bool
is_stuck client =
    (is_binding_held (binding_of client) || list_any (λ call. is_held call.state) (calls_of client))
    && not (list_any (λ call. is_sent call.state) (calls_of client))

-- and the client is open: it goes on in another session
abbrev pub must_renew : Phase → Client → Bool
must_renew Open client = is_stuck client
must_renew Opening client = false
must_renew Ended client = false

-- ---- events

-- a connection was opened; an ended client sends nothing again
abbrev pub attached_in : Phase → Client → Client
attached_in Ended client = client
attached_in Opening client = attached client
attached_in Open client = attached client

abbrev pub attaches : {S : Type 0} → Course S → Course S
attaches course = record course { client = attached_in course.phase course.client }

-- it goes on in a session whose number is drawn
abbrev pub renews_if : {S : Type 0} → Bool → (S → ℕ × S) → Course S → Course S
renews_if false step course = course
renews_if true step course =
    record {
      phase = Opening;
      client = renewed (word_after step 0 course.draw) course.client;
      draw = draw_after step 1 course.draw;
    }

abbrev pub renews : {S : Type 0} → (S → ℕ × S) → Course S → Course S
renews step course = renews_if (must_renew course.phase course.client) step course

-- What packets open to at a moment, which is for the seal to say.
abbrev pub Reading : Type 0
Reading = ℕ → List ℕ → Option Envelope

-- A packet came; an ended client takes none.
abbrev pub heard_in : Phase → ℕ → Option Envelope → Client → Client
heard_in Ended now opened client = client
heard_in Opening now opened client = takes now opened client
heard_in Open now opened client = takes now opened client

-- under the greatest moment that the client was given
abbrev pub opened_at : Reading → ℕ → Client → List ℕ → Option Envelope
opened_at reading now client packet = reading (max client.now now) packet

abbrev pub hears : {S : Type 0} → Reading → ℕ → Course S → List ℕ → Course S
hears reading now course packet =
    let after = heard_in course.phase now (opened_at reading now course.client packet) course.client in
    record course { phase = phase_after course.phase after; client = after }

-- The same, and then it goes on in another session where it has to, unless each call is decided.
abbrev pub renews_unless : {S : Type 0} → Bool → (S → ℕ × S) → Course S → Course S
renews_unless true step course = course
renews_unless false step course = renews step course

abbrev pub takes_packet : {S : Type 0} → (S → ℕ × S) → Reading → ℕ → Course S → List ℕ → Course S
takes_packet step reading now course packet =
    let after = hears reading now course packet in
    renews_unless (is_decided after.client) step after

-- a flush; nothing is due at an ended client
abbrev pub flushed_in : {S : Type 0} → Phase → Setting S → ℕ → Client → S → Flushed S
flushed_in Ended setting now client draw = record { answer = Nothing; client = client; draw = draw }
flushed_in Opening setting now client draw = flush setting now client draw
flushed_in Open setting now client draw = flush setting now client draw

abbrev pub flush_of : {S : Type 0} → Setting S → ℕ → Course S → Flushed S
flush_of setting now course = flushed_in course.phase setting now course.client course.draw

abbrev pub flushes : {S : Type 0} → Setting S → ℕ → Course S → Course S
flushes setting now course =
    let done = flush_of setting now course in
    record course { client = done.client; draw = done.draw }

-- ---- what is sent before the next piece is read

-- there is a flush only while a call isn't decided, and it answers so
abbrev pub Answers : {S : Type 0} → Setting S → Lock → List RingKey → ℕ → Course S → Flush → Type 0
Answers setting lock keys now course answer =
    (is_decided course.client ≡ false) × TellsFlush lock keys (flush_of setting now course).answer answer

-- these packets are those of as many flushes, one after the other
abbrev pub AreSent : {S : Type 0} → Setting S → Lock → List RingKey → ℕ → Course S → List (List ℕ) → Type 0
AreSent setting lock keys now course [] = ⊤
AreSent setting lock keys now course (packet ∷ packets) =
    Answers setting lock keys now course (told.Packet packet)
    × AreSent setting lock keys now (flushes setting now course) packets

abbrev pub sends_all : {S : Type 0} → Setting S → ℕ → Course S → List (List ℕ) → Course S
sends_all setting now course packets = fold (λ so_far packet. flushes setting now so_far) course packets
