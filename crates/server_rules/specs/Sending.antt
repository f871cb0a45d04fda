-- The messages that an event owes are put into packets, and those are sealed
-- (core.telegram.org/mtproto/description, "Encrypted Message").
use Rattle.std.specs.Prelude.{ℕ, ◌+◌, ◌-◌, ◌%◌, not, List, [], ◌∷◌, ◌++◌, fold, length, map}
use Rattle.std.specs.List.{filter}
use Rattle.draws.specs.Draws.{draw_after, next_bytes, words_for}
use Rattle.service_tl.specs.declared.lists.Message.{Message}
use Rattle.salt_line.specs.Line.{current_salt}
use Rattle.packing.specs.Packing.{packets_of, after_packets}
use Rattle.server_rules.specs.Server.{Name, is_same}
use Rattle.server_rules.specs.Event.{Setting, State, Speaker, Envelope, Owed, speaks}
use Rattle.server_rules.specs.Speaking.{needs_salts}

-- the sessions in order of their first messages
abbrev pub names_in : List Owed → List Name
names_in [] = []
names_in (owed ∷ others) = owed.name ∷ filter (λ other. not (is_same owed.name other)) (names_in others)

-- the messages of a session
abbrev pub messages_by : Name → List Owed → List Message
messages_by name owed = map (λ one. one.message) (filter (λ one. is_same name one.name) owed)

-- The least padding of at least 12 bytes that makes the whole a multiple of 16: salt, session number, message number,
-- seq and length take 32 bytes.
abbrev pub padding_bytes : ℕ → ℕ
padding_bytes body = 12 + (16 - (32 + body + 12) % 16) % 16

-- a packet is sealed under this salt: its padding is drawn
abbrev pub envelope_of : {S : Type 0} → ℕ → Speaker S → Message → Envelope
envelope_of salt speaker message =
    record {
      key = speaker.session.key;
      salt = salt;
      session = speaker.session.number;
      number = message.number;
      seq = message.seq;
      body = message.body;
    }

abbrev pub seals : {S : Type 0} → Setting S → ℕ → Speaker S → Message → Speaker S
seals setting salt speaker message =
    let bytes = padding_bytes (length message.body) in
    record speaker {
      draw = draw_after setting.step (words_for bytes) speaker.draw;
      sent =
          speaker.sent
          ++ record {
            envelope = envelope_of salt speaker message;
            padding = next_bytes setting.step bytes speaker.draw;
          } ∷ [];
    }

-- its messages go out: the containers among the packets are numbered now, and all packets have its current salt
abbrev pub sends : {S : Type 0} → Setting S → List Message → Speaker S → Speaker S
sends setting messages speaker =
    let ready = needs_salts setting 1 speaker in
    let counters = after_packets setting.now ready.session.counters messages in
    fold (seals setting (current_salt ready.session.salts setting.now))
    (record ready { session = record ready.session { counters = counters } })
    (packets_of setting.now ready.session.counters messages)

-- each session's packets stand together, in the order of their first messages
abbrev pub all_sent : {S : Type 0} → Setting S → State S → State S
all_sent setting state =
    fold (λ so_far name. speaks name (sends setting (messages_by name state.owed)) so_far) state (names_in state.owed)
