-- The world after a move.
use Rattle.std.specs.Prelude.{ℕ, suc, ◌==◌, nat_lt, Bool, true, false, ◌&&◌, ◌||◌, if◌then◌else◌, List, [], ◌∷◌, length, Option, Some, None}
use Rattle.std.specs.List.{list_any, list_all}
use Rattle.law_moves.specs.Table.{CallId, Text, State, Name, Call, Client, Message, Item, call_at, same_call}
use Rattle.law_moves.specs.Table.Cause.{ServerSessionLost, Renewed, Ended, Forgotten}
use Rattle.law_moves.specs.Table.State.{Queued, Sent, Held, Done, Refused, Unknown}
use Rattle.law_moves.specs.Table.Status.{Standing, Lost}
use Rattle.law_moves.specs.Table.Item.{NewSession, Result, Notice, WrongSalt}
use Rattle.law_moves.specs.World.{World}
use Rattle.law_moves.specs.Move.{OwnAct, Part, Move}
use Rattle.law_moves.specs.Move.OwnAct.{NewClient, Renew, Submit, GiveUp, End}
use Rattle.law_moves.specs.Move.Part.{First, Again, Other, OtherAgain}
use Rattle.law_moves.specs.Move.Move.{Own, Send, Make, Draw, Judge, Forget, Answer, Speak, Hear, Lose}

-- A client learns at most this many unique numbers under one session number. One more ends it
abbrev pub LEARNT_MAX : ℕ
LEARNT_MAX = 1024

-- A client by itself

abbrev pub state_renewed : State → State
state_renewed Queued = Queued
state_renewed Sent = Unknown Renewed
state_renewed Held = Queued
state_renewed (Done reply) = Done reply
state_renewed (Refused code) = Refused code
state_renewed (Unknown cause) = Unknown cause

abbrev pub state_ended : State → State
state_ended Queued = Refused 0
state_ended Sent = Unknown Ended
state_ended Held = Refused 0
state_ended (Done reply) = Done reply
state_ended (Refused code) = Refused code
state_ended (Unknown cause) = Unknown cause

-- the calls of one client, each with a new state
abbrev pub with_states : ℕ → (Call → State) → (CallId → Call) → CallId → Call
with_states client state calls =
    λ call. record (calls call) { state = if call.client == client then state (calls call) else (calls call).state }

abbrev pub end_client : World → ℕ → World
end_client w client =
    record w {
      clients = λ other. record (w.clients other) { ended = if other == client then true else (w.clients other).ended };
      calls = with_states client (λ call. state_ended call.state) w.calls;
    }

abbrev pub after_own : World → OwnAct → World
after_own w (NewClient client session) =
    record w {
      clients =
          λ other.
          if other == client
          then record { present = session; former = []; salt = 0; learnt = []; ended = false }
          else w.clients other;
    }
after_own w (Renew client session) =
    record w {
      clients =
          λ other.
          if other == client
          then record (w.clients other) { present = session; former = (w.clients other).present ∷ (w.clients other).former; salt = 0; learnt = [] }
          else w.clients other;
      calls = with_states client (λ call. state_renewed call.state) w.calls;
    }
after_own w (Submit client body) =
    record w {
      submitted = λ other. if other == client then suc (w.submitted other) else w.submitted other;
      calls =
          λ call.
          record (w.calls call) {
            body = if same_call call (call_at client (w.submitted client)) then body else (w.calls call).body;
            state = if same_call call (call_at client (w.submitted client)) then Queued else (w.calls call).state;
          };
    }
after_own w (GiveUp given_up) =
    record w {
      calls = λ call. record (w.calls call) { state = if same_call call given_up then Refused 0 else (w.calls call).state };
    }
after_own w (End client) = end_client w client

-- A client sends

-- a message with the client's present session number and salt
abbrev pub message_of : Client → ℕ → Option Text → Message
message_of client number call =
    record { session = client.present; salt = client.salt; number = number; call = call; known = client.learnt }

abbrev pub name_of : World → Client → ℕ → Name
name_of w client number = record { session = client.present; number = number; first = w.time; known = client.learnt }

abbrev pub after_part : World → ℕ → Part → World
after_part w client (First place number) =
    record w {
      ups = message_of (w.clients client) number (Some (w.calls (call_at client place)).body) ∷ w.ups;
      calls =
          λ call.
          record (w.calls call) {
            state = if same_call call (call_at client place) then Sent else (w.calls call).state;
            names =
                if same_call call (call_at client place)
                then name_of w (w.clients client) number ∷ (w.calls call).names
                else (w.calls call).names;
          };
    }
after_part w client (Again place number) =
    record w { ups = message_of (w.clients client) number (Some (w.calls (call_at client place)).body) ∷ w.ups }
after_part w client (Other number) = record w { ups = message_of (w.clients client) number None ∷ w.ups }
after_part w client (OtherAgain number) = record w { ups = message_of (w.clients client) number None ∷ w.ups }

abbrev pub after_parts : World → ℕ → List Part → World
after_parts w client [] = w
after_parts w client (part ∷ parts) = after_parts (after_part w client part) client parts

-- A client hears

abbrev pub is_sent : State → Bool
is_sent Queued = false
is_sent Sent = true
is_sent Held = false
is_sent (Done reply) = false
is_sent (Refused code) = false
is_sent (Unknown cause) = false

-- the newest name has this session number and this number
abbrev pub is_newest : List Name → ℕ → ℕ → Bool
is_newest [] session number = false
is_newest (name ∷ older) session number = (name.session == session) && (name.number == number)

-- the call whose living name has this number under the client's present session number gets the state; there is at most one
abbrev pub after_settled : World → ℕ → ℕ → State → World
after_settled w client number state =
    record w {
      calls =
          with_states client (
          λ call.
          if is_sent call.state && is_newest call.names (w.clients client).present number then state else call.state
          ) w.calls;
    }

-- what a notice makes of a call (Notice of Ignored Error Message): 16, too low a number, and 48, a wrong salt, queue it; 17, too high a number,
-- holds it until its client renews; 20, too old a number, may be one that ran; any other is final
abbrev pub state_noticed : ℕ → State
state_noticed code =
    if code == 16
    then Queued
    else if code == 48 then Queued else if code == 17 then Held else if code == 20 then Unknown Forgotten else Refused code

-- all salts that a name was sent under
abbrev pub salts_of : List Message → Name → List ℕ
salts_of [] name = []
salts_of (message ∷ ups) name =
    if (message.session == name.session) && (message.number == name.number)
    then message.salt ∷ salts_of ups name
    else salts_of ups name

-- the same for the newest of these names
abbrev pub newest_salts : List Message → List Name → List ℕ
newest_salts ups [] = []
newest_salts ups (name ∷ older) = salts_of ups name

abbrev pub is_nil : List ℕ → Bool
is_nil [] = true
is_nil (n ∷ ns) = false

-- What a new unique number makes of a call whose living name was sent under these salts. One that was sent under salt 0 alone ran nowhere. One
-- that was sent under the new server session's salt may run there, where this is the first that is learnt
abbrev pub state_learnt : List ℕ → ℕ → List ℕ → State
state_learnt learnt salt salts =
    if list_all (λ under. under == 0) salts
    then Queued
    else if is_nil learnt && list_all (λ under. (under == 0) || (under == salt)) salts then Sent else Unknown ServerSessionLost

abbrev pub after_learnt : World → ℕ → ℕ → ℕ → World
after_learnt w client unique salt =
    record w {
      clients =
          λ other.
          record (w.clients other) {
            salt = if other == client then salt else (w.clients other).salt;
            learnt = if other == client then unique ∷ (w.clients other).learnt else (w.clients other).learnt;
          };
      calls =
          with_states client (
          λ call.
          if is_sent call.state
          then state_learnt (w.clients client).learnt salt (newest_salts w.ups call.names)
          else call.state
          ) w.calls;
    }

-- A unique number that was learnt already changes nothing. One that there is no room for ends the client, and does nothing else
abbrev pub learn : World → ℕ → ℕ → ℕ → World
learn w client unique salt =
    if list_any (λ known. known == unique) (w.clients client).learnt
    then w
    else if nat_lt (length (w.clients client).learnt) LEARNT_MAX then after_learnt w client unique salt else end_client w client

-- the client takes the salt over, or doesn't
abbrev pub after_salt : World → ℕ → ℕ → Bool → World
after_salt w client salt takes =
    record w {
      clients =
          λ other. record (w.clients other) { salt = if (other == client) && takes then salt else (w.clients other).salt };
    }

abbrev pub after_item : World → ℕ → Item → Bool → World
after_item w client (NewSession unique salt) takes = learn w client unique salt
after_item w client (Result number reply) takes = after_settled w client number (Done reply)
after_item w client (Notice number code) takes = after_settled w client number (state_noticed code)
after_item w client (WrongSalt number salt) takes = after_salt (after_settled w client number (state_noticed 48)) client salt takes

-- a client that has ended leaves the rest of a packet
abbrev pub after_heard : World → ℕ → Item → Bool → World
after_heard w client item takes = if (w.clients client).ended then w else after_item w client item takes

abbrev pub after_items : World → ℕ → List Item → List Bool → World
after_items w client [] takes = w
after_items w client (item ∷ items) [] = after_items (after_heard w client item false) client items []
after_items w client (item ∷ items) (take ∷ takes) = after_items (after_heard w client item take) client items takes

-- All moves

abbrev pub effect : World → Move → World
effect w (Own act) = after_own w act
effect w (Send client parts) = after_parts w client parts
effect w (Make unique session) =
    record w {
      servers =
          λ other.
          record (w.servers other) {
            session = if other == unique then session else (w.servers other).session;
            made = if other == unique then w.time else (w.servers other).made;
            status = if other == unique then Standing else (w.servers other).status;
          };
    }
effect w (Draw unique salt) =
    record w {
      servers =
          λ other.
          record (w.servers other) {
            salts = if other == unique then salt ∷ (w.servers other).salts else (w.servers other).salts;
          };
    }
effect w (Judge unique message outcome) =
    record w {
      servers =
          λ other.
          record (w.servers other) {
            judged =
                if other == unique
                then record { number = message.number; outcome = outcome } ∷ (w.servers other).judged
                else (w.servers other).judged;
          };
    }
effect w (Forget unique number) =
    record w {
      servers =
          λ other.
          record (w.servers other) {
            forgotten = if other == unique then number ∷ (w.servers other).forgotten else (w.servers other).forgotten;
          };
    }
effect w (Answer unique number body reply) =
    record w { entries = record { server = unique; number = number; request = body; reply = reply } ∷ w.entries }
effect w (Speak unique items) = record w { downs = record { server = unique; items = items } ∷ w.downs }
effect w (Hear client packet takes) = after_items w client packet.items takes
effect w (Lose unique) =
    record w {
      servers =
          λ other.
          record (w.servers other) { status = if other == unique then Lost w.time else (w.servers other).status };
    }

-- the world after a move, one move later
abbrev pub after : World → Move → World
after w move = record (effect w move) { time = suc w.time }
