-- A world: a server that may start again, clients, their clocks, and every packet that was ever made.
use Rattle.std.specs.Prelude.{ℕ, zero, suc, ◌==◌, ◌||◌, not, max, Bool, if◌then◌else◌, Option, Some, None, List, [], ◌∷◌, ◌++◌, slice_get}
use Rattle.std.specs.List.{filter, list_any}
use Rattle.msg_ids.specs.Moments.{moment_of}
use Rattle.envelope.specs.declared.parts.Dir.{Dir}
use Rattle.envelope.specs.declared.parts.Envelope.{Envelope}
use Rattle.waits.specs.declared.job.Job.{Job}
use Rattle.waits.specs.Jobs.{ready_job}
use Rattle.server_rules.specs.Server.{Server, Session, Name, fresh_server, name_of, is_named}
use Rattle.server_rules.specs.Event.{Entry}
use Rattle.client_rules.specs.Client.{Client}
use Rattle.world_rules.specs.Setting.{Setting}

-- ---- its parts

-- a packet as it was made: the way that it goes, its envelope and its padding
pub record Packet : Type 0 where
  pub dir : Dir
  pub envelope : Envelope
  pub padding : List ℕ

abbrev pub bytes_of : {S V : Type 0} → Setting S V → Packet → List ℕ
bytes_of setting packet = setting.sealed packet.dir packet.envelope packet.padding

-- a client with its clock, in seconds
pub record Seat : Type 0 where
  pub client : Client
  pub clock : ℕ

-- an entry with the start of the server in which it was made; starts count from 1
pub record Entered : Type 0 where
  pub start : ℕ
  pub entry : Entry

-- The present start of the server, with its clock, its lists and its service; the sessions that were lost, each as it was
-- last; the clients; the draw; the entries; and the packets, in the order in which they were made.
pub record World (S V : Type 0) : Type 0 where
  pub start : ℕ
  pub clock : ℕ
  pub server : Server
  pub service : V
  pub lost : List Session
  pub seats : List Seat
  pub draw : S
  pub entries : List Entered
  pub bag : List Packet

-- a world begins with one start of the server, no client, and all clocks at 0
abbrev pub begins : {S V : Type 0} → Setting S V → S → World S V
begins setting draw =
    record {
      start = 1;
      clock = 0;
      server = fresh_server;
      service = setting.fresh;
      lost = [];
      seats = [];
      draw = draw;
      entries = [];
      bag = [];
    }

-- ---- members that are counted from 1

abbrev pub counted : {X : Type 0} → ℕ → List X → Option X
counted zero xs = None
counted (suc place) xs = slice_get xs place

abbrev pub changed_from_0 : {X : Type 0} → ℕ → (X → X) → List X → List X
changed_from_0 place change [] = []
changed_from_0 zero change (x ∷ xs) = change x ∷ xs
changed_from_0 (suc place) change (x ∷ xs) = x ∷ changed_from_0 place change xs

abbrev pub changed_at : {X : Type 0} → ℕ → (X → X) → List X → List X
changed_at zero change xs = xs
changed_at (suc place) change xs = changed_from_0 place change xs

-- ---- the sessions of all starts

-- a session of this name is among these
abbrev pub has_named : Name → List Session → Bool
has_named name sessions = list_any (is_named name) sessions

-- those of the first sessions that aren't among the second by their names
abbrev pub missing : List Session → List Session → List Session
missing sessions left = filter (λ session. not (has_named (name_of session) left)) sessions

-- What is lost in an event, by the sessions before it, when all is said, and after it: some before anything is said, others
-- in the end. No session is made under the name of one that is lost in the same event.
abbrev pub lost_in : List Session → List Session → List Session → List Session
lost_in before said after = missing before said ++ missing said after

-- all sessions that were ever made, each as it is now, or was when it was lost
abbrev pub lives : {S V : Type 0} → World S V → List Session
lives world = world.lost ++ world.server.sessions

-- ---- clients

-- the session number is the client's, now or formerly
abbrev pub owns : ℕ → Client → Bool
owns session client = (client.session == session) || list_any (λ former. former == session) client.former

-- the number of the first client that has or had the session number
abbrev pub owner_from : ℕ → ℕ → List Seat → Option ℕ
owner_from number session [] = None
owner_from number session (seat ∷ seats) =
    if owns session seat.client then Some number else owner_from (suc number) session seats

abbrev pub owner : ℕ → List Seat → Option ℕ
owner session seats = owner_from 1 session seats

-- ---- moments: an end uses the greatest that it was given

abbrev pub server_now : {S V : Type 0} → World S V → ℕ
server_now world = max world.server.now (moment_of world.clock)

abbrev pub seat_now : Seat → ℕ
seat_now seat = max seat.client.now (moment_of seat.clock)

-- ---- jobs: those that are ready count from 1

abbrev pub counted_job : {S V : Type 0} → ℕ → World S V → Option Job
counted_job zero world = None
counted_job (suc place) world = ready_job place world.server.jobs
