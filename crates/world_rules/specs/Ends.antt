-- What an event of one end does to its world.
use Rattle.std.specs.Prelude.{ℕ, ◌+◌, if◌then◌else◌, Option, Some, None, option_map, List, [], ◌∷◌, ◌++◌, map}
use Rattle.msg_ids.specs.Moments.{moment_of}
use Rattle.envelope.specs.declared.parts.Dir.{Dir}
use Rattle.envelope.specs.declared.parts.Dir.TheVariants.{Up, Down}
use Rattle.envelope.specs.declared.parts.Envelope.{Envelope}
use Rattle.regs_service.specs.Served.{Step}
use Rattle.waits.specs.declared.job.Job.{Job}
use Rattle.waits.specs.Jobs.{ready_job}
use Rattle.server_rules.specs.Server.{Session}
use Rattle.server_rules.specs.Event.{Entry, Sent, State, speaks}
use Rattle.server_rules.specs.Event as server
use Rattle.server_rules.specs.Answer.{begun, takes, runs, ticks, attaches}
use Rattle.server_rules.specs.Sending.{all_sent}
use Rattle.server_rules.specs.Events.{Course, Packet as Comes, Work, Tick, Attach, Loss, Restart, after_event, setting_at}
use Rattle.server_rules.specs.Events as events
use Rattle.client_rules.specs.Client.{Client}
use Rattle.client_rules.specs.Events.{Run, Take, step}
use Rattle.client_rules.specs.Events as wishes
use Rattle.client_rules.specs.Flush.{Answer, Nothing, Spent, Sends, Flushed, flush}
use Rattle.client_rules.specs.Sending as client
use Rattle.world_rules.specs.Setting.{Setting, at_server, at_client, as_heard, as_sealed}
use Rattle.world_rules.specs.World.{World, Packet, Seat, Entered, bytes_of, counted, changed_at, lost_in, owner, server_now, seat_now}

-- ---- the server

-- the server as events of a server see it
abbrev pub course_in : {S V : Type 0} → World S V → Course S V
course_in world = record { server = world.server; service = world.service; draw = world.draw; packets = []; entries = [] }

-- a packet down
abbrev pub sent_down : Sent → Packet
sent_down sent = record { dir = Down; envelope = as_sealed sent.envelope; padding = sent.padding }

-- The sessions once all is said, before those without numbers are lost. That is how they are last, where they are lost.
abbrev pub said : {S : Type 0} → server.Setting S → State S → List Session
said setting state = (all_sent setting state).sessions

abbrev pub said_by_work : {S V : Type 0} → server.Setting S → ℕ → Option Job → Step V → Course S V → List Session
said_by_work setting place None serve course = course.server.sessions
said_by_work setting place (Some job) serve course =
    said setting (runs setting place job (serve course.service job.request).0 (begun course.server course.draw))

abbrev pub said_by_packet : {S V : Type 0} → server.Setting S → Option server.Envelope → Course S V → List Session
said_by_packet setting None course = course.server.sessions
said_by_packet setting (Some envelope) course = said setting (takes setting envelope (begun course.server course.draw))

abbrev pub said_by : {S V : Type 0} → server.Setting S → Step V → Course S V → events.Event → List Session
said_by setting serve course (Comes moment envelope) = said_by_packet (setting_at setting moment course.server) envelope course
said_by setting serve course (Work moment place) =
    said_by_work (setting_at setting moment course.server) place (ready_job place course.server.jobs) serve course
said_by setting serve course (Tick moment) =
    let now = setting_at setting moment course.server in said now (ticks now (begun course.server course.draw))
said_by setting serve course (Attach moment name) =
    let now = setting_at setting moment course.server in said now (speaks name (attaches now) (begun course.server course.draw))
said_by setting serve course (Loss name) = course.server.sessions
said_by setting serve course Restart = course.server.sessions

-- an event of the server: its packets join the bag, and its entries are those of the present start
abbrev pub serves : {S V : Type 0} → Setting S V → events.Event → World S V → World S V
serves setting event world =
    let done = after_event (at_server setting) setting.serve setting.fresh (course_in world) event in
    record world {
      server = done.server;
      service = done.service;
      lost = world.lost ++ lost_in world.server.sessions (said_by (at_server setting) setting.serve (course_in world) event) done.server.sessions;
      draw = done.draw;
      entries = world.entries ++ map (λ entry. record { start = world.start; entry = entry }) done.entries;
      bag = world.bag ++ map sent_down done.packets;
    }

-- bytes come to the server
abbrev pub comes_up : {S V : Type 0} → Setting S V → List ℕ → World S V → World S V
comes_up setting bytes world =
    serves setting (Comes world.clock (option_map as_heard (setting.opens (server_now world) Up bytes))) world

-- ---- a client

abbrev pub seat_changed : ℕ → Client → List Seat → List Seat
seat_changed number client seats = changed_at number (λ seat. record seat { client = client }) seats

-- the client of this number does so
abbrev pub acts : {S V : Type 0} → Setting S V → ℕ → Seat → wishes.Event → World S V → World S V
acts setting number seat event world =
    let done = step (at_client setting) (record { client = seat.client; draw = world.draw }) event in
    record world { seats = seat_changed number done.client world.seats; draw = done.draw }

-- what a flush gives joins the bag
abbrev pub sent_up : Answer → List Packet
sent_up Nothing = []
sent_up Spent = []
sent_up (Sends packet) = record { dir = Up; envelope = packet.envelope; padding = packet.padding } ∷ []

abbrev pub flushed_at : {S V : Type 0} → Setting S V → Seat → World S V → Flushed S
flushed_at setting seat world = flush (at_client setting) (moment_of seat.clock) seat.client world.draw

abbrev pub flushes : {S V : Type 0} → Setting S V → ℕ → Seat → World S V → World S V
flushes setting number seat world =
    let done = flushed_at setting seat world in
    record world {
      seats = seat_changed number done.client world.seats;
      draw = done.draw;
      bag = world.bag ++ sent_up done.answer;
    }

-- bytes come to a client, unless it has ended
abbrev pub comes_down : {S V : Type 0} → Setting S V → ℕ → List ℕ → Seat → World S V → World S V
comes_down setting number bytes seat world =
    if seat.client.has_ended then world
    else acts setting number seat (Take (moment_of seat.clock) (setting.opens (seat_now seat) Down bytes)) world

-- ---- either end

-- the client of this number does so, where there is one
abbrev pub seated : {S V : Type 0} → Option Seat → (Seat → World S V → World S V) → World S V → World S V
seated None act world = world
seated (Some seat) act world = act seat world

abbrev pub with_seat : {S V : Type 0} → ℕ → (Seat → World S V → World S V) → World S V → World S V
with_seat number act world = seated (counted number world.seats) act world

abbrev pub comes_to_owner : {S V : Type 0} → Setting S V → List ℕ → Option ℕ → World S V → World S V
comes_to_owner setting bytes None world = world
comes_to_owner setting bytes (Some number) world = with_seat number (comes_down setting number bytes) world

-- bytes that go this way come to an end: up to the server, down to the client that has or had the session number
abbrev pub goes : {S V : Type 0} → Setting S V → Packet → Dir → World S V → World S V
goes setting packet Up world = comes_up setting (bytes_of setting packet) world
goes setting packet Down world =
    comes_to_owner setting (bytes_of setting packet) (owner packet.envelope.session world.seats) world

abbrev pub arrives : {S V : Type 0} → Setting S V → Option Packet → World S V → World S V
arrives setting None world = world
arrives setting (Some packet) world = goes setting packet packet.dir world
