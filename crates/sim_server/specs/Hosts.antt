-- The server's side of a world, as it is kept.
use Rattle.std.specs.Prelude.{◌≡◌, ℕ, max, List, [], map, option_map}
use Rattle.auth_keys.specs.declared.ring.RingKey.{RingKey}
use Rattle.envelope.specs.Packet.{Lock}
use Rattle.envelope.specs.declared.parts.Dir.{Dir}
use Rattle.envelope.specs.declared.parts.Dir.TheVariants.{Up, Down}
use Rattle.msg_ids.specs.Moments.{moment_of}
use Rattle.server_output.specs.Outs.{AreSent}
use Rattle.server_output.specs.declared.outs.Out.{Out}
use Rattle.server_core.specs.Server.{Kept, StandsFor}
use Rattle.server_core.specs.declared.effects.Effects.{Effects}
use Rattle.server_rules.specs.Event.{Entry}
use Rattle.server_rules.specs.Events.{Course, Packet as Comes, after_event}
use Rattle.server_rules.specs.Server.{Server}
use Rattle.world_rules.specs.Setting.{Setting, as_heard, at_server}
use Rattle.world_rules.specs.World.{Entered, Packet, World, bytes_of}
use Rattle.sim_server.specs.Made.{Made, GoesUp, GoesDown}

-- What contracts see of the server's side of a world: the server of the present start, the greatest moment that it was given,
-- its service, its clock, the number of the start, every packet and every entry in order, and for how many more events there
-- is room.
pub record Host (S V : Type 0) : Type 0 where
  pub server : Kept S
  pub moment : ℕ
  pub service : V
  pub clock : ℕ
  pub start : ℕ
  pub bag : List Made
  pub entries : List Entered
  pub room : ℕ

-- a packet as it is kept: the bytes that the setting seals it to
abbrev pub kept_in : Dir → ℕ → List ℕ → Made
kept_in Up session bytes = GoesUp bytes
kept_in Down session bytes = GoesDown session bytes

abbrev pub kept_of : {D V : Type 0} → Setting D V → Packet → Made
kept_of setting packet = kept_in packet.dir packet.envelope.session (bytes_of setting packet)

-- It stands, with what words are drawn from, for a world of the definitions, whatever clients that has.
pub record Stands {S V D : Type 0} (setting : Setting D V) (host : Host S V) (draw : D) (world : World D V) : Type 0 where
  -- the server is that of the present start
  pub server : StandsFor host.server world.server
  pub moment : host.moment ≡ world.server.now
  -- its service, its clock, the draw, and the number of the start
  pub service : host.service ≡ world.service
  pub clock : host.clock ≡ world.clock
  pub drawn : draw ≡ world.draw
  pub start : host.start ≡ world.start
  -- each packet is kept as its bytes, in order, and each entry
  pub bag : host.bag ≡ map (kept_of setting) world.bag
  pub entries : host.entries ≡ world.entries

-- nothing changed but the room
abbrev pub Stays : {S V : Type 0} → Host S V → Host S V → Type 0
Stays before after = after ≡ record before { room = after.room }

-- Scaffolding, and no promise: what is kept of a server after an event, the draw, and what the event gave, are those of a course.
pub record Gave {S V D : Type 0} (lock : Lock) (ring : List RingKey) (kept : Kept S) (draw : D) (outs : List Out) (entries : List Entry) (done : Course D V) : Type 0 where
  pub stands : StandsFor kept done.server
  pub drawn : draw ≡ done.draw
  pub sent : AreSent lock ring done.packets outs
  pub entered : entries ≡ done.entries

abbrev pub Did : {S V D : Type 0} → Lock → List RingKey → Kept S → D → Effects → Course D V → Type 0
Did lock ring kept draw effects done = Gave lock ring kept draw effects.out.outs effects.entries.entries done

-- what bytes do that come to a server with this service by this clock
abbrev pub heard_by : {D V : Type 0} → Setting D V → Server → V → D → ℕ → List ℕ → Course D V
heard_by setting server service draw clock bytes =
    after_event (at_server setting) setting.serve setting.fresh
    (record { server = server; service = service; draw = draw; packets = []; entries = [] })
    (Comes clock (option_map as_heard (setting.opens (max server.now (moment_of clock)) Up bytes)))
