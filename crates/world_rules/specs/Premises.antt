-- What is taken for granted of a setting, and of the words and foreign bytes of a run.
use Rattle.std.specs.Prelude.{◌≡◌, ◌≢◌, ◌↔◌, ◌<◌, ◌^◌, is_some, ℕ, Bool, true, false, Option, Some, None, List, [], ◌∷◌, ◌++◌, map, Contains}
use Rattle.std.specs.List.{All, AllPairs, flat_map}
use Rattle.octets.specs.Bytes.{HasBytes, IsBytes}
use Rattle.regs_service.specs.Served.{IsReply}
use Rattle.temp_keys.specs.declared.binding.Inner.{Inner}
use Rattle.auth_keys.specs.declared.ring.RingKey.{RingKey}
use Rattle.envelope.specs.declared.parts.Dir.{Dir}
use Rattle.envelope.specs.declared.parts.Dir.TheVariants.{Up, Down}
use Rattle.envelope.specs.declared.parts.Envelope.{Envelope}
use Rattle.envelope.specs.Packet.{Lock, packet_of}
use Rattle.envelope.specs.Opening.{Opens}
use Rattle.auth_keys.specs.Rings.{entry_of}
use Rattle.sched_text.specs.declared.event.Event.{Event}
use Rattle.sched_text.specs.declared.event.Event.TheVariants as line
use Rattle.server_rules.specs.Server.{Session}
use Rattle.client_rules.specs.Client.{Client}
use Rattle.world_rules.specs.Setting.{Setting}
use Rattle.world_rules.specs.World.{World, Packet, Seat, Entered, bytes_of, counted, lives, server_now, seat_now}
use Rattle.world_rules.specs.Run.{step_any}

-- ---- the seal

-- The setting's bytes and openings are those of a lock under a ring: what opens is sealed in that direction, under a key
-- that is good at that moment.
pub record IsSealed {S V : Type 0} (lock : Lock) (ring : List RingKey) (setting : Setting S V) : Type 0 where
  pub sealed : (dir : Dir) (envelope : Envelope) (padding : List ℕ) (entry : RingKey) → entry_of envelope.key ring ≡ Some entry
      → setting.sealed dir envelope padding ≡ packet_of lock entry.key dir envelope padding
  pub opens : (now : ℕ) (dir : Dir) (bytes : List ℕ) (envelope : Envelope)
      → (setting.opens now dir bytes ≡ Some envelope ↔ Opens lock ring now dir bytes envelope)

-- The setting is one of a world: its keys are in the ring, its words have 64 bits, a reply is one, and what goes into
-- packets are bytes.
pub record IsSound {S V : Type 0} (ring : List RingKey) (setting : Setting S V) : Type 0 where
  pub permanent : is_some (entry_of setting.keys.permanent ring) ≡ true
  pub temporary : is_some (entry_of setting.keys.temporary ring) ≡ true
  pub words : (draw : S) → (setting.step draw).0 < 2 ^ 64
  pub replies : (service : V) (request : List ℕ) → IsReply (setting.serve service request).0 × IsBytes (setting.serve service request).0
  pub bindings : (perm number : ℕ) (random padding : List ℕ) (inner : Inner) → HasBytes 16 random → HasBytes 8 padding
      → IsBytes (setting.binding_message perm random number inner padding)

-- the body of a call is bytes
abbrev pub IsOfBytes : Event → Type 0
IsOfBytes (line.Call client body after) = IsBytes body
IsOfBytes _ = Unit {0}

-- ---- foreign bytes

-- the bytes are those of a packet of the world that goes this way
pub record WasMade {S V : Type 0} (setting : Setting S V) (world : World S V) (dir : Dir) (bytes : List ℕ) : Type 0 where
  pub packet : Packet
  pub made : Contains world.bag packet
  pub way : packet.dir ≡ dir
  pub same : bytes ≡ bytes_of setting packet

-- where the bytes open at an end, at its moment, they are such
abbrev pub OpensOnly : {S V : Type 0} → Setting S V → World S V → ℕ → Dir → List ℕ → Type 0
OpensOnly setting world now dir bytes =
    (envelope : Envelope) → setting.opens now dir bytes ≡ Some envelope → WasMade setting world dir bytes

abbrev pub IsByNoChance : {S V : Type 0} → Setting S V → World S V → Event → Type 0
IsByNoChance setting world (line.ForeignServer bytes) = OpensOnly setting world (server_now world) Up bytes
IsByNoChance setting world (line.ForeignClient client bytes) =
    (seat : Seat) → counted client world.seats ≡ Some seat → OpensOnly setting world (seat_now seat) Down bytes
IsByNoChance setting world _ = Unit {0}

-- over all events of a run in which foreign bytes are taken like packets, those that open are the bytes of a packet made in
-- that direction
abbrev pub NoChance : {S V : Type 0} → Setting S V → World S V → List Event → Type 0
NoChance setting world [] = Unit {0}
NoChance setting world (event ∷ events) = IsByNoChance setting world event × NoChance setting (step_any setting world event) events

-- ---- words

-- the session numbers that clients drew
abbrev pub sessions_drawn : Seat → List ℕ
sessions_drawn seat = seat.client.former ++ seat.client.session ∷ []

-- the unique number and the salts that a server's session drew
abbrev pub drawn_for_session : Session → List ℕ
drawn_for_session session = session.unique ∷ map (λ row. row.word) session.salts.rows

-- the words that were drawn for session numbers, unique numbers and salts
abbrev pub names_drawn : {S V : Type 0} → World S V → List ℕ
names_drawn world = flat_map sessions_drawn world.seats ++ flat_map drawn_for_session (lives world)

-- they aren't 0, and differ
pub record Fresh {S V : Type 0} (world : World S V) : Type 0 where
  pub some : All (λ word. word ≢ 0) (names_drawn world)
  pub apart : AllPairs (λ word other. word ≢ other) (names_drawn world)
