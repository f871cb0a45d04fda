-- How a world of servers and clients stands in a world of the law on moves. There a client is told by its place among the
-- clients, from 0.
use Rattle.std.specs.Prelude.{◌≡◌, ◌≢◌, ℕ, Option, Some, None, option_map, slice_get, List}
use Rattle.std.specs.List.{AllByRecursion, Contains}
use Rattle.envelope.specs.declared.parts.Dir.{Dir}
use Rattle.envelope.specs.declared.parts.Dir.TheVariants.{Up, Down}
use Rattle.envelope.specs.declared.parts.Envelope.{Envelope}
use Rattle.law_server.specs.Order.{AreOrdered}
use Rattle.law_server_bounds.specs.Small.{AreSmall as AreKeptSmall}
use Rattle.law_moves.specs.Table.Status.{Unmade}
use Rattle.law_moves.specs.World as moves
use Rattle.law_moves.specs.World.{Owns}
use Rattle.law_moves.specs.Move.{Move}
use Rattle.law_moves.specs.Reached.{AreLawful, Reached, after_all}
use Rattle.law_client.specs.Clients.{IsNobody, StandsAs}
use Rattle.law_client.specs.Packets.{packet_items}
use Rattle.law_client.specs.Sent.{IsPacketSent}
use Rattle.world_rules.specs.World.{Packet, Seat, World, lives}
use Rattle.law_server_moves.specs.Worlds.{StandsIn as AreServersIn}

-- ---- clients

-- what stands in a place: a seat's client, or nobody yet
abbrev pub IsSeated : moves.World → ℕ → Option Seat → Type 0
IsSeated w place None = IsNobody w place
IsSeated w place (Some seat) = StandsAs w place seat.client

abbrev pub AreSeated : moves.World → List Seat → Type 0
AreSeated w seats = (place : ℕ) → IsSeated w place (slice_get seats place)

-- ---- keys

-- the key of a place's client
abbrev pub key_at : ℕ → List Seat → Option ℕ
key_at place seats = option_map (λ seat. seat.client.key) (slice_get seats place)

-- a client has or had this session number there, and has this key
pub record IsKeyOf (w : moves.World) (seats : List Seat) (session key : ℕ) : Type 0 where
  pub place : ℕ
  pub owned : Owns (w.clients place) session
  pub holds : key_at place seats ≡ Some key

-- ---- packets

-- a packet down is one of those that were made there, by a server session of its session number, with the items that a
-- client reads in it
pub record IsDown (w : moves.World) (envelope : Envelope) : Type 0 where
  pub unique : ℕ
  pub made : (w.servers unique).status ≢ Unmade
  pub session : (w.servers unique).session ≡ envelope.session
  pub there : Contains w.downs (record { server = unique; items = packet_items envelope })

-- A packet up has messages that were sent there, under a session number of a client with its key. A packet down is one
-- of the law's, with the items that a client reads in it.
abbrev pub IsThere : moves.World → List Seat → Dir → Envelope → Type 0
IsThere w seats Up envelope = IsPacketSent w.ups envelope × IsKeyOf w seats envelope.session envelope.key
IsThere w seats Down envelope = IsDown w envelope

abbrev pub IsBagged : moves.World → List Seat → Packet → Type 0
IsBagged w seats packet = IsThere w seats packet.dir packet.envelope

-- ---- a world

pub record WorldStands {S V : Type 0} (w : moves.World) (world : World S V) : Type 0 where
  -- lawful moves lead there
  pub reached : Reached w
  -- each client stands in its place, and nobody else
  pub seats : AreSeated w world.seats
  -- the server stands there with its sessions, those that were lost, its jobs and all entries
  pub server : AreServersIn w world
  -- its sessions and jobs fit each other
  pub ordered : AreOrdered world.server.sessions world.server.jobs
  -- each session that was ever made is under a session number of a client with its key
  pub keys : AllByRecursion (λ session. IsKeyOf w world.seats session.number session.key) (lives world)
  -- each packet that was ever made is there, one up under a session number of a client with its key
  pub bag : AllByRecursion (IsBagged w world.seats) world.bag
  -- keys, session numbers, unique numbers, salts, judged numbers and codes, and numbers of replied calls and jobs fit
  pub kept : AreKeptSmall world.server.sessions world.server.jobs

-- from a world of the law on, some list of lawful moves leads to where this world stands
abbrev pub MovesOn : {S V : Type 0} → moves.World → World S V → Type 0
MovesOn w world = (list : List Move) × AreLawful w list × WorldStands (after_all w list) world

-- some list of lawful moves leads to where the world stands
abbrev pub HasMoves : {S V : Type 0} → World S V → Type 0
HasMoves world = (w : moves.World) × WorldStands w world
