-- What a client heard of a piece.
use Rattle.std.specs.Prelude.{◌≡◌, ◌⊎◌, ◌≢◌, ℕ, Bool, true, false, List, [], ◌∷◌, ◌++◌, fold, length, All, Option, Result, Ok, Err, ⊤}
use Rattle.auth_keys.specs.declared.ring.RingKey.{RingKey}
use Rattle.cipher_modes.specs.CounterMode.{CtrState}
use Rattle.envelope.specs.Packet.{Lock}
use Rattle.tl_codec.specs.declared.fault.FrameFault.{FrameFault}
use Rattle.framing.specs.Streams.{Begins, Faulty, Stream}
use Rattle.transport.specs.Directions.{through}
use Rattle.transport.specs.Forms.{framing_of}
use Rattle.transport.specs.Wires.{Hears, Line}
use Rattle.client_core.specs.declared.holder.Holder.{Holder}
use Rattle.client_node.specs.Course.{Course, Reading, hears, is_decided, takes_packet}
use Rattle.client_node.specs.Standing.{IsReading, StandsAs}
use Rattle.client_node.specs.declared.end.End.{End}
use Rattle.client_node.specs.declared.end.End.TheVariants.{Decided, Lost, TurnsSpent, Spent, Memory}

-- ---- a packet

-- each call is decided by it, before the client would go on in another session
abbrev pub decides : {S : Type 0} → Reading → ℕ → Course S → List ℕ → Bool
decides reading now course packet = is_decided (hears reading now course packet).client

-- A client that heard a packet: it goes on, or each call is decided; where memory ran out it is as it was.
abbrev pub TookPacket : {S : Type 0} → (S → ℕ × S) → Reading → ℕ → Course S → List ℕ → Result Unit End → Holder → S → Type 0
TookPacket step reading now course packet (Ok done) kept draw =
    (decides reading now course packet ≡ false) × StandsAs kept draw (takes_packet step reading now course packet)
TookPacket step reading now course packet (Err Decided) kept draw =
    (decides reading now course packet ≡ true) × StandsAs kept draw (takes_packet step reading now course packet)
TookPacket step reading now course packet (Err Memory) kept draw = StandsAs kept draw course
TookPacket step reading now course packet (Err Lost) kept draw = ⊥
TookPacket step reading now course packet (Err TurnsSpent) kept draw = ⊥
TookPacket step reading now course packet (Err Spent) kept draw = ⊥

-- how hearing a packet may end a connection
abbrev pub IsHeardEnd : End → Type 0
IsHeardEnd Decided = ⊤
IsHeardEnd Memory = ⊤
IsHeardEnd Lost = ⊥
IsHeardEnd TurnsSpent = ⊥
IsHeardEnd Spent = ⊥

-- and how what comes next may
abbrev pub IsNextEnd : End → Type 0
IsNextEnd Decided = ⊤
IsNextEnd Memory = ⊤
IsNextEnd Lost = ⊤
IsNextEnd TurnsSpent = ⊥
IsNextEnd Spent = ⊥

-- ---- what comes next over a wire

-- a packet has the size of a transport error
abbrev pub error_bytes : ℕ
error_bytes = 4

abbrev pub IsNoError : List ℕ → Type 0
IsNoError packet = length packet ≢ error_bytes

-- the bytes behind these packets lose the connection: by a transport error, or by a frame fault
pub record IsError (line : Line) (from : Option CtrState) (packets : List (List ℕ)) (bytes : List ℕ) : Type 0 where
  pub error : List ℕ
  pub size : length error ≡ error_bytes
  pub next : Begins (framing_of line.form) (packets ++ error ∷ []) (through from bytes)

pub record IsFaulty (line : Line) (from : Option CtrState) (packets : List (List ℕ)) (bytes : List ℕ) : Type 0 where
  pub fault : FrameFault
  pub shown : Faulty (framing_of line.form) packets fault (through from bytes)

abbrev pub IsLost : Line → Option CtrState → List (List ℕ) → List ℕ → Type 0
IsLost line from packets bytes = IsError line from packets bytes ⊎ IsFaulty line from packets bytes

-- a packet comes next, and is taken
pub record IsNext (line : Line) (from : Option CtrState) (packets : List (List ℕ)) (bytes packet : List ℕ) (line_then : Line) : Type 0 where
  pub next : Begins (framing_of line.form) (packets ++ packet ∷ []) (through from bytes)
  pub hears : Hears line_then from (packets ++ packet ∷ []) bytes

-- no further packet is whole
pub record IsIdle (line : Line) (from : Option CtrState) (packets : List (List ℕ)) (bytes : List ℕ) (line_then : Line) : Type 0 where
  pub rest : List ℕ
  pub stream : Stream (framing_of line.form) packets rest (through from bytes)
  pub hears : Hears line_then from packets bytes

-- a packet that is no transport error came, and the client took it so
pub record HeardPacket {S : Type 0} (step : S → ℕ × S) (lock : Lock) (keys : List RingKey) (now : ℕ) (kept : Holder) (draw : S) (line : Line) (packet : List ℕ) (result : Result Unit End) (kept_then : Holder) (draw_then : S) (line_then : Line) : Type 0 where
  pub size : IsNoError packet
  pub took : (reading : Reading) (course : Course S) → IsReading lock keys reading → StandsAs kept draw course → TookPacket step reading now course packet result kept_then draw_then
  pub came : (from : Option CtrState) (packets : List (List ℕ)) (bytes : List ℕ) → Hears line from packets bytes → IsNext line from packets bytes packet line_then

-- the client is as it was
abbrev pub IsSame : {S : Type 0} → Holder → S → Holder → S → Type 0
IsSame kept draw kept_then draw_then = (kept_then ≡ kept) × (draw_then ≡ draw)

-- What came next over a wire, and what the client made of it, for whatever came before.
abbrev pub CameNext : {S : Type 0} → (S → ℕ × S) → Lock → List RingKey → ℕ → Holder → S → Line → Result Bool End → Holder → S → Line → Type 0
CameNext step lock keys now kept draw line (Ok true) kept_then draw_then line_then =
    (packet : List ℕ) × HeardPacket step lock keys now kept draw line packet (Ok tt) kept_then draw_then line_then
CameNext step lock keys now kept draw line (Ok false) kept_then draw_then line_then =
    IsSame kept draw kept_then draw_then
    × ((from : Option CtrState) (packets : List (List ℕ)) (bytes : List ℕ) → Hears line from packets bytes → IsIdle line from packets bytes line_then)
CameNext step lock keys now kept draw line (Err Lost) kept_then draw_then line_then =
    IsSame kept draw kept_then draw_then
    × ((from : Option CtrState) (packets : List (List ℕ)) (bytes : List ℕ) → Hears line from packets bytes → IsLost line from packets bytes)
CameNext step lock keys now kept draw line (Err end) kept_then draw_then line_then =
    (packet : List ℕ) × HeardPacket step lock keys now kept draw line packet (Err end) kept_then draw_then line_then

-- ---- all packets of a piece

abbrev pub takes_all : {S : Type 0} → (S → ℕ × S) → Reading → ℕ → Course S → List (List ℕ) → Course S
takes_all step reading now course packets = fold (takes_packet step reading now) course packets

-- none of these packets decides each call
abbrev pub NoneDecides : {S : Type 0} → (S → ℕ × S) → Reading → ℕ → Course S → List (List ℕ) → Type 0
NoneDecides step reading now course [] = ⊤
NoneDecides step reading now course (packet ∷ packets) =
    (decides reading now course packet ≡ false) × NoneDecides step reading now (takes_packet step reading now course packet) packets

-- The client heard these packets, and none decides each call; but the last one does, where the connection ends by that. Where
-- memory ran out, a packet behind them may have been taken, and wasn't heard.
abbrev pub TookAll : {S : Type 0} → (S → ℕ × S) → Reading → ℕ → Course S → List (List ℕ) → Result Unit End → Holder → S → Type 0
TookAll step reading now course heard (Ok done) kept draw =
    NoneDecides step reading now course heard × StandsAs kept draw (takes_all step reading now course heard)
TookAll step reading now course heard (Err Lost) kept draw =
    NoneDecides step reading now course heard × StandsAs kept draw (takes_all step reading now course heard)
TookAll step reading now course heard (Err Memory) kept draw =
    NoneDecides step reading now course heard × StandsAs kept draw (takes_all step reading now course heard)
TookAll step reading now course heard (Err Decided) kept draw =
    (front : List (List ℕ)) × (last : List ℕ) × (heard ≡ front ++ last ∷ []) × NoneDecides step reading now course front
    × (decides reading now (takes_all step reading now course front) last ≡ true)
    × StandsAs kept draw (takes_all step reading now course heard)
TookAll step reading now course heard (Err TurnsSpent) kept draw = ⊥
TookAll step reading now course heard (Err Spent) kept draw = ⊥

-- Scaffolding of private functions, and no promise: more packets than one connection has bytes, which are at most 1,000,000 pieces
-- of 65,536 bytes.
abbrev pub packets_max : ℕ
packets_max = 65536000001

-- no further packet is whole, or so many came
abbrev pub IsDone : Line → Option CtrState → List (List ℕ) → List ℕ → List (List ℕ) → Line → Type 0
IsDone line from packets bytes heard line_then =
    IsIdle line from (packets ++ heard) bytes line_then
    ⊎ ((length heard ≡ packets_max) × Hears line_then from (packets ++ heard) bytes)

abbrev pub CameAll : Line → Option CtrState → List (List ℕ) → List ℕ → List (List ℕ) → Result Unit End → Line → Type 0
CameAll line from packets bytes heard (Ok done) line_then = IsDone line from packets bytes heard line_then
CameAll line from packets bytes heard (Err Decided) line_then = Hears line_then from (packets ++ heard) bytes
CameAll line from packets bytes heard (Err Lost) line_then = IsLost line from (packets ++ heard) bytes
CameAll line from packets bytes heard (Err Memory) line_then = (heard ≡ []) ⊎ Begins (framing_of line.form) (packets ++ heard) (through from bytes)
CameAll line from packets bytes heard (Err TurnsSpent) line_then = ⊥
CameAll line from packets bytes heard (Err Spent) line_then = ⊥

-- What the client heard of a piece.
pub record TookPiece {S : Type 0} (step : S → ℕ × S) (lock : Lock) (keys : List RingKey) (now : ℕ) (kept : Holder) (draw : S) (line : Line) (piece : List ℕ) (result : Result Unit End) (kept_then : Holder) (draw_then : S) (line_then : Line) : Type 0 where
  pub heard : List (List ℕ)
  pub sizes : All IsNoError heard
  pub took : (reading : Reading) (course : Course S) → IsReading lock keys reading → StandsAs kept draw course → TookAll step reading now course heard result kept_then draw_then
  pub came : (from : Option CtrState) (packets : List (List ℕ)) (bytes : List ℕ) → Hears line from packets bytes → CameAll line from packets (bytes ++ piece) heard result line_then
