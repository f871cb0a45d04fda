-- What comes over a line, and what a desk and a link make of it: scaffolding of proofs, and no promise.
use Rattle.std.specs.Prelude.{◌≡◌, ◌≤◌, ◌⊎◌, ⊤, length, ℕ, max, not, Bool, true, false, IfOk, OnOk, List, [], ◌∷◌, ◌++◌, Option, Some, None, Result, Ok, Err}
use Rattle.auth_keys.specs.declared.ring.RingKey.{RingKey}
use Rattle.cipher_modes.specs.CounterMode.{CtrState}
use Rattle.envelope.specs.Packet.{Lock}
use Rattle.framing.specs.Streams.{Begins, Faulty, Stream}
use Rattle.regs_service.specs.Served.{Step}
use Rattle.tl_codec.specs.declared.fault.FrameFault.{FrameFault}
use Rattle.transport.specs.Directions.{through}
use Rattle.transport.specs.Forms.{framing_of}
use Rattle.transport.specs.Starts.{IsAwaited}
use Rattle.transport.specs.Wires.{HasStarted, Hears, Line}
use Rattle.mt_edge.specs.Links.{Told}
use Rattle.envelope.specs.Opening.{IsRefused, Opens}
use Rattle.envelope.specs.declared.parts.Dir.TheVariants.{Up}
use Rattle.envelope.specs.declared.parts.Envelope.{Envelope}
use Rattle.envelope.specs.declared.refusal.Refusal.{Refusal}
use Rattle.envelope.specs.declared.refusal.Refusal.TheVariants as refusals
use Rattle.octets.specs.Bytes.{IsBytes}
use Rattle.server_output.specs.declared.outs.Out.{Out}
use Rattle.server_dispatch.specs.Rings.{AreOf}
use Rattle.server_core.specs.Desks.{Does, DoesNothing, frame_bytes_max}
use Rattle.server_core.specs.Packets.{IsHeardOf, brought_in, effects_in}
use Rattle.server_core.specs.declared.desk.DeskFault.{DeskFault}
use Rattle.server_core.specs.declared.desk.DeskFault.TheVariants as faults
use Rattle.server_core.specs.declared.desk.Heard.{Heard}
use Rattle.server_core.specs.declared.desk.Heard.TheVariants.{Judged, NotOpened}
use Rattle.server_core.specs.declared.desk.Reply.{Reply}
use Rattle.server_rules.specs.Answer.{after_packet}
use Rattle.server_rules.specs.Server.{Server}
use Rattle.server_session.specs.Says.{Keys, setting_of}
use Rattle.server_node.specs.Connection.{IsUnnamed}
use Rattle.server_node.specs.Doing.{Did, DidThen, Side, Stands, end_by}
use Rattle.server_node.specs.Names.{was_heard, with_name}
use Rattle.server_node.specs.Record.{with_answered}
use Rattle.server_node.specs.Steps.{Said, going_out}
use Rattle.server_node.specs.Writes.{end_in, unknown_key}
use Rattle.server_core.specs.declared.session_name.SessionName.{SessionName}
use Rattle.server_node.specs.declared.line.Line.{Line as Ends}
use Rattle.server_node.specs.declared.line.Line.TheVariants.{Raw, Framed}
use Rattle.server_node.specs.Trace.{Act, Attach, Hear, IsOutside, Outside, Talk, first_acts, moment_at, packet_acts, packets_acts}
use Rattle.server_node.specs.declared.conn.ConnEnd.{ConnEnd}
use Rattle.server_node.specs.declared.conn.ConnEnd.TheVariants as ends
use Rattle.server_node.specs.declared.taking.Came.{Came}
use Rattle.server_node.specs.declared.taking.Came.TheVariants.{Nothing, Packet, First}

-- a packet comes next over the line, and is taken
abbrev pub IsNext : Line → List ℕ → Line → Type 0
IsNext wire packet wire_then =
    (from : Option CtrState) (packets : List (List ℕ)) (bytes : List ℕ) → Hears wire from packets bytes
    → Begins (framing_of wire.form) (packets ++ packet ∷ []) (through from bytes) × Hears wire_then from (packets ++ packet ∷ []) bytes

-- a packet comes next
abbrev pub HasNext : Line → List ℕ → Type 0
HasNext wire packet =
    (from : Option CtrState) (packets : List (List ℕ)) (bytes : List ℕ) → Hears wire from packets bytes
    → Begins (framing_of wire.form) (packets ++ packet ∷ []) (through from bytes)

-- no further packet is whole
abbrev pub IsIdle : Line → Line → Type 0
IsIdle wire wire_then =
    (from : Option CtrState) (packets : List (List ℕ)) (bytes : List ℕ) → Hears wire from packets bytes
    → ((rest : List ℕ) × Stream (framing_of wire.form) packets rest (through from bytes)) × Hears wire_then from packets bytes

-- what comes next shows a fault
abbrev pub IsFaulty : Line → FrameFault → Type 0
IsFaulty wire fault =
    (from : Option CtrState) (packets : List (List ℕ)) (bytes : List ℕ) → Hears wire from packets bytes → Faulty (framing_of wire.form) packets fault (through from bytes)

-- what the wire tells stays
abbrev pub SameOut : Line → Line → Type 0
SameOut wire wire_then = (wire_then.form ≡ wire.form) × (wire_then.writing ≡ wire.writing) × (wire_then.number ≡ wire.number)

-- ---- a desk is given a packet

-- what it tells then
pub record Tells {S : Type 0} (step : S → ℕ × S) (lock : Lock) (ring : List RingKey) (desk desk_then : Server → Type 0) (drawn drawn_then : S) (now : ℕ) (packet : List ℕ) (reply : Reply) : Type 0 where
  pub bytes : IsBytes packet
  pub heard : (server : Server) → desk server → IsHeardOf lock ring (max server.now now) packet reply.heard
  pub refused : (server : Server) (refusal : Refusal) → desk server → IsRefused lock ring (max server.now now) Up packet refusal
      → DoesNothing desk_then drawn drawn_then reply (record server { now = max server.now now })
  pub given : (keys : Keys) (server : Server) (envelope : Envelope) → AreOf ring keys → desk server → Opens lock ring (max server.now now) Up packet envelope
      → Does desk_then lock ring drawn_then (effects_in reply) (after_packet (setting_of (max server.now now) step keys) (brought_in envelope) server drawn)

-- the next packet, and what the desk tells of it
pub record TellsNext {S : Type 0} (step : S → ℕ × S) (lock : Lock) (ring : List RingKey) (desk : Server → Type 0) (drawn : S) (now : ℕ) (wire : Line) (reply : Reply) (desk_then : Server → Type 0) (drawn_then : S) (wire_then : Line) : Type 0 where
  pub packet : List ℕ
  pub next : IsNext wire packet wire_then
  pub tells : Tells step lock ring desk desk_then drawn drawn_then now packet reply

-- nothing came of the next packet
pub record FailsNext (wire : Line) (desk desk_then : Server → Type 0) (behind_then : DeskFault → Server → Type 0) (end : ConnEnd) : Type 0 where
  pub packet : List ℕ
  pub next : HasNext wire packet
  pub fault : DeskFault
  pub is : end ≡ end_by fault
  pub unchanged : (server : Server) → desk server → fault ≡ faults.Memory → desk_then server
  pub full : (server : Server) (len : ℕ) → desk server → fault ≡ faults.Full len → desk_then server
  pub behind : (server : Server) → desk server → length packet ≤ frame_bytes_max → behind_then fault server

abbrev pub IsSameDesk : {S : Type 0} → (Server → Type 0) → S → (Server → Type 0) → S → Type 0
IsSameDesk desk drawn desk_then drawn_then = ((server : Server) → desk server → desk_then server) × (drawn_then ≡ drawn)

abbrev pub NextBy : {S : Type 0} → (S → ℕ × S) → Lock → List RingKey → (Server → Type 0) → S → ℕ → Line → Result (Option Reply) ConnEnd → (Server → Type 0) → (DeskFault → Server → Type 0) → S → Line → Type 0
NextBy step lock ring desk drawn now wire (Ok (Some reply)) desk_then behind_then drawn_then wire_then = TellsNext step lock ring desk drawn now wire reply desk_then drawn_then wire_then
NextBy step lock ring desk drawn now wire (Ok None) desk_then behind_then drawn_then wire_then = IsIdle wire wire_then × IsSameDesk desk drawn desk_then drawn_then
NextBy step lock ring desk drawn now wire (Err (ends.Frame fault)) desk_then behind_then drawn_then wire_then = IsFaulty wire fault × IsSameDesk desk drawn desk_then drawn_then
NextBy step lock ring desk drawn now wire (Err end) desk_then behind_then drawn_then wire_then = FailsNext wire desk desk_then behind_then end

-- ---- what is sent of it

abbrev pub came_by : Bool → SessionName → Came
came_by true name = First name
came_by false name = Packet

pub record SaysUnknown (wire : Line) (heard : List SessionName) (told : Option Told) (result : Result Came ConnEnd) (wire_then : Line) (heard_then : List SessionName) (told_then : Option Told) : Type 0 where
  pub same : heard_then ≡ heard
  pub said : Said (Framed wire) heard told (unknown_key ∷ []) (end_in result) (Framed wire_then) told_then
  pub came : IfOk result (λ came. came ≡ Packet)

pub record SaysNothing (wire : Line) (heard : List SessionName) (told : Option Told) (result : Result Came ConnEnd) (wire_then : Line) (heard_then : List SessionName) (told_then : Option Told) : Type 0 where
  pub same_wire : wire_then ≡ wire
  pub same : heard_then ≡ heard
  pub same_told : told_then ≡ told
  pub came : result ≡ Ok Packet

pub record SaysJudged (wire : Line) (heard : List SessionName) (told : Option Told) (name : SessionName) (outs : List Out) (result : Result Came ConnEnd) (wire_then : Line) (heard_then : List SessionName) (told_then : Option Told) : Type 0 where
  pub said : Said (Framed wire) (with_name heard name) told (going_out (with_name heard name) outs) (end_in result) (Framed wire_then) told_then
  pub noted : OnOk result (heard_then ≡ with_name heard name)
  pub came : IfOk result (λ came. came ≡ came_by (not (was_heard heard name)) name)

abbrev pub SaysBy : Line → List SessionName → Option Told → Heard → List Out → Result Came ConnEnd → Line → List SessionName → Option Told → Type 0
SaysBy wire heard told (NotOpened (refusals.NoKey id)) outs result wire_then heard_then told_then = SaysUnknown wire heard told result wire_then heard_then told_then
SaysBy wire heard told (NotOpened refusal) outs result wire_then heard_then told_then = SaysNothing wire heard told result wire_then heard_then told_then
SaysBy wire heard told (Judged key session) outs result wire_then heard_then told_then =
    SaysJudged wire heard told (record { key = key; session = session }) outs result wire_then heard_then told_then

-- where a connection stands, with any service
abbrev pub Sides : Type 0 → Type 0 → Type 1
Sides S V = V → Side S V

-- no event came
abbrev pub NoneCame : {S V : Type 0} → (S → ℕ × S) → Step V → Lock → List RingKey → Sides S V → Sides S V → Type 0
NoneCame {S} {V} step serve lock ring side later = (service : V) → Did step serve lock ring (side service) (λ rules talk. []) None (later service)

-- A packet came, and these events follow directly.
pub record HeardOne {S V : Type 0} (step : S → ℕ × S) (serve : Step V) (lock : Lock) (ring : List RingKey) (side : Sides S V) (now : ℕ) (wire wire_then : Line) (end : Option ConnEnd) (acts : List Act) (later : Sides S V) : Type 0 where
  pub packet : List ℕ
  pub next : IsNext wire packet wire_then
  pub did : (service : V) → Did step serve lock ring (side service) (λ rules talk. Hear now packet ∷ []) end (later service)
  pub first : (service : V) (outside : Outside) (talk : Talk S V) → IsOutside lock ring outside → Stands (side service) talk
      → first_acts now talk (outside.reading (moment_at talk now) packet) ≡ acts

-- A packet came whose event ended the connection. A packet of a frame is short, as is known of one that comes behind others.
pub record HeardLast {S V : Type 0} (step : S → ℕ × S) (serve : Step V) (lock : Lock) (ring : List RingKey) (side : Sides S V) (now : ℕ) (wire : Line) (end : ConnEnd) (later : Sides S V) : Type 0 where
  pub packet : List ℕ
  pub next : HasNext wire packet
  pub did : length packet ≤ frame_bytes_max → (service : V) → Did step serve lock ring (side service) (λ rules talk. Hear now packet ∷ []) (Some end) (later service)

-- what came next
abbrev pub CameBy : {S V : Type 0} → (S → ℕ × S) → Step V → Lock → List RingKey → Sides S V → ℕ → Line → Line → Result Came ConnEnd → Sides S V → Type 0
CameBy step serve lock ring side now wire wire_then (Ok Nothing) later = IsIdle wire wire_then × NoneCame step serve lock ring side later
CameBy step serve lock ring side now wire wire_then (Ok Packet) later = HeardOne step serve lock ring side now wire wire_then None [] later
CameBy step serve lock ring side now wire wire_then (Ok (First name)) later = HeardOne step serve lock ring side now wire wire_then None (Attach now name ∷ []) later
CameBy step serve lock ring side now wire wire_then (Err (ends.Frame fault)) later = IsFaulty wire fault × NoneCame step serve lock ring side later
CameBy step serve lock ring side now wire wire_then (Err end) later = HeardLast step serve lock ring side now wire end later

-- ---- with the attach that follows a session's first packet

pub record TookOne {S V : Type 0} (step : S → ℕ × S) (serve : Step V) (lock : Lock) (ring : List RingKey) (side : Sides S V) (now : ℕ) (wire wire_then : Line) (later : Sides S V) : Type 0 where
  pub packet : List ℕ
  pub next : IsNext wire packet wire_then
  pub did : (service : V) → Did step serve lock ring (side service) (λ rules talk. packet_acts rules now packet talk) None (later service)

pub record TookLast {S V : Type 0} (step : S → ℕ × S) (serve : Step V) (lock : Lock) (ring : List RingKey) (side : Sides S V) (now : ℕ) (wire : Line) (end : ConnEnd) (later : Sides S V) : Type 0 where
  pub packet : List ℕ
  pub next : HasNext wire packet
  pub did : length packet ≤ frame_bytes_max → (service : V) → Did step serve lock ring (side service) (λ rules talk. packet_acts rules now packet talk) (Some end) (later service)

abbrev pub TookBy : {S V : Type 0} → (S → ℕ × S) → Step V → Lock → List RingKey → Sides S V → ℕ → Line → Line → Result Bool ConnEnd → Sides S V → Type 0
TookBy step serve lock ring side now wire wire_then (Ok true) later = TookOne step serve lock ring side now wire wire_then later
TookBy step serve lock ring side now wire wire_then (Ok false) later = IsIdle wire wire_then × NoneCame step serve lock ring side later
TookBy step serve lock ring side now wire wire_then (Err (ends.Frame fault)) later = IsFaulty wire fault × NoneCame step serve lock ring side later
TookBy step serve lock ring side now wire wire_then (Err end) later = TookLast step serve lock ring side now wire end later

-- ---- all packets that are whole

-- more packets than one connection has bytes: pieces of 65,536 bytes, 1,000,000 of them
abbrev pub packets_max : ℕ
packets_max = 65536000001

-- what the packets were of the stream, by how it ended
abbrev pub HeardAll : Option ConnEnd → Line → List (List ℕ) → Line → Type 0
HeardAll None wire packets wire_then =
    (from : Option CtrState) (before : List (List ℕ)) (bytes : List ℕ) → Hears wire from before bytes
    → (((rest : List ℕ) × Stream (framing_of wire.form) (before ++ packets) rest (through from bytes)) ⊎ (length packets ≡ packets_max)) × Hears wire_then from (before ++ packets) bytes
HeardAll (Some (ends.Frame fault)) wire packets wire_then =
    (from : Option CtrState) (before : List (List ℕ)) (bytes : List ℕ) → Hears wire from before bytes → Faulty (framing_of wire.form) (before ++ packets) fault (through from bytes)
HeardAll (Some ends.Stopped) wire packets wire_then =
    (from : Option CtrState) (before : List (List ℕ)) (bytes : List ℕ) → Hears wire from before bytes → Hears wire_then from (before ++ packets) bytes
HeardAll (Some end) wire packets wire_then = ⊤

-- they came and were answered
pub record AllCame {S V : Type 0} (step : S → ℕ × S) (serve : Step V) (lock : Lock) (ring : List RingKey) (side : Sides S V) (now : ℕ) (wire wire_then : Line) (left left_then : Option ℕ) (end : Option ConnEnd) (later : Sides S V) : Type 0 where
  pub packets : List (List ℕ)
  pub did : (service : V) → Did step serve lock ring (side service) (λ rules talk. packets_acts rules now packets talk) None (later service)
  pub heard : HeardAll end wire packets wire_then
  pub left_is : left ≡ with_answered (length packets) left_then

-- these were answered, and an event of the next one ended the connection
pub record AllCut {S V : Type 0} (step : S → ℕ × S) (serve : Step V) (lock : Lock) (ring : List RingKey) (side : Sides S V) (now : ℕ) (wire : Line) (left left_then : Option ℕ) (end : ConnEnd) (later : Sides S V) : Type 0 where
  pub packets : List (List ℕ)
  pub packet : List ℕ
  pub did : length packet ≤ frame_bytes_max → (service : V) → DidThen step serve lock ring (side service) (λ rules talk. packets_acts rules now packets talk) (λ rules talk. packet_acts rules now packet talk) (Some end) (later service)
  pub next : (from : Option CtrState) (before : List (List ℕ)) (bytes : List ℕ) → Hears wire from before bytes → Begins (framing_of wire.form) (before ++ (packets ++ packet ∷ [])) (through from bytes)
  pub left_is : left ≡ with_answered (length packets) left_then

abbrev pub TookAll : {S V : Type 0} → (S → ℕ × S) → Step V → Lock → List RingKey → Sides S V → ℕ → Line → Line → Option ℕ → Option ℕ → Option ConnEnd → Sides S V → Type 0
TookAll step serve lock ring side now wire wire_then left left_then None later = AllCame step serve lock ring side now wire wire_then left left_then None later
TookAll step serve lock ring side now wire wire_then left left_then (Some (ends.Frame fault)) later = AllCame step serve lock ring side now wire wire_then left left_then (Some (ends.Frame fault)) later
TookAll step serve lock ring side now wire wire_then left left_then (Some ends.Stopped) later = AllCame step serve lock ring side now wire wire_then left left_then (Some ends.Stopped) later
TookAll step serve lock ring side now wire wire_then left left_then (Some end) later = AllCut step serve lock ring side now wire left left_then end later

-- so many came, and the connection goes on
pub record TookSome {S V : Type 0} (step : S → ℕ × S) (serve : Step V) (lock : Lock) (ring : List RingKey) (side : Sides S V) (now count : ℕ) (wire wire_then : Line) (left left_then : Option ℕ) (later : Sides S V) : Type 0 where
  pub packets : List (List ℕ)
  pub count_is : length packets ≡ count
  pub did : (service : V) → Did step serve lock ring (side service) (λ rules talk. packets_acts rules now packets talk) None (later service)
  pub heard : (from : Option CtrState) (before : List (List ℕ)) (bytes : List ℕ) → Hears wire from before bytes → Hears wire_then from (before ++ packets) bytes
  pub form : wire_then.form ≡ wire.form
  pub left_is : left ≡ with_answered (length packets) left_then

-- ---- a piece

-- what a line becomes by it
abbrev pub Fed : Ends → List ℕ → Ends → Type 0
Fed (Raw wire) piece (Raw other) = (other ≡ wire ++ piece) × IsAwaited (wire ++ piece)
Fed (Raw wire) piece (Framed other) = HasStarted other (wire ++ piece)
Fed (Framed wire) piece (Raw other) = ⊥
Fed (Framed wire) piece (Framed other) =
    ((from : Option CtrState) (packets : List (List ℕ)) (bytes : List ℕ) → Hears wire from packets bytes → Hears other from packets (bytes ++ piece))
    × SameOut wire other

-- it ends the connection where the first 64 bytes name no form
abbrev pub Unfed : Ends → List ℕ → ConnEnd → Type 0
Unfed (Raw wire) piece ends.Start = IsUnnamed (wire ++ piece)
Unfed (Framed wire) piece ends.Start = ⊥
Unfed line piece end = ⊤

-- no packet is whole where the form isn't known
pub record WholeRaw {S V : Type 0} (step : S → ℕ × S) (serve : Step V) (lock : Lock) (ring : List RingKey) (side : Sides S V) (wire : List ℕ) (line_then : Ends) (left left_then : Option ℕ) (end : Option ConnEnd) (later : Sides S V) : Type 0 where
  pub goes_on : end ≡ None
  pub did : (service : V) → Did step serve lock ring (side service) (λ rules talk. []) None (later service)
  pub line : line_then ≡ Raw wire
  pub left_is : left_then ≡ left

pub record WholeFramed {S V : Type 0} (step : S → ℕ × S) (serve : Step V) (lock : Lock) (ring : List RingKey) (side : Sides S V) (now : ℕ) (wire : Line) (line_then : Ends) (left left_then : Option ℕ) (end : Option ConnEnd) (later : Sides S V) : Type 0 where
  pub wire_then : Line
  pub line : line_then ≡ Framed wire_then
  pub form : wire_then.form ≡ wire.form
  pub took : TookAll step serve lock ring side now wire wire_then left left_then end later

-- the packets of a piece
abbrev pub TookWhole : {S V : Type 0} → (S → ℕ × S) → Step V → Lock → List RingKey → Sides S V → ℕ → Ends → Ends → Option ℕ → Option ℕ → Option ConnEnd → Sides S V → Type 0
TookWhole step serve lock ring side now (Raw wire) line_then left left_then end later = WholeRaw step serve lock ring side wire line_then left left_then end later
TookWhole step serve lock ring side now (Framed wire) line_then left left_then end later = WholeFramed step serve lock ring side now wire line_then left left_then end later

-- the line that a piece left, where the connection goes on
abbrev pub line_in : Result Ends ConnEnd → Ends
line_in (Ok line) = line
line_in (Err end) = Raw []
