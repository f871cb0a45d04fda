-- What a client says and hears over one connection, worked out from the moments, the words and the pieces that are read
-- (core.telegram.org/mtproto/mtproto-transports).
use Rattle.std.specs.Prelude.{◌≡◌, ◌≢◌, ◌<◌, ◌≤◌, ◌⊎◌, ℕ, Bool, true, false, List, [], ◌∷◌, ◌++◌, length, All, IfSome, IsSomeAnd, Err, ⊤}
use Rattle.draws.specs.Draws.{draw_after, next_bytes}
use Rattle.auth_keys.specs.declared.ring.RingKey.{RingKey}
use Rattle.envelope.specs.Packet.{Lock}
use Rattle.tl_codec.specs.declared.fault.FrameFault.{FrameFault}
use Rattle.framing.specs.Streams.{Begins, Faulty, Frames, Stream}
use Rattle.transport.specs.Directions.{through}
use Rattle.transport.specs.Forms.{framing_of}
use Rattle.transport.specs.Starts.{IsSentStart, IsTold, Opening, Starts, words_drawn}
use Rattle.mt_edge.specs.Faults.{one_more}
use Rattle.mt_edge.specs.Links.{Told}
use Rattle.mt_edge.specs.declared.link_read.LinkRead.{LinkRead}
use Rattle.mt_edge.specs.declared.source.Got.{Got}
use Rattle.mt_edge.specs.declared.source.Got.TheVariants as got
use Rattle.client_rules.specs.Client.{Client}
use Rattle.client_rules.specs.Sending.{Setting}
use Rattle.client_core.specs.Flushed.{setting_of}
use Rattle.client_node.specs.Course.{AreSent, Course, Reading, attaches, is_decided, renews, sends_all}
use Rattle.client_node.specs.Flow.{FoundNothing, StoppedBy, flowed}
use Rattle.client_node.specs.Took.{IsNoError, NoneDecides, decides, error_bytes, takes_all}
use Rattle.client_node.specs.Writes.{Seen}
use Rattle.transport.specs.Spelt.{frames_of}
use Rattle.client_node.specs.declared.end.End.{End}
use Rattle.client_node.specs.declared.end.End.TheVariants as ends
use Rattle.client_node.specs.declared.plan.Plan.{Plan}

-- the room of each read, in bytes
abbrev pub piece_bytes : ℕ
piece_bytes = 65536

-- the most pieces that one connection gives
abbrev pub turns_max : ℕ
turns_max = 1000000

-- What is the same at each event: in what the client acts, the lock and the ring of its seal, and what packets open to.
pub record Rules (S : Type 0) : Type 0 where
  pub setting : Setting S
  pub lock : Lock
  pub keys : List RingKey
  pub reading : Reading

abbrev pub rules_of : {S : Type 0} → (S → ℕ × S) → Lock → List RingKey → Reading → Rules S
rules_of step lock keys reading = record { setting = setting_of step keys; lock = lock; keys = keys; reading = reading }

-- ---- a connection between two events

-- The last moment; the client, its state and the draw; the packets that it sent over this connection; the bytes that came, and
-- the packets of them that it heard; the reads; the moments behind the first one. All in order.
pub record Place (S : Type 0) : Type 0 where
  pub now : ℕ
  pub course : Course S
  pub sent : List (List ℕ)
  pub came : List ℕ
  pub heard : List (List ℕ)
  pub reads : List LinkRead
  pub moments : List ℕ

-- What is sent before the next read: these packets, and whether a last flush found nothing due.
pub record Said : Type 0 where
  pub packets : List (List ℕ)
  pub is_done : Bool

abbrev pub says : {S : Type 0} → Rules S → Said → Place S → Place S
says rules said place =
    record place {
      course = flowed rules.setting place.now place.course said.packets said.is_done;
      sent = place.sent ++ said.packets;
    }

pub record IsSaid {S : Type 0} (rules : Rules S) (place : Place S) (said : Said) : Type 0 where
  pub sent : AreSent rules.setting rules.lock rules.keys place.now place.course said.packets
  pub nothing : FoundNothing rules.setting rules.lock rules.keys place.now (sends_all rules.setting place.now place.course said.packets) said.is_done

-- nothing more is due, and a call isn't decided: a piece is read next
pub record IsReady {S : Type 0} (rules : Rules S) (place : Place S) (said : Said) : Type 0 where
  pub sent : IsSaid rules place said
  pub all : said.is_done ≡ true
  pub undecided : is_decided (says rules said place).course.client ≡ false

-- a read
abbrev pub reads : {S : Type 0} → Got → Place S → Place S
reads answer place = record place { reads = place.reads ++ record { room = piece_bytes; answer = answer } ∷ [] }

-- a piece was read, and then the clock gave a moment
abbrev pub gets : {S : Type 0} → List ℕ → ℕ → Place S → Place S
gets piece moment place =
    record place {
      now = moment;
      came = place.came ++ piece;
      reads = place.reads ++ record { room = piece_bytes; answer = got.Bytes (length piece) } ∷ [];
      moments = place.moments ++ moment ∷ [];
    }

-- packets that are whole with it are heard
abbrev pub hears_all : {S : Type 0} → Rules S → List (List ℕ) → Place S → Place S
hears_all rules packets place =
    record place {
      course = takes_all rules.setting.step rules.reading place.now place.course packets;
      heard = place.heard ++ packets;
    }

-- ---- a turn: what is due is sent, a piece is read, and the client hears the packets that are whole with it

pub record Turn : Type 0 where
  pub said : Said
  pub piece : List ℕ
  pub moment : ℕ
  pub heard : List (List ℕ)

abbrev pub turned : {S : Type 0} → Rules S → Turn → Place S → Place S
turned rules turn place = hears_all rules turn.heard (gets turn.piece turn.moment (says rules turn.said place))

-- these are all packets of what came, and no further one is whole
abbrev pub AreWhole : Opening → List (List ℕ) → List ℕ → Type 0
AreWhole opening packets came = (rest : List ℕ) × Stream (framing_of opening.form) packets rest (through opening.down came)

pub record IsTurn {S : Type 0} (rules : Rules S) (opening : Opening) (place : Place S) (turn : Turn) : Type 0 where
  pub ready : IsReady rules place turn.said
  pub some : 0 < length turn.piece
  pub most : length turn.piece ≤ piece_bytes
  -- none is a transport error, and none decides each call
  pub sizes : All IsNoError turn.heard
  pub none : NoneDecides rules.setting.step rules.reading turn.moment (says rules turn.said place).course turn.heard
  pub whole : AreWhole opening (place.heard ++ turn.heard) (place.came ++ turn.piece)

-- a list of turns, the last one first
abbrev pub turns_from : {S : Type 0} → Rules S → Place S → List Turn → Place S
turns_from rules place [] = place
turns_from rules place (last ∷ earlier) = turned rules last (turns_from rules place earlier)

abbrev pub AreTurns : {S : Type 0} → Rules S → Opening → Place S → List Turn → Type 0
AreTurns rules opening place [] = ⊤
AreTurns rules opening place (last ∷ earlier) = AreTurns rules opening place earlier × IsTurn rules opening (turns_from rules place earlier) last

-- ---- how a connection ends behind its turns and what was sent last

pub data Close : Type 0 where
  -- a flush ended it so
  Stopped : End → Close
  -- the next read gave no piece
  Unread : Got → Close
  -- a piece was read at this moment, these packets of it were heard, and it ended so
  Heard : List ℕ → ℕ → List (List ℕ) → End → Close
  -- it gave as many pieces as one connection gives
  TurnsDone : Close

abbrev pub end_by : Close → End
end_by (Stopped end) = end
end_by (Unread answer) = ends.Lost
end_by (Heard piece moment heard end) = end
end_by TurnsDone = ends.TurnsSpent

abbrev pub closes : {S : Type 0} → Rules S → Said → Close → Place S → Place S
closes rules said (Stopped end) place = says rules said place
closes rules said (Unread answer) place = reads answer (says rules said place)
closes rules said (Heard piece moment heard end) place = hears_all rules heard (gets piece moment (says rules said place))
closes rules said TurnsDone place = says rules said place

abbrev pub IsNoPiece : Got → Type 0
IsNoPiece (got.Bytes count) = ⊥
IsNoPiece got.End = ⊤
IsNoPiece got.Failed = ⊤

-- behind these packets of what came stands a transport error, or a frame fault is met
abbrev pub Loses : Opening → List (List ℕ) → List ℕ → Type 0
Loses opening packets came =
    ((error : List ℕ) × (length error ≡ error_bytes) × Begins (framing_of opening.form) (packets ++ error ∷ []) (through opening.down came))
    ⊎ ((fault : FrameFault) × Faulty (framing_of opening.form) packets fault (through opening.down came))

-- How the packets that were heard of a piece ended the connection: the last one decides each call; none does, and what is behind
-- them loses it; none does, and memory ran out, when the piece was taken or a further packet was heard.
abbrev pub EndsHearing : {S : Type 0} → Rules S → Opening → Place S → List (List ℕ) → End → Type 0
EndsHearing rules opening place heard ends.Decided =
    (front : List (List ℕ)) × (last : List ℕ) × (heard ≡ front ++ last ∷ [])
    × NoneDecides rules.setting.step rules.reading place.now place.course front
    × (decides rules.reading place.now (takes_all rules.setting.step rules.reading place.now place.course front) last ≡ true)
    × Begins (framing_of opening.form) (place.heard ++ heard) (through opening.down place.came)
EndsHearing rules opening place heard ends.Lost =
    NoneDecides rules.setting.step rules.reading place.now place.course heard × Loses opening (place.heard ++ heard) place.came
EndsHearing rules opening place heard ends.Memory =
    NoneDecides rules.setting.step rules.reading place.now place.course heard
    × ((heard ≡ []) ⊎ Begins (framing_of opening.form) (place.heard ++ heard) (through opening.down place.came))
EndsHearing rules opening place heard ends.TurnsSpent = ⊥
EndsHearing rules opening place heard ends.Spent = ⊥

-- It ended so behind this many turns.
abbrev pub IsClosed : {S : Type 0} → Rules S → Opening → ℕ → Place S → Said → Close → Type 0
IsClosed rules opening count place said (Stopped end) =
    (count ≤ turns_max) × IsSaid rules place said
    × StoppedBy {X = Unit} rules.setting rules.lock rules.keys place.now (says rules said place).course (Err end)
IsClosed rules opening count place said (Unread answer) = (count < turns_max) × IsReady rules place said × IsNoPiece answer
IsClosed rules opening count place said (Heard piece moment heard end) =
    (count < turns_max) × IsReady rules place said × (0 < length piece) × (length piece ≤ piece_bytes) × All IsNoError heard
    × EndsHearing rules opening (gets piece moment (says rules said place)) heard end
IsClosed rules opening count place said TurnsDone = (count ≡ turns_max) × IsReady rules place said

-- a call isn't decided where the connection is lost, gave as many pieces as one gives, or ended as numbers were spent
abbrev pub UndecidedBy : End → Client → Type 0
UndecidedBy ends.Lost client = is_decided client ≡ false
UndecidedBy ends.TurnsSpent client = is_decided client ≡ false
UndecidedBy ends.Decided client = ⊤
UndecidedBy ends.Spent client = is_decided client ≡ false
UndecidedBy ends.Memory client = ⊤

-- ---- what its link shows

-- these bytes were written, the pieces came, and the reads are those
pub record Passed {S : Type 0} (bytes : List ℕ) (place : Place S) (before after : Told) : Type 0 where
  pub written : after.written ≡ before.written ++ bytes
  pub came : after.came ≡ before.came ++ place.came
  pub reads : after.reads ≡ before.reads ++ place.reads

-- the same, but of the last bytes a front alone was written, short of the whole
pub record PassedFront {S : Type 0} (whole last : List ℕ) (place : Place S) (before after : Told) : Type 0 where
  pub front : List ℕ
  pub rest : List ℕ
  pub cut : last ≡ front ++ rest
  pub some : rest ≢ []
  pub passed : Passed (whole ++ front) place before after

-- what the link tells, where it does, and its count of faults: no call failed; a read did; a write did
pub record Passes {S : Type 0} (bytes : List ℕ) (place : Place S) (before after : Seen) : Type 0 where
  pub told : IfSome after.told (λ last. IsSomeAnd before.told (λ first. Passed bytes place first last))
  pub faults : after.faults ≡ before.faults

pub record FailsReading {S : Type 0} (bytes : List ℕ) (place : Place S) (before after : Seen) : Type 0 where
  pub told : IfSome after.told (λ last. IsSomeAnd before.told (λ first. Passed bytes place first last))
  pub faults : after.faults ≡ one_more before.faults

pub record FailsWriting {S : Type 0} (whole last : List ℕ) (place : Place S) (before after : Seen) : Type 0 where
  pub told : IfSome after.told (λ ended. IsSomeAnd before.told (λ first. PassedFront whole last place first ended))
  pub faults : after.faults ≡ one_more before.faults

-- These bytes, sent behind the start, are the frames of these packets: they read as the packets, and are the writer's.
pub record IsText (opening : Opening) (packets : List (List ℕ)) (bytes : List ℕ) : Type 0 where
  pub frames : Frames (framing_of opening.form) 0 packets (through opening.up bytes)
  pub spelt : through opening.up bytes ≡ frames_of opening.form 0 packets

-- A write of the frame of the packet that was said last failed, with all that was sent before it, the start too, written. There
-- was no further flush.
pub record FailsLast {S : Type 0} (opening : Opening) (start : List ℕ) (sent : List (List ℕ)) (said : Said) (bytes : List ℕ) (place : Place S) (before after : Seen) : Type 0 where
  pub earlier : List (List ℕ)
  pub packet : List ℕ
  pub whole : List ℕ
  pub last : List ℕ
  pub each : said.packets ≡ earlier ++ packet ∷ []
  pub no_more : said.is_done ≡ false
  pub all : bytes ≡ whole ++ last
  pub text : IsText opening (sent ++ earlier) whole
  pub fails : FailsWriting (start ++ whole) last place before after

-- What the link shows: behind a start these bytes are the frames of what was sent in the turns, and of what was said last.
abbrev pub ShowsClose : {S : Type 0} → Close → Opening → List ℕ → List (List ℕ) → Said → List ℕ → Place S → Seen → Seen → Type 0
ShowsClose (Stopped ends.Lost) opening start sent said bytes place before after = FailsLast opening start sent said bytes place before after
ShowsClose (Stopped ends.Decided) opening start sent said bytes place before after =
    Passes (start ++ bytes) place before after ⊎ FailsLast opening start sent said bytes place before after
ShowsClose (Stopped ends.Spent) opening start sent said bytes place before after = Passes (start ++ bytes) place before after
ShowsClose (Stopped ends.Memory) opening start sent said bytes place before after = Passes (start ++ bytes) place before after
ShowsClose (Stopped ends.TurnsSpent) opening start sent said bytes place before after = ⊥
ShowsClose (Unread (got.Bytes count)) opening start sent said bytes place before after = ⊥
ShowsClose (Unread got.End) opening start sent said bytes place before after = Passes (start ++ bytes) place before after
ShowsClose (Unread got.Failed) opening start sent said bytes place before after = FailsReading (start ++ bytes) place before after
ShowsClose (Heard piece moment heard end) opening start sent said bytes place before after = Passes (start ++ bytes) place before after
ShowsClose TurnsDone opening start sent said bytes place before after = Passes (start ++ bytes) place before after

-- The packets whose frames were due: all that were sent; or all but the last one, where memory ran out before that was in a frame,
-- and then there was no further flush.
abbrev pub AreFramed : Close → List (List ℕ) → Said → List (List ℕ) → Type 0
AreFramed (Stopped ends.Memory) sent said framed =
    (framed ≡ sent ++ said.packets)
    ⊎ ((earlier : List (List ℕ)) × (packet : List ℕ) × (said.packets ≡ earlier ++ packet ∷ []) × (said.is_done ≡ false) × (framed ≡ sent ++ earlier))
AreFramed (Stopped ends.Lost) sent said framed = framed ≡ sent ++ said.packets
AreFramed (Stopped ends.Decided) sent said framed = framed ≡ sent ++ said.packets
AreFramed (Stopped ends.Spent) sent said framed = framed ≡ sent ++ said.packets
AreFramed (Stopped ends.TurnsSpent) sent said framed = framed ≡ sent ++ said.packets
AreFramed (Unread answer) sent said framed = framed ≡ sent ++ said.packets
AreFramed (Heard piece moment heard end) sent said framed = framed ≡ sent ++ said.packets
AreFramed TurnsDone sent said framed = framed ≡ sent ++ said.packets

-- ---- all of a connection

-- what is said and heard behind the start
pub record Talk : Type 0 where
  pub turns : List Turn
  pub said : Said
  pub close : Close
  -- the packets whose frames were due, and the frames' bytes
  pub framed : List (List ℕ)
  pub bytes : List ℕ

abbrev pub place_after : {S : Type 0} → Rules S → Place S → Talk → Place S
place_after rules place talk = closes rules talk.said talk.close (turns_from rules place talk.turns)

pub record IsTalk {S : Type 0} (rules : Rules S) (opening : Opening) (place : Place S) (talk : Talk) : Type 0 where
  pub turns : AreTurns rules opening place talk.turns
  pub closed : IsClosed rules opening (length talk.turns) (turns_from rules place talk.turns) talk.said talk.close
  pub framed : AreFramed talk.close (turns_from rules place talk.turns).sent talk.said talk.framed
  pub text : IsText opening talk.framed talk.bytes

-- A connection: memory ran out before its start; a write of the start failed; it was started with these bytes, which open it so.
-- Each has the first moment.
pub data Connection : Type 0 where
  Refused : ℕ → Connection
  Unstarted : ℕ → List ℕ → Connection
  Began : ℕ → List ℕ → Opening → Talk → Connection

abbrev pub end_of : Connection → End
end_of (Refused first) = ends.Memory
end_of (Unstarted first start) = ends.Lost
end_of (Began first start opening talk) = end_by talk.close

-- the words of the start are drawn
abbrev pub drawn : {S : Type 0} → Rules S → Plan → Course S → Course S
drawn rules plan course = record course { draw = draw_after rules.setting.step (words_drawn plan.obfuscate) course.draw }

-- a connection that is started, before anything is said
abbrev pub began : {S : Type 0} → ℕ → Course S → Place S
began first course = record { now = first; course = course; sent = []; came = []; heard = []; reads = []; moments = [] }

-- the client is attached, and goes on in another session where it has to
abbrev pub begun : {S : Type 0} → Rules S → Plan → Course S → ℕ → Place S
begun rules plan course first = began first (renews rules.setting.step (attaches (drawn rules plan course)))

-- the start is of the plan's form, and whatever a server is sent behind it, it takes it for a start that opens so
pub record IsStart {S : Type 0} (rules : Rules S) (plan : Plan) (course : Course S) (start : List ℕ) (opening : Opening) : Type 0 where
  pub sent : IsSentStart plan.obfuscate plan.form (next_bytes rules.setting.step 64 course.draw) start
  pub form : opening.form ≡ plan.form
  pub starts : (rest : List ℕ) → IsTold plan.form (start ++ rest) → Starts (start ++ rest) opening rest

abbrev pub IsConnection : {S : Type 0} → Rules S → Plan → Course S → Connection → Type 0
IsConnection rules plan course (Refused first) = ⊤
IsConnection rules plan course (Unstarted first start) =
    IsSentStart plan.obfuscate plan.form (next_bytes rules.setting.step 64 course.draw) start
IsConnection rules plan course (Began first start opening talk) =
    IsStart rules plan course start opening × IsTalk rules opening (begun rules plan course first) talk

abbrev pub course_after : {S : Type 0} → Rules S → Plan → Course S → Connection → Course S
course_after rules plan course (Refused first) = course
course_after rules plan course (Unstarted first start) = drawn rules plan course
course_after rules plan course (Began first start opening talk) = (place_after rules (begun rules plan course first) talk).course

abbrev pub moments_of : {S : Type 0} → Rules S → Plan → Course S → Connection → List ℕ
moments_of rules plan course (Refused first) = first ∷ []
moments_of rules plan course (Unstarted first start) = first ∷ []
moments_of rules plan course (Began first start opening talk) = first ∷ (place_after rules (begun rules plan course first) talk).moments

abbrev pub Shows : {S : Type 0} → Rules S → Plan → Course S → Connection → Seen → Seen → Type 0
Shows rules plan course (Refused first) before after = Passes [] (begun rules plan course first) before after
Shows rules plan course (Unstarted first start) before after = FailsWriting [] start (begun rules plan course first) before after
Shows rules plan course (Began first start opening talk) before after =
    ShowsClose talk.close opening start (turns_from rules (begun rules plan course first) talk.turns).sent talk.said talk.bytes
    (place_after rules (begun rules plan course first) talk) before after
