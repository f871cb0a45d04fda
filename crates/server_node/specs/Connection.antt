-- A connection to a server, worked out from all that was read over it, the moments that the clock gave and how it ended: the
-- packets that came, the events, and the bytes that they owe (core.telegram.org/mtproto/mtproto-transports).
use Rattle.std.specs.Prelude.{◌≡◌, ◌≢◌, ◌<◌, ◌≤◌, ◌⊎◌, ℕ, List, [], ◌∷◌, ◌++◌, length, Option, IfSome, IsSomeAnd, ⊤}
use Rattle.framing.specs.Streams.{Begins, Faulty, Stream}
use Rattle.mt_edge.specs.Clocks.{Gave}
use Rattle.mt_edge.specs.Links.{Told}
use Rattle.mt_edge.specs.declared.link_read.LinkRead.{LinkRead}
use Rattle.mt_edge.specs.declared.source.Got.{Got}
use Rattle.mt_edge.specs.declared.source.Got.TheVariants as got
use Rattle.tl_codec.specs.declared.fault.FrameFault.{FrameFault}
use Rattle.transport.specs.Directions.{through}
use Rattle.transport.specs.Forms.{framing_of}
use Rattle.transport.specs.Starts.{IsAwaited, IsRefused, Opening, Starts}
use Rattle.server_core.specs.declared.desk.DeskFault.{DeskFault}
use Rattle.server_rules.specs.Server.{Server}
use Rattle.waits.specs.Jobs.{ready_count}
use Rattle.server_node.specs.Frames.{AreFramesOf}
use Rattle.server_node.specs.Record.{BringsToZero, MayAnswerMore, piece_bytes, turns_max, with_answered}
use Rattle.server_node.specs.Served.{LeavesBy}
use Rattle.server_node.specs.Trace.{Act, Rules, Talk, after_acts, packet_acts, packets_acts, work_acts}
use Rattle.server_node.specs.declared.conn.ConnEnd.{ConnEnd}
use Rattle.server_node.specs.declared.conn.ConnEnd.TheVariants as ends

-- ---- what bytes say

-- These bytes are a start, one frame for each of these packets in order, and a proper prefix of a frame.
pub record IsStream (came : List ℕ) (packets : List (List ℕ)) : Type 0 where
  pub opening : Opening
  pub rest : List ℕ
  pub left : List ℕ
  pub starts : Starts came opening rest
  pub stream : Stream (framing_of opening.form) packets left (through opening.up rest)

-- these are all packets that are whole in what came; none is before its start is
abbrev pub AreWhole : List ℕ → List (List ℕ) → Type 0
AreWhole came packets = (IsAwaited came × (packets ≡ [])) ⊎ IsStream came packets

-- they are the first ones, whatever is behind them
pub record AreFirst (came : List ℕ) (packets : List (List ℕ)) : Type 0 where
  pub opening : Opening
  pub rest : List ℕ
  pub starts : Starts came opening rest
  pub begins : Begins (framing_of opening.form) packets (through opening.up rest)

-- behind them the bytes show this fault of a frame
pub record IsFaulty (came : List ℕ) (packets : List (List ℕ)) (fault : FrameFault) : Type 0 where
  pub opening : Opening
  pub rest : List ℕ
  pub starts : Starts came opening rest
  pub shown : Faulty (framing_of opening.form) packets fault (through opening.up rest)

-- the first 64 bytes name no form
pub record IsUnnamed (came : List ℕ) : Type 0 where
  pub first : List ℕ
  pub refused : IsRefused came first

-- the bytes that answer these ones are the writer's frames of these packets, in the form that the start names
pub record AreFrames (came : List ℕ) (packets : List (List ℕ)) (bytes : List ℕ) : Type 0 where
  pub opening : Opening
  pub rest : List ℕ
  pub starts : Starts came opening rest
  pub frames : AreFramesOf opening.form opening.down packets bytes

-- and no packet goes out before that
abbrev pub IsText : List ℕ → List (List ℕ) → List ℕ → Type 0
IsText came packets bytes = ((packets ≡ []) × (bytes ≡ [])) ⊎ AreFrames came packets bytes

-- a front of these packets is in frames
pub record IsTextOfFront (came : List ℕ) (packets : List (List ℕ)) (bytes : List ℕ) : Type 0 where
  pub front : List (List ℕ)
  pub rest : List (List ℕ)
  pub whole : packets ≡ front ++ rest
  pub text : IsText came front bytes

-- ---- a connection between two events

-- The server and what was heard and sent; the bytes that came, and the packets of them that were answered, with the attach of
-- a session's first one; the reads; and the moments that the clock gave. All in order.
pub record Place (S V : Type 0) : Type 0 where
  pub talk : Talk S V
  pub came : List ℕ
  pub packets : List (List ℕ)
  pub reads : List LinkRead
  pub moments : List ℕ

abbrev pub began : {S V : Type 0} → Talk S V → Place S V
began talk = record { talk = talk; came = []; packets = []; reads = []; moments = [] }

-- a read that gave no piece
abbrev pub reads : {S V : Type 0} → Got → Place S V → Place S V
reads answer place = record place { reads = place.reads ++ record { room = piece_bytes; answer = answer } ∷ [] }

-- a piece was read, and then the clock gave a moment
abbrev pub gets : {S V : Type 0} → List ℕ → ℕ → Place S V → Place S V
gets piece now place =
    record place {
      came = place.came ++ piece;
      reads = place.reads ++ record { room = piece_bytes; answer = got.Bytes (length piece) } ∷ [];
      moments = place.moments ++ now ∷ [];
    }

-- packets came, each with the attach that follows a session's first one
abbrev pub hears : {S V : Type 0} → Rules S V → ℕ → List (List ℕ) → Place S V → Place S V
hears rules now packets place =
    record place {
      talk = after_acts rules place.talk (packets_acts rules now packets place.talk);
      packets = place.packets ++ packets;
    }

-- events came
abbrev pub does : {S V : Type 0} → Rules S V → List Act → Place S V → Place S V
does rules acts place = record place { talk = after_acts rules place.talk acts }

-- ---- a turn: a piece is read, the packets that are whole with it come, then there is a tick, and jobs run

pub record Turn : Type 0 where
  pub piece : List ℕ
  pub now : ℕ
  pub packets : List (List ℕ)
  -- how many jobs run
  pub runs : ℕ

abbrev pub worked : {S V : Type 0} → Rules S V → Turn → Place S V → Place S V
worked rules turn place = does rules (work_acts turn.now turn.runs) place

abbrev pub turned : {S V : Type 0} → Rules S V → Turn → Place S V → Place S V
turned rules turn place = worked rules turn (hears rules turn.now turn.packets (gets turn.piece turn.now place))

-- a piece that a read may give
abbrev pub IsPieceSize : List ℕ → Type 0
IsPieceSize piece = (0 < length piece) × (length piece ≤ piece_bytes)

-- no job is ready any more
abbrev pub IsIdle : Server → Type 0
IsIdle server = ready_count server.jobs ≡ 0

-- On a connection at whose begin so many packets were left to be answered: with its own packets fewer were answered than that. So
-- behind the packet that brings the count to 0 there is no tick, and no turn has it.
pub record IsTurn {S V : Type 0} (rules : Rules S V) (left : Option ℕ) (place : Place S V) (turn : Turn) : Type 0 where
  pub size : IsPieceSize turn.piece
  pub whole : AreWhole (place.came ++ turn.piece) (place.packets ++ turn.packets)
  pub goes_on : MayAnswerMore (length (place.packets ++ turn.packets)) left
  pub idle : IsIdle (turned rules turn place).talk.server

-- a list of turns, the last one first
abbrev pub turns_from : {S V : Type 0} → Rules S V → Place S V → List Turn → Place S V
turns_from rules place [] = place
turns_from rules place (last ∷ earlier) = turned rules last (turns_from rules place earlier)

abbrev pub AreTurns : {S V : Type 0} → Rules S V → Option ℕ → Place S V → List Turn → Type 0
AreTurns rules left place [] = ⊤
AreTurns rules left place (last ∷ earlier) = AreTurns rules left place earlier × IsTurn rules left (turns_from rules place earlier) last

-- ---- how a connection ends behind its turns

pub data Close : Type 0 where
  -- memory ran out before anything was read
  Unbegun : Close
  -- the next read gave no piece
  Unread : Got → Close
  -- it gave as many pieces as one connection gives
  Spent : Close
  -- a piece was read at this moment, and before a packet of it came it ended so
  Unfed : List ℕ → ℕ → ConnEnd → Close
  -- these packets of it came and were answered, and it ended so behind them
  Heard : List ℕ → ℕ → List (List ℕ) → ConnEnd → Close
  -- these packets of it were answered, and at this one, when these events of it had come, it ended so
  Hearing : List ℕ → ℕ → List (List ℕ) → List ℕ → List Act → ConnEnd → Close
  -- all packets of it were answered, and when these events of the tick and the runs had come it ended so
  Working : Turn → List Act → ConnEnd → Close

abbrev pub end_of_read : Got → ConnEnd
end_of_read (got.Bytes count) = ends.LinkFault
end_of_read got.End = ends.Ended
end_of_read got.Failed = ends.LinkFault

abbrev pub end_by : Close → ConnEnd
end_by Unbegun = ends.Memory
end_by (Unread answer) = end_of_read answer
end_by Spent = ends.TurnsSpent
end_by (Unfed piece now end) = end
end_by (Heard piece now packets end) = end
end_by (Hearing piece now packets packet acts end) = end
end_by (Working turn acts end) = end

abbrev pub closes : {S V : Type 0} → Rules S V → Close → Place S V → Place S V
closes rules Unbegun place = place
closes rules (Unread answer) place = reads answer place
closes rules Spent place = place
closes rules (Unfed piece now end) place = gets piece now place
closes rules (Heard piece now packets end) place = hears rules now packets (gets piece now place)
closes rules (Hearing piece now packets packet acts end) place = does rules acts (hears rules now packets (gets piece now place))
closes rules (Working turn acts end) place = does rules acts (hears rules turn.now turn.packets (gets turn.piece turn.now place))

abbrev pub IsNoPiece : Got → Type 0
IsNoPiece (got.Bytes count) = ⊥
IsNoPiece got.End = ⊤
IsNoPiece got.Failed = ⊤

-- a piece names no form, or finds no memory
abbrev pub EndsUnfed : List ℕ → ConnEnd → Type 0
EndsUnfed came ends.Start = IsUnnamed came
EndsUnfed came ends.Memory = ⊤
EndsUnfed came ends.Ended = ⊥
EndsUnfed came ends.LinkFault = ⊥
EndsUnfed came (ends.Frame fault) = ⊥
EndsUnfed came ends.TurnsSpent = ⊥
EndsUnfed came ends.Stopped = ⊥
EndsUnfed came (ends.Journal fault) = ⊥

-- Behind these packets, which came behind earlier ones, is a fault of a frame, and one more might have been answered; or the last of
-- them brought the count to 0, whatever is behind it.
abbrev pub EndsHeard : Option ℕ → List ℕ → List (List ℕ) → List (List ℕ) → ConnEnd → Type 0
EndsHeard left came earlier packets (ends.Frame fault) = IsFaulty came (earlier ++ packets) fault × MayAnswerMore (length (earlier ++ packets)) left
EndsHeard left came earlier packets ends.Stopped = AreFirst came (earlier ++ packets) × BringsToZero left earlier packets
EndsHeard left came earlier packets ends.Ended = ⊥
EndsHeard left came earlier packets ends.LinkFault = ⊥
EndsHeard left came earlier packets ends.Start = ⊥
EndsHeard left came earlier packets ends.TurnsSpent = ⊥
EndsHeard left came earlier packets (ends.Journal fault) = ⊥
EndsHeard left came earlier packets ends.Memory = ⊥

-- Of these events a front came: a write of what the last one owes failed, the desk answered a fault, or memory ran out.
abbrev pub IsCut : ConnEnd → List Act → List Act → Type 0
IsCut ends.LinkFault whole acts = (rest : List Act) × (whole ≡ acts ++ rest)
IsCut (ends.Journal fault) whole acts = (rest : List Act) × (whole ≡ acts ++ rest)
IsCut ends.Memory whole acts = (rest : List Act) × (whole ≡ acts ++ rest)
IsCut ends.Ended whole acts = ⊥
IsCut (ends.Frame fault) whole acts = ⊥
IsCut ends.Start whole acts = ⊥
IsCut ends.TurnsSpent whole acts = ⊥
IsCut ends.Stopped whole acts = ⊥

-- So it closes behind this place, on a connection at whose begin so many packets were left to be answered. Where an event of a
-- packet, of the tick or of a run ends it, one more packet might have been answered: the one that is cut isn't counted.
abbrev pub ClosesSo : {S V : Type 0} → Rules S V → Option ℕ → Place S V → Close → Type 0
ClosesSo rules left place Unbegun = ⊤
ClosesSo rules left place (Unread answer) = IsNoPiece answer
ClosesSo rules left place Spent = ⊤
ClosesSo rules left place (Unfed piece now end) = IsPieceSize piece × EndsUnfed (place.came ++ piece) end
ClosesSo rules left place (Heard piece now packets end) = IsPieceSize piece × EndsHeard left (place.came ++ piece) place.packets packets end
ClosesSo rules left place (Hearing piece now packets packet acts end) =
    IsPieceSize piece × AreFirst (place.came ++ piece) (place.packets ++ (packets ++ packet ∷ []))
    × IsCut end (packet_acts rules now packet (hears rules now packets place).talk) acts × MayAnswerMore (length (place.packets ++ packets)) left
ClosesSo rules left place (Working turn acts end) =
    IsPieceSize turn.piece × AreWhole (place.came ++ turn.piece) (place.packets ++ turn.packets)
    × IsCut end (work_acts turn.now turn.runs) acts × MayAnswerMore (length (place.packets ++ turn.packets)) left

-- behind this many turns
abbrev pub ClosesBehind : ℕ → Close → Type 0
ClosesBehind count Unbegun = count ≡ 0
ClosesBehind count Spent = count ≡ turns_max
ClosesBehind count (Unread answer) = count < turns_max
ClosesBehind count (Unfed piece now end) = count < turns_max
ClosesBehind count (Heard piece now packets end) = count < turns_max
ClosesBehind count (Hearing piece now packets packet acts end) = count < turns_max
ClosesBehind count (Working turn acts end) = count < turns_max

-- ---- what is written

-- where memory ran out, the frames of a front of the packets are owed; else of all of them
abbrev pub OwesBy : ConnEnd → List ℕ → List (List ℕ) → List ℕ → Type 0
OwesBy ends.Memory came packets bytes = IsTextOfFront came packets bytes
OwesBy ends.Ended came packets bytes = IsText came packets bytes
OwesBy ends.LinkFault came packets bytes = IsText came packets bytes
OwesBy (ends.Frame fault) came packets bytes = IsText came packets bytes
OwesBy ends.Start came packets bytes = IsText came packets bytes
OwesBy ends.TurnsSpent came packets bytes = IsText came packets bytes
OwesBy ends.Stopped came packets bytes = IsText came packets bytes
OwesBy (ends.Journal fault) came packets bytes = IsText came packets bytes

-- these bytes were written, the pieces came, and the reads are those
pub record Passed {S V : Type 0} (bytes : List ℕ) (place : Place S V) (before after : Told) : Type 0 where
  pub written : after.written ≡ before.written ++ bytes
  pub came : after.came ≡ before.came ++ place.came
  pub reads : after.reads ≡ before.reads ++ place.reads

-- the same, but of the last bytes a front alone was written, short of the whole
pub record PassedFront {S V : Type 0} (whole last : List ℕ) (place : Place S V) (before after : Told) : Type 0 where
  pub front : List ℕ
  pub rest : List ℕ
  pub cut : last ≡ front ++ rest
  pub some : rest ≢ []
  pub passed : Passed (whole ++ front) place before after

-- unless a write failed; what is shown then is told by `BreaksBy`
abbrev pub PassedBy : {S V : Type 0} → ConnEnd → List ℕ → Place S V → Told → Told → Type 0
PassedBy ends.LinkFault bytes place before after = ⊤
PassedBy ends.Ended bytes place before after = Passed bytes place before after
PassedBy (ends.Frame fault) bytes place before after = Passed bytes place before after
PassedBy ends.Start bytes place before after = Passed bytes place before after
PassedBy ends.TurnsSpent bytes place before after = Passed bytes place before after
PassedBy ends.Stopped bytes place before after = Passed bytes place before after
PassedBy (ends.Journal fault) bytes place before after = Passed bytes place before after
PassedBy ends.Memory bytes place before after = Passed bytes place before after

abbrev pub ShowsClose : {S V : Type 0} → Close → List ℕ → Place S V → Told → Told → Type 0
ShowsClose Unbegun bytes place before after = Passed bytes place before after
ShowsClose (Unread answer) bytes place before after = Passed bytes place before after
ShowsClose Spent bytes place before after = Passed bytes place before after
ShowsClose (Unfed piece now end) bytes place before after = PassedBy end bytes place before after
ShowsClose (Heard piece now packets end) bytes place before after = PassedBy end bytes place before after
ShowsClose (Hearing piece now packets packet acts end) bytes place before after = PassedBy end bytes place before after
ShowsClose (Working turn acts end) bytes place before after = PassedBy end bytes place before after

-- Behind a place these events came, and a write of what the last of them owes failed: the frames of all packets that are owed
-- before it were written, and of its bytes a front, short of the whole.
pub record BreaksLast {S V : Type 0} (rules : Rules S V) (place : Place S V) (acts : List Act) (bytes : List ℕ) (before after : Option Told) : Type 0 where
  pub earlier : List Act
  pub last : Act
  pub whole : List ℕ
  pub rest : List ℕ
  pub are : acts ≡ earlier ++ last ∷ []
  pub all : bytes ≡ whole ++ rest
  pub text : IsText place.came (after_acts rules place.talk earlier).sent whole
  pub fails : IfSome after (λ ended. IsSomeAnd before (λ first. PassedFront whole rest place first ended))

abbrev pub BreaksIn : {S V : Type 0} → ConnEnd → Rules S V → Place S V → List Act → List ℕ → Option Told → Option Told → Type 0
BreaksIn ends.LinkFault rules place acts bytes before after = BreaksLast rules place acts bytes before after
BreaksIn ends.Ended rules place acts bytes before after = ⊤
BreaksIn (ends.Frame fault) rules place acts bytes before after = ⊤
BreaksIn ends.Start rules place acts bytes before after = ⊤
BreaksIn ends.TurnsSpent rules place acts bytes before after = ⊤
BreaksIn ends.Stopped rules place acts bytes before after = ⊤
BreaksIn (ends.Journal fault) rules place acts bytes before after = ⊤
BreaksIn ends.Memory rules place acts bytes before after = ⊤

-- what a write that failed leaves
abbrev pub BreaksBy : {S V : Type 0} → Rules S V → Close → Place S V → List ℕ → Option Told → Option Told → Type 0
BreaksBy rules Unbegun place bytes before after = ⊤
BreaksBy rules (Unread answer) place bytes before after = ⊤
BreaksBy rules Spent place bytes before after = ⊤
BreaksBy rules (Unfed piece now end) place bytes before after = ⊤
BreaksBy rules (Heard piece now packets end) place bytes before after = ⊤
BreaksBy rules (Hearing piece now packets packet acts end) place bytes before after =
    BreaksIn end rules (hears rules now packets (gets piece now place)) acts bytes before after
BreaksBy rules (Working turn acts end) place bytes before after =
    BreaksIn end rules (hears rules turn.now turn.packets (gets turn.piece turn.now place)) acts bytes before after

-- ---- the trace

-- What a link and a clock tell, and how many packets may still be answered, where they are counted.
pub record Sight : Type 0 where
  pub told : Option Told
  pub given : Option (List ℕ)
  pub left : Option ℕ

abbrev pub place_after : {S V : Type 0} → Rules S V → Talk S V → List Turn → Close → Place S V
place_after rules talk turns close = closes rules close (turns_from rules (began talk) turns)

-- What a connection did that ended so: the turns, and how it closed behind them; the bytes that they owe. By these the server,
-- the draw and the service, the bytes written, the reads, the moments, and the packets that may still be answered are what they
-- are afterwards.
pub record ServerTrace {S V : Type 0} (rules : Rules S V) (talk : Talk S V) (before : Sight) (end : ConnEnd) (desk : Server → Type 0) (behind_fault : DeskFault → Server → Type 0) (drawn : S) (service : V) (after : Sight) : Type 0 where
  pub turns : List Turn
  pub close : Close
  pub bytes : List ℕ
  pub are : AreTurns rules before.left (began talk) turns
  pub closed : ClosesSo rules before.left (turns_from rules (began talk) turns) close
  pub behind : ClosesBehind (length turns) close
  pub ended : end_by close ≡ end
  pub leaves : LeavesBy end desk behind_fault drawn service (place_after rules talk turns close).talk
  pub owes : OwesBy end (place_after rules talk turns close).came (place_after rules talk turns close).talk.sent bytes
  pub shows : IfSome after.told (λ last. IsSomeAnd before.told (λ first. ShowsClose close bytes (place_after rules talk turns close) first last))
  pub breaks : BreaksBy rules close (turns_from rules (began talk) turns) bytes before.told after.told
  pub moments : Gave (place_after rules talk turns close).moments before.given after.given
  pub left : before.left ≡ with_answered (length (place_after rules talk turns close).packets) after.left
