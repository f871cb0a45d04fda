-- What the events of a connection do, over a desk, a line and a link: scaffolding of proofs, and no promise.
use Rattle.std.specs.Prelude.{◌≡◌, ◌≢◌, ℕ, List, [], ◌∷◌, ◌++◌, zero, suc, Option, Some, None, IfSome, IsSomeAnd, Result, Ok, Err, ⊤}
use Rattle.auth_keys.specs.declared.ring.RingKey.{RingKey}
use Rattle.cipher_modes.specs.CounterMode.{CtrState}
use Rattle.envelope.specs.Packet.{Lock}
use Rattle.mt_edge.specs.Links.{Told}
use Rattle.regs_service.specs.Served.{Step}
use Rattle.server_rules.specs.Server.{Server}
use Rattle.server_core.specs.declared.desk.DeskFault.{DeskFault}
use Rattle.server_core.specs.declared.desk.DeskFault.TheVariants as faults
use Rattle.server_node.specs.Connection.{IsIdle}
use Rattle.server_node.specs.Served.{IfFull}
use Rattle.server_node.specs.Steps.{IsQuiet, LineFrames, LineTells, SentBy}
use Rattle.server_node.specs.Trace.{rules_of, Act, IsOutside, Outside, Rules, Talk, after_acts, work_acts}
use Rattle.server_node.specs.Writes.{WrittenBy, WroteFront}
use Rattle.server_node.specs.declared.conn.ConnEnd.{ConnEnd}
use Rattle.server_node.specs.declared.conn.ConnEnd.TheVariants as ends
use Rattle.server_core.specs.declared.session_name.SessionName.{SessionName}
use Rattle.server_node.specs.declared.line.Line.{Line}

-- where a connection stands: the servers that its desk stands for, and for which it is behind a fault of it, its draw, the service, the sessions that were heard, the
-- line, and what the link tells
pub record Side (S V : Type 0) : Type 1 where
  pub desk : Server → Type 0
  pub behind : DeskFault → Server → Type 0
  pub drawn : S
  pub service : V
  pub heard : List SessionName
  pub line : Line
  pub told : Option Told

-- its desk, its draw and its service are those of this talk
pub record Serves {S V : Type 0} (side : Side S V) (talk : Talk S V) : Type 0 where
  pub server : side.desk talk.server
  pub drawn : side.drawn ≡ talk.draw
  pub service : side.service ≡ talk.service

-- it stands for this talk
pub record Stands {S V : Type 0} (side : Side S V) (talk : Talk S V) : Type 0 where
  pub serves : Serves side talk
  pub heard : side.heard ≡ talk.heard
  pub quiet : IsQuiet side.line side.heard

-- Where the connection ended its desk and service are still those of the talk, but words may have been drawn in vain where
-- memory ran out, or the desk had no room. Behind another fault of the desk it is what that says of it.
abbrev pub StandsBy : {S V : Type 0} → Option ConnEnd → Side S V → Talk S V → Type 0
StandsBy None side talk = Stands side talk
StandsBy (Some ends.Memory) side talk = side.desk talk.server × (side.service ≡ talk.service)
StandsBy (Some (ends.Journal fault)) side talk = side.behind fault talk.server × IfFull fault (side.desk talk.server × (side.service ≡ talk.service))
StandsBy (Some ends.LinkFault) side talk = Serves side talk
StandsBy (Some ends.Ended) side talk = Serves side talk
StandsBy (Some (ends.Frame fault)) side talk = Serves side talk
StandsBy (Some ends.Start) side talk = Serves side talk
StandsBy (Some ends.TurnsSpent) side talk = Serves side talk
StandsBy (Some ends.Stopped) side talk = Serves side talk

-- all these events came, or a front of them where one of them ended the connection
abbrev pub IsPart : Option ConnEnd → List Act → List Act → Type 0
IsPart None whole acts = whole ≡ acts
IsPart (Some end) whole acts = (rest : List Act) × (whole ≡ acts ++ rest)

-- the events that are due, which hang on the rules and on where they begin
abbrev pub Due : Type 0 → Type 0 → Type 0
Due S V = Rules S V → Talk S V → List Act

abbrev pub then_due : {S V : Type 0} → Due S V → Due S V → Due S V
then_due first second rules talk = first rules talk ++ second rules (after_acts rules talk (first rules talk))

-- Behind some events these came, and a write of what the last of them owes failed: all that is owed before it was written, and of
-- its bytes a front, short of the whole.
pub record Cut {S V : Type 0} (step : S → ℕ × S) (serve : Step V) (lock : Lock) (ring : List RingKey) (side : Side S V) (line_then : Line) (told_then : Option Told) (first : Due S V) (acts : List Act) (bytes : List ℕ) : Type 0 where
  pub earlier : List Act
  pub last : Act
  pub whole : List ℕ
  pub rest : List ℕ
  pub are : acts ≡ earlier ++ last ∷ []
  pub all : bytes ≡ whole ++ rest
  pub frames : (outside : Outside) (talk : Talk S V) → IsOutside lock ring outside → Stands side talk → (to : Option CtrState) (text : List ℕ) → LineTells side.line to talk.sent text
      → LineFrames line_then to (after_acts (rules_of step serve outside) (after_acts (rules_of step serve outside) talk (first (rules_of step serve outside) talk)) earlier).sent (text ++ whole)
  pub fails : IfSome told_then (λ ended. IsSomeAnd side.told (λ begun. WroteFront whole rest begun ended))

abbrev pub CutBy : {S V : Type 0} → Option ConnEnd → (S → ℕ × S) → Step V → Lock → List RingKey → Side S V → Line → Option Told → Due S V → List Act → List ℕ → Type 0
CutBy (Some ends.LinkFault) step serve lock ring side line_then told_then first acts bytes = Cut step serve lock ring side line_then told_then first acts bytes
CutBy None step serve lock ring side line_then told_then first acts bytes = ⊤
CutBy (Some ends.Ended) step serve lock ring side line_then told_then first acts bytes = ⊤
CutBy (Some (ends.Frame fault)) step serve lock ring side line_then told_then first acts bytes = ⊤
CutBy (Some ends.Start) step serve lock ring side line_then told_then first acts bytes = ⊤
CutBy (Some ends.TurnsSpent) step serve lock ring side line_then told_then first acts bytes = ⊤
CutBy (Some ends.Stopped) step serve lock ring side line_then told_then first acts bytes = ⊤
CutBy (Some (ends.Journal fault)) step serve lock ring side line_then told_then first acts bytes = ⊤
CutBy (Some ends.Memory) step serve lock ring side line_then told_then first acts bytes = ⊤

-- no event came before
abbrev pub at_once : {S V : Type 0} → Due S V
at_once rules talk = []

pub record Followed {S V : Type 0} (rules : Rules S V) (side : Side S V) (due : Due S V) (end : Option ConnEnd) (later : Side S V) (acts : List Act) (bytes : List ℕ) (talk : Talk S V) : Type 0 where
  pub part : IsPart end (due rules talk) acts
  pub stands : StandsBy end later (after_acts rules talk acts)
  pub sends : (to : Option CtrState) (text : List ℕ) → LineTells side.line to talk.sent text → SentBy end later.line to (after_acts rules talk acts).sent (text ++ bytes)

-- These events came, and their packets were written, for whatever this stood for.
pub record Did {S V : Type 0} (step : S → ℕ × S) (serve : Step V) (lock : Lock) (ring : List RingKey) (side : Side S V) (due : Due S V) (end : Option ConnEnd) (later : Side S V) : Type 0 where
  pub acts : List Act
  pub bytes : List ℕ
  pub follows : (outside : Outside) (talk : Talk S V) → IsOutside lock ring outside → Stands side talk
      → Followed (rules_of step serve outside) side due end later acts bytes talk
  pub written : WrittenBy end bytes side.told later.told
  pub cut : CutBy end step serve lock ring side later.line later.told at_once acts bytes

-- Behind some events, of others that follow them all came, or a front where the connection ended.
pub record FollowedThenBy {S V : Type 0} (rules : Rules S V) (side : Side S V) (second : Due S V) (end : Option ConnEnd) (later : Side S V) (first acts : List Act) (bytes : List ℕ) (talk : Talk S V) : Type 0 where
  pub part : IsPart end (second rules (after_acts rules talk first)) acts
  pub stands : StandsBy end later (after_acts rules (after_acts rules talk first) acts)
  pub sends : (to : Option CtrState) (text : List ℕ) → LineTells side.line to talk.sent text → SentBy end later.line to (after_acts rules (after_acts rules talk first) acts).sent (text ++ bytes)

pub record DidThen {S V : Type 0} (step : S → ℕ × S) (serve : Step V) (lock : Lock) (ring : List RingKey) (side : Side S V) (first second : Due S V) (end : Option ConnEnd) (later : Side S V) : Type 0 where
  pub acts : List Act
  pub bytes : List ℕ
  pub follows : (outside : Outside) (talk : Talk S V) → IsOutside lock ring outside → Stands side talk
      → FollowedThenBy (rules_of step serve outside) side second end later (first (rules_of step serve outside) talk) acts bytes talk
  pub written : WrittenBy end bytes side.told later.told
  pub cut : CutBy end step serve lock ring side later.line later.told first acts bytes

-- ---- work

-- where it goes on, no job is ready then
abbrev pub IsIdleBy : Option ConnEnd → Server → Type 0
IsIdleBy None server = IsIdle server
IsIdleBy (Some end) server = ⊤

-- A tick came, and so many runs.
pub record Worked {S V : Type 0} (step : S → ℕ × S) (serve : Step V) (lock : Lock) (ring : List RingKey) (side : Side S V) (now : ℕ) (end : Option ConnEnd) (later : Side S V) : Type 0 where
  pub count : ℕ
  pub did : Did step serve lock ring side (λ rules talk. work_acts now count) end later
  pub idle : (outside : Outside) (talk : Talk S V) → IsOutside lock ring outside → Stands side talk
      → IsIdleBy end (after_acts (rules_of step serve outside) talk (work_acts now count)).server

-- ---- how events end a connection

-- by the desk, or by what is sent
abbrev pub IsEventEnd : (DeskFault → Type 0) → Option ConnEnd → Type 0
IsEventEnd MayAnswer None = ⊤
IsEventEnd MayAnswer (Some ends.LinkFault) = ⊤
IsEventEnd MayAnswer (Some ends.Memory) = ⊤
IsEventEnd MayAnswer (Some (ends.Journal fault)) = MayAnswer fault × (fault ≢ faults.Memory)
IsEventEnd MayAnswer (Some ends.Ended) = ⊥
IsEventEnd MayAnswer (Some (ends.Frame fault)) = ⊥
IsEventEnd MayAnswer (Some ends.Start) = ⊥
IsEventEnd MayAnswer (Some ends.TurnsSpent) = ⊥
IsEventEnd MayAnswer (Some ends.Stopped) = ⊥

-- how a fault of the desk ends it
abbrev pub end_by : DeskFault → ConnEnd
end_by faults.Memory = ends.Memory
end_by faults.Closed = ends.Journal faults.Closed
end_by (faults.Full len) = ends.Journal (faults.Full len)
end_by faults.Disk = ends.Journal faults.Disk

-- ---- how packets and pieces end a connection

abbrev pub IsPacketEnd : (DeskFault → Type 0) → Option ConnEnd → Type 0
IsPacketEnd MayAnswer None = ⊤
IsPacketEnd MayAnswer (Some ends.LinkFault) = ⊤
IsPacketEnd MayAnswer (Some ends.Memory) = ⊤
IsPacketEnd MayAnswer (Some (ends.Journal fault)) = MayAnswer fault × (fault ≢ faults.Memory)
IsPacketEnd MayAnswer (Some (ends.Frame fault)) = ⊤
IsPacketEnd MayAnswer (Some ends.Ended) = ⊥
IsPacketEnd MayAnswer (Some ends.Start) = ⊥
IsPacketEnd MayAnswer (Some ends.TurnsSpent) = ⊥
IsPacketEnd MayAnswer (Some ends.Stopped) = ⊥

abbrev pub IsPacketsEnd : (DeskFault → Type 0) → Option ConnEnd → Type 0
IsPacketsEnd MayAnswer None = ⊤
IsPacketsEnd MayAnswer (Some ends.LinkFault) = ⊤
IsPacketsEnd MayAnswer (Some ends.Memory) = ⊤
IsPacketsEnd MayAnswer (Some (ends.Journal fault)) = MayAnswer fault × (fault ≢ faults.Memory)
IsPacketsEnd MayAnswer (Some (ends.Frame fault)) = ⊤
IsPacketsEnd MayAnswer (Some ends.Stopped) = ⊤
IsPacketsEnd MayAnswer (Some ends.Ended) = ⊥
IsPacketsEnd MayAnswer (Some ends.Start) = ⊥
IsPacketsEnd MayAnswer (Some ends.TurnsSpent) = ⊥

abbrev pub IsPieceEnd : (DeskFault → Type 0) → Option ConnEnd → Type 0
IsPieceEnd MayAnswer None = ⊤
IsPieceEnd MayAnswer (Some ends.LinkFault) = ⊤
IsPieceEnd MayAnswer (Some ends.Memory) = ⊤
IsPieceEnd MayAnswer (Some (ends.Journal fault)) = MayAnswer fault × (fault ≢ faults.Memory)
IsPieceEnd MayAnswer (Some (ends.Frame fault)) = ⊤
IsPieceEnd MayAnswer (Some ends.Start) = ⊤
IsPieceEnd MayAnswer (Some ends.Stopped) = ⊤
IsPieceEnd MayAnswer (Some ends.Ended) = ⊥
IsPieceEnd MayAnswer (Some ends.TurnsSpent) = ⊥

abbrev pub IsTurnEnd : (DeskFault → Type 0) → Option ConnEnd → Type 0
IsTurnEnd MayAnswer None = ⊤
IsTurnEnd MayAnswer (Some ends.LinkFault) = ⊤
IsTurnEnd MayAnswer (Some ends.Memory) = ⊤
IsTurnEnd MayAnswer (Some (ends.Journal fault)) = MayAnswer fault × (fault ≢ faults.Memory)
IsTurnEnd MayAnswer (Some (ends.Frame fault)) = ⊤
IsTurnEnd MayAnswer (Some ends.Start) = ⊤
IsTurnEnd MayAnswer (Some ends.Stopped) = ⊤
IsTurnEnd MayAnswer (Some ends.Ended) = ⊤
IsTurnEnd MayAnswer (Some ends.TurnsSpent) = ⊥

-- how a fed line ends one
abbrev pub IsFeedEnd : Option ConnEnd → Type 0
IsFeedEnd None = ⊤
IsFeedEnd (Some ends.Memory) = ⊤
IsFeedEnd (Some ends.Start) = ⊤
IsFeedEnd (Some ends.LinkFault) = ⊥
IsFeedEnd (Some (ends.Journal fault)) = ⊥
IsFeedEnd (Some (ends.Frame fault)) = ⊥
IsFeedEnd (Some ends.Stopped) = ⊥
IsFeedEnd (Some ends.Ended) = ⊥
IsFeedEnd (Some ends.TurnsSpent) = ⊥

-- ---- packets that may still be answered

-- the last of them was answered
abbrev pub stop_by : Option ℕ → Result Unit ConnEnd
stop_by None = Ok tt
stop_by (Some zero) = Err ends.Stopped
stop_by (Some (suc left)) = Ok tt
