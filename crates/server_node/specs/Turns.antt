-- What the turns of a connection do: scaffolding of proofs, and no promise.
use Rattle.std.specs.Prelude.{◌≡◌, ◌<◌, ◌≤◌, ◌+◌, ◌*◌, ℕ, List, [], ◌++◌, length, Option, Some, None, IfSome, IsSomeAnd}
use Rattle.auth_keys.specs.declared.ring.RingKey.{RingKey}
use Rattle.envelope.specs.Packet.{Lock}
use Rattle.mt_edge.specs.Clocks.{Gave}
use Rattle.mt_edge.specs.Links.{Told}
use Rattle.regs_service.specs.Served.{Step}
use Rattle.transport.specs.Starts.{IsAwaited, Opening, Starts}
use Rattle.transport.specs.Wires.{Hears, Line}
use Rattle.server_node.specs.Connection.{AreTurns, BreaksBy, Close, ClosesBehind, ClosesSo, IsPieceSize, IsTurn, OwesBy, Passed, PassedBy, Place, ShowsClose, Sight, Turn, began, closes, end_by, gets, turned, turns_from}
use Rattle.server_node.specs.Doing.{Side, Stands, StandsBy}
use Rattle.transport.specs.Spelt.{Spells}
use Rattle.server_node.specs.Record.{piece_bytes, turns_max, with_answered}
use Rattle.server_node.specs.Trace.{IsOutside, Outside, Rules, Talk, rules_of}
use Rattle.server_node.specs.Writes.{WrittenBy}
use Rattle.server_node.specs.declared.conn.ConnEnd.{ConnEnd}
use Rattle.server_node.specs.declared.line.Line.{Line as Ends}
use Rattle.server_node.specs.declared.line.Line.TheVariants.{Raw, Framed}

-- ---- a line

pub record IsFramed (wire : Line) (came : List ℕ) (packets sent : List (List ℕ)) (bytes : List ℕ) : Type 0 where
  pub opening : Opening
  pub rest : List ℕ
  pub starts : Starts came opening rest
  pub form : wire.form ≡ opening.form
  pub hears : Hears wire opening.up packets rest
  pub tells : Spells wire opening.down sent bytes

pub record IsRaw (wire came : List ℕ) (packets sent : List (List ℕ)) (bytes : List ℕ) : Type 0 where
  pub wire_is : wire ≡ came
  pub awaited : IsAwaited came
  pub none : packets ≡ []
  pub unsent : sent ≡ []
  pub unwritten : bytes ≡ []

-- it was given these bytes, and gave these packets of them; these packets were sent over it, by these bytes
abbrev pub IsLine : Ends → List ℕ → List (List ℕ) → List (List ℕ) → List ℕ → Type 0
IsLine (Raw wire) came packets sent bytes = IsRaw wire came packets sent bytes
IsLine (Framed wire) came packets sent bytes = IsFramed wire came packets sent bytes

-- a connection stands at this place, and these bytes were written
pub record StandsAt {S V : Type 0} (side : Side S V) (place : Place S V) (bytes : List ℕ) : Type 0 where
  pub talk : Stands side place.talk
  pub line : IsLine side.line place.came place.packets place.talk.sent bytes

-- ---- a piece

-- as many bytes as one connection gives at most: pieces of 65,536 bytes, 1,000,000 of them
abbrev pub came_max : ℕ
came_max = 65536000000

pub record PieceDone {S V : Type 0} (rules : Rules S V) (place : Place S V) (bytes piece : List ℕ) (now : ℕ) (told : Option Told) (later : Side S V) (first left_then : Option ℕ) : Type 0 where
  pub packets : List (List ℕ)
  pub runs : ℕ
  pub more : List ℕ
  pub is : IsPieceSize piece → IsTurn rules first place (record { piece = piece; now = now; packets = packets; runs = runs })
  pub stands : StandsAt later (turned rules (record { piece = piece; now = now; packets = packets; runs = runs }) place) (bytes ++ more)
  pub written : WrittenBy None more told later.told
  pub left : first ≡ with_answered (length (place.packets ++ packets)) left_then

pub record PieceEnded {S V : Type 0} (rules : Rules S V) (place : Place S V) (bytes piece : List ℕ) (now : ℕ) (end : ConnEnd) (told : Option Told) (later : Side S V) (first left_then : Option ℕ) : Type 0 where
  pub close : Close
  pub more : List ℕ
  pub is : IsPieceSize piece → ClosesSo rules first place close
  pub behind : (count : ℕ) → count < turns_max → ClosesBehind count close
  pub ended : end_by close ≡ end
  pub leaves : StandsBy (Some end) later (closes rules close place).talk
  pub owes : OwesBy end (closes rules close place).came (closes rules close place).talk.sent (bytes ++ more)
  pub came : (closes rules close place).came ≡ (gets piece now place).came
  pub reads : (closes rules close place).reads ≡ (gets piece now place).reads
  pub moments : (closes rules close place).moments ≡ (gets piece now place).moments
  pub shows : (before after : Told) → PassedBy end (bytes ++ more) (closes rules close place) before after → ShowsClose close (bytes ++ more) (closes rules close place) before after
  pub breaks : (before : Option Told) → IfSome told (λ last. IsSomeAnd before (λ first. Passed bytes (gets piece now place) first last)) → BreaksBy rules close place (bytes ++ more) before later.told
  pub written : WrittenBy (Some end) more told later.told
  pub left : first ≡ with_answered (length (closes rules close place).packets) left_then

abbrev pub PieceBy : {S V : Type 0} → Rules S V → Place S V → List ℕ → List ℕ → ℕ → Option ConnEnd → Option Told → Side S V → Option ℕ → Option ℕ → Type 0
PieceBy rules place bytes piece now None told later first left_then = PieceDone rules place bytes piece now told later first left_then
PieceBy rules place bytes piece now (Some end) told later first left_then = PieceEnded rules place bytes piece now end told later first left_then

-- all that a piece brings came, from whatever place this stood at
abbrev pub TookPiece : {S V : Type 0} → (S → ℕ × S) → Step V → Lock → List RingKey → List ℕ → ℕ → Side S V → Side S V → Option ℕ → Option ℕ → Option ConnEnd → Type 0
TookPiece {S} {V} step serve lock ring piece now side later left left_then end =
    (outside : Outside) (place : Place S V) (bytes : List ℕ) (first : Option ℕ) → IsOutside lock ring outside → StandsAt side place bytes
    → length place.came + length piece ≤ came_max → first ≡ with_answered (length place.packets) left
    → PieceBy (rules_of step serve outside) place bytes piece now end side.told later first left_then

-- ---- a turn

-- by a first sight and one now: these bytes were written, what came to this place was read, the moments are its, and its packets
-- were answered
pub record Seen {S V : Type 0} (first now : Sight) (place : Place S V) (bytes : List ℕ) : Type 0 where
  pub told : IfSome now.told (λ last. IsSomeAnd first.told (λ before. Passed bytes place before last))
  pub moments : Gave place.moments first.given now.given
  pub left : first.left ≡ with_answered (length place.packets) now.left

pub record TurnDone {S V : Type 0} (rules : Rules S V) (place : Place S V) (bytes : List ℕ) (later : Side S V) (first after : Sight) : Type 0 where
  pub turn : Turn
  pub more : List ℕ
  pub is : IsTurn rules first.left place turn
  pub stands : StandsAt later (turned rules turn place) (bytes ++ more)
  pub seen : Seen first after (turned rules turn place) (bytes ++ more)

pub record TurnEnded {S V : Type 0} (rules : Rules S V) (place : Place S V) (bytes : List ℕ) (end : ConnEnd) (later : Side S V) (first after : Sight) : Type 0 where
  pub close : Close
  pub more : List ℕ
  pub is : ClosesSo rules first.left place close
  pub behind : (count : ℕ) → count < turns_max → ClosesBehind count close
  pub ended : end_by close ≡ end
  pub leaves : StandsBy (Some end) later (closes rules close place).talk
  pub owes : OwesBy end (closes rules close place).came (closes rules close place).talk.sent (bytes ++ more)
  pub shows : IfSome after.told (λ last. IsSomeAnd first.told (λ before. ShowsClose close (bytes ++ more) (closes rules close place) before last))
  pub breaks : BreaksBy rules close place (bytes ++ more) first.told after.told
  pub moments : Gave (closes rules close place).moments first.given after.given
  pub left : first.left ≡ with_answered (length (closes rules close place).packets) after.left

abbrev pub TurnBy : {S V : Type 0} → Rules S V → Place S V → List ℕ → Option ConnEnd → Side S V → Sight → Sight → Type 0
TurnBy rules place bytes None later first after = TurnDone rules place bytes later first after
TurnBy rules place bytes (Some end) later first after = TurnEnded rules place bytes end later first after

-- one piece was read, and all that it brings came, from whatever place this stood at
abbrev pub TookTurn : {S V : Type 0} → (S → ℕ × S) → Step V → Lock → List RingKey → Side S V → Side S V → Sight → Sight → Option ConnEnd → Type 0
TookTurn {S} {V} step serve lock ring side later now after end =
    (outside : Outside) (place : Place S V) (bytes : List ℕ) (first : Sight) → IsOutside lock ring outside → StandsAt side place bytes
    → length place.came + piece_bytes ≤ came_max → Seen first now place bytes
    → TurnBy (rules_of step serve outside) place bytes end later first after

-- ---- turns so far

-- so many turns came
pub record TurnsSoFar {S V : Type 0} (rules : Rules S V) (talk : Talk S V) (first : Sight) (count : ℕ) (side : Side S V) (now : Sight) : Type 0 where
  pub turns : List Turn
  pub bytes : List ℕ
  pub count_is : length turns ≡ count
  pub are : AreTurns rules first.left (began talk) turns
  pub stands : StandsAt side (turns_from rules (began talk) turns) bytes
  pub seen : Seen first now (turns_from rules (began talk) turns) bytes
  pub few : length (turns_from rules (began talk) turns).came ≤ count * piece_bytes
