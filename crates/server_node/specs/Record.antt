-- The reads of a connection, as its link tells them.
use Rattle.std.specs.Prelude.{◌≡◌, ◌≢◌, ◌<◌, ◌≤◌, ◌+◌, ◌-◌, ◌⊎◌, ℕ, List, [], ◌∷◌, ◌++◌, length, All, Option, Some, None, ⊤}
use Rattle.mt_edge.specs.Links.{Told}
use Rattle.mt_edge.specs.Reads.{IsPiece as GaveBytes}
use Rattle.mt_edge.specs.declared.link_read.LinkRead.{LinkRead}
use Rattle.mt_edge.specs.declared.source.Got.{Got}
use Rattle.mt_edge.specs.declared.source.Got.TheVariants.{End, Failed}
use Rattle.server_node.specs.declared.conn.ConnEnd.{ConnEnd}
use Rattle.server_node.specs.declared.conn.ConnEnd.TheVariants as ends

-- the bytes that each read is offered room for
abbrev pub piece_bytes : ℕ
piece_bytes = 65536

-- the most pieces that one connection gives
abbrev pub turns_max : ℕ
turns_max = 1000000

-- a read that gave a piece
abbrev pub IsPiece : LinkRead → Type 0
IsPiece read = (read.room ≡ piece_bytes) × GaveBytes read.answer

-- the read behind the pieces: one that came to the end exactly where the connection ended by that, and one that failed only
-- where it ended by a fault of the link
abbrev pub IsLast : ConnEnd → List LinkRead → Type 0
IsLast ends.Ended reads = reads ≡ record { room = piece_bytes; answer = End } ∷ []
IsLast ends.LinkFault reads = (reads ≡ []) ⊎ (reads ≡ record { room = piece_bytes; answer = Failed } ∷ [])
IsLast (ends.Frame fault) reads = reads ≡ []
IsLast ends.Start reads = reads ≡ []
IsLast ends.TurnsSpent reads = reads ≡ []
IsLast ends.Stopped reads = reads ≡ []
IsLast (ends.Journal fault) reads = reads ≡ []
IsLast ends.Memory reads = reads ≡ []

-- the answer of a read, by how the connection ended then, if it did: its end, no end where a call of the link failed, else
-- a piece
abbrev pub IsTurn : Option ConnEnd → Got → Type 0
IsTurn (Some ends.Ended) answer = answer ≡ End
IsTurn (Some ends.LinkFault) answer = answer ≢ End
IsTurn None answer = GaveBytes answer
IsTurn (Some (ends.Frame fault)) answer = GaveBytes answer
IsTurn (Some ends.Start) answer = GaveBytes answer
IsTurn (Some ends.TurnsSpent) answer = GaveBytes answer
IsTurn (Some ends.Stopped) answer = GaveBytes answer
IsTurn (Some (ends.Journal fault)) answer = GaveBytes answer
IsTurn (Some ends.Memory) answer = GaveBytes answer

-- one read of so much room, and writes
pub record Turned (end : Option ConnEnd) (room : ℕ) (before after : Told) : Type 0 where
  pub read : LinkRead
  pub reads : after.reads ≡ before.reads ++ read ∷ []
  pub offered : read.room ≡ room
  pub its : IsTurn end read.answer

-- What a connection that ended so read: pieces, and the read that ended it, where one did. It gave as many pieces as it may
-- exactly where it ended by that, unless the last one ended it otherwise.
pub record ReadTo (end : ConnEnd) (before after : Told) : Type 0 where
  pub pieces : List LinkRead
  pub last : List LinkRead
  pub reads : after.reads ≡ before.reads ++ (pieces ++ last)
  pub each : All IsPiece pieces
  pub its : IsLast end last
  pub few : length pieces ≤ turns_max
  pub spent : end ≡ ends.TurnsSpent → length pieces ≡ turns_max

-- ---- packets that may still be answered

-- one packet fewer
abbrev pub counted_down : Option ℕ → Option ℕ
counted_down None = None
counted_down (Some left) = Some (left - 1)

-- what was left before so many packets were answered: they, and what is left, so that never more are answered than were left
abbrev pub with_answered : ℕ → Option ℕ → Option ℕ
with_answered count None = None
with_answered count (Some left) = Some (left + count)

-- so many packets are fewer than were left, where they are counted: one more may be answered
abbrev pub MayAnswerMore : ℕ → Option ℕ → Type 0
MayAnswerMore count None = ⊤
MayAnswerMore count (Some left) = count < left

-- of these packets, which came behind earlier ones, the last brought the count to 0
pub record BringsToZero (left : Option ℕ) (earlier packets : List (List ℕ)) : Type 0 where
  pub some : packets ≢ []
  pub all : left ≡ Some (length (earlier ++ packets))

abbrev pub IsFewer : Option ℕ → Option ℕ → Type 0
IsFewer None after = after ≡ None
IsFewer (Some left) None = ⊥
IsFewer (Some left) (Some rest) = rest ≤ left

-- none is left exactly where the connection ended by that
abbrev pub Stops : Option ConnEnd → Option ℕ → Type 0
Stops (Some ends.Stopped) left = left ≡ Some 0
Stops None left = left ≢ Some 0
Stops (Some ends.Ended) left = left ≢ Some 0
Stops (Some ends.LinkFault) left = left ≢ Some 0
Stops (Some (ends.Frame fault)) left = left ≢ Some 0
Stops (Some ends.Start) left = left ≢ Some 0
Stops (Some ends.TurnsSpent) left = left ≢ Some 0
Stops (Some (ends.Journal fault)) left = left ≢ Some 0
Stops (Some ends.Memory) left = left ≢ Some 0

-- packets were answered, where they are counted
pub record Answered (end : Option ConnEnd) (before after : Option ℕ) : Type 0 where
  pub fewer : IsFewer before after
  pub stops : Stops end after
