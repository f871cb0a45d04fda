-- The ten moves, of which every event of a client and of a server is made.
use Rattle.std.specs.Prelude.{ℕ, Bool, List}
use Rattle.law_moves.specs.Table.{CallId, Text, Message, Outcome, Item, Packet}

-- what a client does by itself: it is made, it renews, a call is submitted or given up, it ends
pub data OwnAct : Type 0 where
  NewClient : (client session : ℕ) → OwnAct
  Renew : (client session : ℕ) → OwnAct
  Submit : (client : ℕ) (body : Text) → OwnAct
  GiveUp : (call : CallId) → OwnAct
  End : (client : ℕ) → OwnAct

-- A message of a packet that a client makes: its call of this place under a new number, or again under the number of its living name; no
-- call, under a new number, or again under the number that it was sent under. A container is no call
pub data Part : Type 0 where
  First : (place number : ℕ) → Part
  Again : (place number : ℕ) → Part
  Other : (number : ℕ) → Part
  OtherAgain : (number : ℕ) → Part

-- `takes` says of each item in order whether its salt is taken over, where it is a `bad_server_salt`
pub data Move : Type 0 where
  Own : (act : OwnAct) → Move
  Send : (client : ℕ) (parts : List Part) → Move
  Make : (unique session : ℕ) → Move
  Draw : (unique salt : ℕ) → Move
  Judge : (unique : ℕ) (message : Message) (outcome : Outcome) → Move
  Forget : (unique number : ℕ) → Move
  Answer : (unique number : ℕ) (body reply : Text) → Move
  Speak : (unique : ℕ) (items : List Item) → Move
  Hear : (client : ℕ) (packet : Packet) (takes : List Bool) → Move
  Lose : (unique : ℕ) → Move
