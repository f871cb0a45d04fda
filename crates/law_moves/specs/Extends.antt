-- What moves only add to, and what they leave as it was.
use Rattle.std.specs.Prelude.{ℕ, ◌≡◌, ◌≢◌, ◌≤◌}
use Rattle.std.specs.List.{Contains}
use Rattle.law_moves.specs.Table.{CallId, Name, Message, Judged, ServerSession, Packet, Entry}
use Rattle.law_moves.specs.Table.Status.{Unmade, Lost}
use Rattle.law_moves.specs.World.{World}
use Rattle.law_moves.specs.Move.{Move}
use Rattle.law_moves.specs.Move.OwnAct.{NewClient, Renew, Submit, GiveUp, End}
use Rattle.law_moves.specs.Move.Move.{Own, Send, Make, Draw, Judge, Forget, Answer, Speak, Hear, Lose}

-- server sessions only grow: salts, outcomes and forgotten numbers are added, and one that was made stays made, and lost stays lost
pub record Grows (old new : ℕ → ServerSession) : Type 0 where
  pub session : (unique : ℕ) → (old unique).status ≢ Unmade → (new unique).session ≡ (old unique).session
  pub made : (unique : ℕ) → (old unique).status ≢ Unmade → (new unique).status ≢ Unmade
  pub since : (unique : ℕ) → (old unique).status ≢ Unmade → (new unique).made ≡ (old unique).made
  pub lost : (unique at : ℕ) → (old unique).status ≡ Lost at → (new unique).status ≡ Lost at
  pub salts : (unique salt : ℕ) → Contains (old unique).salts salt → Contains (new unique).salts salt
  pub judged : (unique : ℕ) (judged : Judged) → Contains (old unique).judged judged → Contains (new unique).judged judged
  pub forgotten : (unique number : ℕ) → Contains (old unique).forgotten number → Contains (new unique).forgotten number

-- all that was made is there later
pub record Extends (w later : World) : Type 0 where
  pub servers : Grows w.servers later.servers
  pub messages : (message : Message) → Contains w.ups message → Contains later.ups message
  pub packets : (packet : Packet) → Contains w.downs packet → Contains later.downs packet
  pub entries : (entry : Entry) → Contains w.entries entry → Contains later.entries entry
  pub names : (call : CallId) (name : Name) → Contains (w.calls call).names name → Contains (later.calls call).names name
  pub submitted : (client : ℕ) → w.submitted client ≤ later.submitted client

-- Parts that a move leaves as they were

abbrev pub LeavesServers : Move → Type 0
LeavesServers (Own act) = Unit {0}
LeavesServers (Send client parts) = Unit {0}
LeavesServers (Make unique session) = ⊥
LeavesServers (Draw unique salt) = ⊥
LeavesServers (Judge unique message outcome) = ⊥
LeavesServers (Forget unique number) = ⊥
LeavesServers (Answer unique number body reply) = Unit {0}
LeavesServers (Speak unique items) = Unit {0}
LeavesServers (Hear client packet takes) = Unit {0}
LeavesServers (Lose unique) = ⊥

abbrev pub LeavesClients : Move → Type 0
LeavesClients (Own act) = ⊥
LeavesClients (Send client parts) = Unit {0}
LeavesClients (Make unique session) = Unit {0}
LeavesClients (Draw unique salt) = Unit {0}
LeavesClients (Judge unique message outcome) = Unit {0}
LeavesClients (Forget unique number) = Unit {0}
LeavesClients (Answer unique number body reply) = Unit {0}
LeavesClients (Speak unique items) = Unit {0}
LeavesClients (Hear client packet takes) = ⊥
LeavesClients (Lose unique) = Unit {0}

abbrev pub LeavesCalls : Move → Type 0
LeavesCalls (Own act) = ⊥
LeavesCalls (Send client parts) = ⊥
LeavesCalls (Make unique session) = Unit {0}
LeavesCalls (Draw unique salt) = Unit {0}
LeavesCalls (Judge unique message outcome) = Unit {0}
LeavesCalls (Forget unique number) = Unit {0}
LeavesCalls (Answer unique number body reply) = Unit {0}
LeavesCalls (Speak unique items) = Unit {0}
LeavesCalls (Hear client packet takes) = ⊥
LeavesCalls (Lose unique) = Unit {0}

-- only a submission makes a call
abbrev pub LeavesSubmitted : Move → Type 0
LeavesSubmitted (Own (NewClient client session)) = Unit {0}
LeavesSubmitted (Own (Renew client session)) = Unit {0}
LeavesSubmitted (Own (Submit client body)) = ⊥
LeavesSubmitted (Own (GiveUp call)) = Unit {0}
LeavesSubmitted (Own (End client)) = Unit {0}
LeavesSubmitted (Send client parts) = Unit {0}
LeavesSubmitted (Make unique session) = Unit {0}
LeavesSubmitted (Draw unique salt) = Unit {0}
LeavesSubmitted (Judge unique message outcome) = Unit {0}
LeavesSubmitted (Forget unique number) = Unit {0}
LeavesSubmitted (Answer unique number body reply) = Unit {0}
LeavesSubmitted (Speak unique items) = Unit {0}
LeavesSubmitted (Hear client packet takes) = Unit {0}
LeavesSubmitted (Lose unique) = Unit {0}

-- only a packet up adds messages
abbrev pub LeavesMessages : Move → Type 0
LeavesMessages (Own act) = Unit {0}
LeavesMessages (Send client parts) = ⊥
LeavesMessages (Make unique session) = Unit {0}
LeavesMessages (Draw unique salt) = Unit {0}
LeavesMessages (Judge unique message outcome) = Unit {0}
LeavesMessages (Forget unique number) = Unit {0}
LeavesMessages (Answer unique number body reply) = Unit {0}
LeavesMessages (Speak unique items) = Unit {0}
LeavesMessages (Hear client packet takes) = Unit {0}
LeavesMessages (Lose unique) = Unit {0}

abbrev pub LeavesPackets : Move → Type 0
LeavesPackets (Own act) = Unit {0}
LeavesPackets (Send client parts) = Unit {0}
LeavesPackets (Make unique session) = Unit {0}
LeavesPackets (Draw unique salt) = Unit {0}
LeavesPackets (Judge unique message outcome) = Unit {0}
LeavesPackets (Forget unique number) = Unit {0}
LeavesPackets (Answer unique number body reply) = Unit {0}
LeavesPackets (Speak unique items) = ⊥
LeavesPackets (Hear client packet takes) = Unit {0}
LeavesPackets (Lose unique) = Unit {0}

abbrev pub LeavesEntries : Move → Type 0
LeavesEntries (Own act) = Unit {0}
LeavesEntries (Send client parts) = Unit {0}
LeavesEntries (Make unique session) = Unit {0}
LeavesEntries (Draw unique salt) = Unit {0}
LeavesEntries (Judge unique message outcome) = Unit {0}
LeavesEntries (Forget unique number) = Unit {0}
LeavesEntries (Answer unique number body reply) = ⊥
LeavesEntries (Speak unique items) = Unit {0}
LeavesEntries (Hear client packet takes) = Unit {0}
LeavesEntries (Lose unique) = Unit {0}

-- Whose move it is

-- the move is one of this server session
abbrev pub IsOfServer : ℕ → Move → Type 0
IsOfServer unique (Own act) = ⊥
IsOfServer unique (Send client parts) = ⊥
IsOfServer unique (Make other session) = other ≡ unique
IsOfServer unique (Draw other salt) = other ≡ unique
IsOfServer unique (Judge other message outcome) = other ≡ unique
IsOfServer unique (Forget other number) = other ≡ unique
IsOfServer unique (Answer other number body reply) = other ≡ unique
IsOfServer unique (Speak other items) = other ≡ unique
IsOfServer unique (Hear client packet takes) = ⊥
IsOfServer unique (Lose other) = other ≡ unique

-- the move is one of this client
abbrev pub IsOfClient : ℕ → Move → Type 0
IsOfClient client (Own (NewClient other session)) = other ≡ client
IsOfClient client (Own (Renew other session)) = other ≡ client
IsOfClient client (Own (Submit other body)) = other ≡ client
IsOfClient client (Own (GiveUp call)) = call.client ≡ client
IsOfClient client (Own (End other)) = other ≡ client
IsOfClient client (Send other parts) = other ≡ client
IsOfClient client (Make unique session) = ⊥
IsOfClient client (Draw unique salt) = ⊥
IsOfClient client (Judge unique message outcome) = ⊥
IsOfClient client (Forget unique number) = ⊥
IsOfClient client (Answer unique number body reply) = ⊥
IsOfClient client (Speak unique items) = ⊥
IsOfClient client (Hear other packet takes) = other ≡ client
IsOfClient client (Lose unique) = ⊥
