-- What a connection made of a desk and a service.
use Rattle.std.specs.Prelude.{◌≡◌, [], ⊤}
use Rattle.server_core.specs.declared.desk.DeskFault.{DeskFault}
use Rattle.server_core.specs.declared.desk.DeskFault.TheVariants as faults
use Rattle.server_rules.specs.Server.{Server}
use Rattle.server_node.specs.Trace.{Talk}
use Rattle.server_node.specs.declared.conn.ConnEnd.{ConnEnd}
use Rattle.server_node.specs.declared.conn.ConnEnd.TheVariants as ends

-- a connection that begins: its desk, draw and service are those of this talk, no session was heard on it, and no packet was sent
pub record Begins {S V : Type 0} (desk : Server → Type 0) (drawn : S) (service : V) (talk : Talk S V) : Type 0 where
  pub server : desk talk.server
  pub draw : drawn ≡ talk.draw
  pub served : service ≡ talk.service
  pub heard : talk.heard ≡ []
  pub sent : talk.sent ≡ []

-- the desk, the draw and the service are those of this talk
pub record Serves {S V : Type 0} (desk : Server → Type 0) (drawn : S) (service : V) (talk : Talk S V) : Type 0 where
  pub server : desk talk.server
  pub draw : drawn ≡ talk.draw
  pub served : service ≡ talk.service

-- P holds where there was no room for an event
abbrev pub IfFull : DeskFault → Type 0 → Type 0
IfFull (faults.Full len) P = P
IfFull faults.Memory P = ⊤
IfFull faults.Closed P = ⊤
IfFull faults.Disk P = ⊤

-- By how it ended: the desk, the draw and the service are those of this talk, but words may have been drawn in vain where
-- memory ran out or the desk had no room. What a desk is behind a fault of it, for the server of this talk, it says itself.
abbrev pub LeavesBy : {S V : Type 0} → ConnEnd → (Server → Type 0) → (DeskFault → Server → Type 0) → S → V → Talk S V → Type 0
LeavesBy ends.Memory desk behind drawn service talk = desk talk.server × (service ≡ talk.service)
LeavesBy (ends.Journal fault) desk behind drawn service talk = behind fault talk.server × IfFull fault (desk talk.server × (service ≡ talk.service))
LeavesBy ends.Ended desk behind drawn service talk = Serves desk drawn service talk
LeavesBy ends.LinkFault desk behind drawn service talk = Serves desk drawn service talk
LeavesBy (ends.Frame fault) desk behind drawn service talk = Serves desk drawn service talk
LeavesBy ends.Start desk behind drawn service talk = Serves desk drawn service talk
LeavesBy ends.TurnsSpent desk behind drawn service talk = Serves desk drawn service talk
LeavesBy ends.Stopped desk behind drawn service talk = Serves desk drawn service talk
