-- The parts of a joint run: what each start of the server does in it, and each client, whatever the others do between.
use Rattle.std.specs.Prelude.{List, [], ◌∷◌, ◌++◌, fold}
use Rattle.server_node.specs.Trace.{Act}
use Rattle.client_core.specs.Keys.{Keys}
use Rattle.world_rules.specs.World.{changed_at}
use Rattle.law_connections.specs.Joint.{Deed, Step, Begins, Does, Serves, Starts}

-- ---- the server

-- a start of the server: what it draws its words from, and its events, in order
pub record Start (S : Type 0) : Type 0 where
  pub draw : S
  pub acts : List Act

-- one more event of the last start, the last one being first
abbrev pub with_act : {S : Type 0} → Act → List (Start S) → List (Start S)
with_act act [] = []
with_act act (last ∷ earlier) = record last { acts = last.acts ++ act ∷ [] } ∷ earlier

abbrev pub start_on : {S : Type 0} → List (Start S) → Step S → List (Start S)
start_on starts (Serves act) = with_act act starts
start_on starts (Starts draw) = record { draw = draw; acts = [] } ∷ starts
start_on starts (Begins keys draw) = starts
start_on starts (Does number deed) = starts

-- the starts of the server in these steps, the last one first; the first one draws its words from here
abbrev pub starts_of : {S : Type 0} → S → List (Step S) → List (Start S)
starts_of draw steps = fold start_on (record { draw = draw; acts = [] } ∷ []) steps

-- ---- the clients

-- a client: its keys, what it draws its words from, and what it does, in order
pub record Part (S : Type 0) : Type 0 where
  pub keys : Keys
  pub draw : S
  pub deeds : List Deed

abbrev pub with_deed : {S : Type 0} → Deed → Part S → Part S
with_deed deed part = record part { deeds = part.deeds ++ deed ∷ [] }

abbrev pub part_on : {S : Type 0} → List (Part S) → Step S → List (Part S)
part_on parts (Serves act) = parts
part_on parts (Starts draw) = parts
part_on parts (Begins keys draw) = parts ++ record { keys = keys; draw = draw; deeds = [] } ∷ []
part_on parts (Does number deed) = changed_at number (with_deed deed) parts

-- the clients of these steps, in order
abbrev pub parts_of : {S : Type 0} → List (Step S) → List (Part S)
parts_of steps = fold part_on [] steps
