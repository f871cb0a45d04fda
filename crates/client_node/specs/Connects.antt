-- The connections of a batch, as its net tells them.
use Rattle.std.specs.Prelude.{◌≡◌, ◌⊎◌, ◌≤◌, ℕ, List, [], ◌∷◌, ◌++◌, length, All, ⊤}
use Rattle.mt_edge.specs.declared.net_call.NetCall.{NetCall}
use Rattle.mt_edge.specs.declared.net_call.NetCall.TheVariants.{Listen, Connect, Accept}
use Rattle.mt_edge.specs.declared.net_call.Outcome.TheVariants.{Failed, Open, Done}
use Rattle.client_node.specs.declared.plan.Batch.{Batch}
use Rattle.client_node.specs.declared.plan.Batch.TheVariants as batch
use Rattle.client_node.specs.declared.plan.Plan.{Plan}

-- a connection to a port that was made and given back; at most so many calls of its link failed
abbrev pub IsGivenBack : ℕ → ℕ → NetCall → Type 0
IsGivenBack port most (Connect to (Done told faults)) = (to ≡ port) × (faults ≤ most)
IsGivenBack port most (Connect to Failed) = ⊥
IsGivenBack port most (Connect to Open) = ⊥
IsGivenBack port most (Listen to answer) = ⊥
IsGivenBack port most (Accept outcome) = ⊥

-- a lost connection to a port: the attempt failed, or it was made and given back, and at most one call of its link failed
abbrev pub IsLost : ℕ → NetCall → Type 0
IsLost port (Connect to (Done told faults)) = (to ≡ port) × (faults ≤ 1)
IsLost port (Connect to Failed) = to ≡ port
IsLost port (Connect to Open) = ⊥
IsLost port (Listen to answer) = ⊥
IsLost port (Accept outcome) = ⊥

-- the last connection, by how the batch ended: a call of its link failed only where it is lost, or each call is decided
abbrev pub IsLast : ℕ → Batch → NetCall → Type 0
IsLast port batch.Decided call = IsGivenBack port 1 call
IsLast port batch.LinkLost call = IsLost port call
IsLast port batch.TurnsSpent call = IsGivenBack port 0 call
IsLast port batch.Spent call = IsGivenBack port 0 call
IsLast port batch.Memory call = IsGivenBack port 0 call

-- A batch that ended so made these calls of its net: connections that were lost, no more of them than the plan allows, and
-- the last one. That is lost too exactly where the batch ended by it, and as many were lost before as the plan allows.
pub record Connects (plan : Plan) (end : Batch) (before after : List NetCall) : Type 0 where
  pub lost : List NetCall
  pub last : NetCall
  pub whole : after ≡ before ++ lost ++ last ∷ []
  pub all_lost : All (IsLost plan.port) lost
  pub most : length lost ≤ plan.retries
  pub its : IsLast plan.port end last
  pub too_many : end ≡ batch.LinkLost → length lost ≡ plan.retries

-- so it ends where it made no connection
abbrev pub EndsBefore : Batch → Type 0
EndsBefore batch.Decided = ⊤
EndsBefore batch.Memory = ⊤
EndsBefore batch.LinkLost = ⊥
EndsBefore batch.TurnsSpent = ⊥
EndsBefore batch.Spent = ⊥

-- what a batch that ended so made of its net
abbrev pub Uses : Plan → Batch → List NetCall → List NetCall → Type 0
Uses plan end before after = ((after ≡ before) × EndsBefore end) ⊎ Connects plan end before after
