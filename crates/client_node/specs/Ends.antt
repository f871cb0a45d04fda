-- How one connection of a batch ended: scaffolding of private functions, and no promise.
use Rattle.std.specs.Prelude.{◌≡◌, ◌⊎◌, ℕ, List, [], ◌∷◌, ◌++◌, length, All, Result, Ok, Err}
use Rattle.mt_edge.specs.Faults.{one_more}
use Rattle.mt_edge.specs.declared.net_call.NetCall.{NetCall}
use Rattle.client_node.specs.Connects.{IsLast, IsLost}
use Rattle.client_node.specs.declared.end.End.{End}
use Rattle.client_node.specs.declared.end.End.TheVariants.{Decided, Lost, TurnsSpent, Spent, Memory}
use Rattle.client_node.specs.declared.plan.Batch.{Batch}
use Rattle.client_node.specs.declared.plan.Batch.TheVariants as batch

-- how the batch ends by it, where it goes no further
abbrev pub batch_by : End → Batch
batch_by Decided = batch.Decided
batch_by Lost = batch.LinkLost
batch_by TurnsSpent = batch.TurnsSpent
batch_by Spent = batch.Spent
batch_by Memory = batch.Memory

-- the count of the link's faults: one call failed at most, and that only where the connection is lost or each call decided
abbrev pub CountsLink : End → ℕ → ℕ → Type 0
CountsLink Lost before after = (after ≡ before) ⊎ (after ≡ one_more before)
CountsLink Decided before after = (after ≡ before) ⊎ (after ≡ one_more before)
CountsLink TurnsSpent before after = after ≡ before
CountsLink Spent before after = after ≡ before
CountsLink Memory before after = after ≡ before

abbrev pub CountsTurn : {X : Type 0} → Result X End → ℕ → ℕ → Type 0
CountsTurn (Ok done) before after = after ≡ before
CountsTurn (Err end) before after = CountsLink end before after

-- one connection that ended so
pub record Connected (port : ℕ) (end : End) (before after : List NetCall) : Type 0 where
  pub call : NetCall
  pub whole : after ≡ before ++ call ∷ []
  pub its : IsLast port (batch_by end) call

-- so many connections, all of them lost
pub record AllLost (port : ℕ) (times : ℕ) (before after : List NetCall) : Type 0 where
  pub lost : List NetCall
  pub whole : after ≡ before ++ lost
  pub all_lost : All (IsLost port) lost
  pub count : length lost ≡ times
