-- The batches of a client, one after the other: `call` runs one, and `pair` a second one with the client that lost its connection.
use Rattle.std.specs.Prelude.{◌≡◌, List, [], ◌∷◌}
use Rattle.client_node.specs.Course.{Course}
use Rattle.client_node.specs.Talks.{Rules}
use Rattle.client_node.specs.Trace.{Attempt, EndsBy, after_all}
use Rattle.client_node.specs.declared.plan.Batch.{Batch}
use Rattle.client_node.specs.declared.plan.Batch.TheVariants as ends
use Rattle.client_node.specs.declared.plan.Plan.{Plan}

-- its plan, how it ended, and its attempts to connect, the last one first
pub record OneBatch : Type 0 where
  pub plan : Plan
  pub end : Batch
  pub attempts : List Attempt

-- what stands behind all of them, the last one first
abbrev pub behind_batches : {S : Type 0} → Rules S → Course S → List OneBatch → Course S
behind_batches rules course [] = course
behind_batches rules course (last ∷ earlier) = after_all rules last.plan (behind_batches rules course earlier) last.attempts

-- it is one of this client
abbrev pub IsBatch : {S : Type 0} → Rules S → Course S → OneBatch → Type 0
IsBatch rules course one = EndsBy rules one.plan course one.end one.attempts

-- each lost its connections
abbrev pub AreLost : {S : Type 0} → Rules S → Course S → List OneBatch → Type 0
AreLost rules course [] = Unit {0}
AreLost rules course (last ∷ earlier) =
    AreLost rules course earlier × IsBatch rules (behind_batches rules course earlier) last × (last.end ≡ ends.LinkLost)

-- each begins where the one before it ended, which lost its connections
abbrev pub AreBatches : {S : Type 0} → Rules S → Course S → List OneBatch → Type 0
AreBatches rules course [] = Unit {0}
AreBatches rules course (last ∷ earlier) = AreLost rules course earlier × IsBatch rules (behind_batches rules course earlier) last
