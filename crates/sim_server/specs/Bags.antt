-- The bag of a world.
use Rattle.std.specs.Prelude.{◌≡◌, ◌≤◌, ◌<◌, ◌^◌, ℕ, ◌+◌, List, [], ◌∷◌, length, ⊤}
use Rattle.std.specs.List.{flat_map}
use Rattle.sim_server.specs.declared.bag.Batch.{Batch}
use Rattle.sim_server.specs.Made.{Made, packets_in}

-- every packet in order, and for how many more events there is room
pub record Holds : Type 0 where
  pub made : List Made
  pub room : ℕ

-- Scaffolding, and no promise: each batch has the count of packets before it, where this is that of the first.
abbrev pub AreCounted : ℕ → List Batch → Type 0
AreCounted before [] = ⊤
AreCounted before (batch ∷ batches) = (batch.before ≡ before) × AreCounted (before + length (packets_in batch)) batches

pub record IsBag (batches : List Batch) (len capacity count room : ℕ) : Type 0 where
  pub each : AreCounted 0 batches
  pub all : count ≡ length (flat_map packets_in batches)
  pub places : len + room ≤ capacity
  pub few : 0 < room → count < 2 ^ 63
