-- Records that are played, one after the other.
use Rattle.std.specs.Prelude.{◌≡◌, ℕ, ◌<◌, ◌^◌, List, Option, IfSome}
use Rattle.disks.specs.Told.{DiskTold}
use Rattle.sess_records.specs.declared.records.Event.{Event}
use Rattle.sess_records.specs.declared.records.Record.{Record}
use Rattle.sess_records.specs.Seen.{Reading}
use Rattle.sess_records.specs.Standing.{HasTaken}
use Rattle.server_core.specs.Server.{Kept, StandsFor}
use Rattle.waits.specs.Jobs.{ready_count}
use Rattle.sess_journal.specs.Replay.{Bases, Basis, LeadsTo, Reached, Replays, at_first}

-- ---- a server that records are played to

-- what is kept of it: the seed of its draw, the server, the greatest moment that it was given, its draw, and the job that
-- began last
pub record Player (S D : Type 0) : Type 0 where
  pub seed : List ℕ
  pub server : Kept S
  pub latest : ℕ
  pub draw : D
  pub begun : Option ℕ

-- what its replay stands on
abbrev pub basis_for : {S D : Type 0} → Bases S D → Player S D → Basis D
basis_for bases player = bases player.server.seal player.seed

-- that is what was reached
pub record StandsAt {S D : Type 0} (bases : Bases S D) (reached : Reached) (player : Player S D) : Type 0 where
  pub stands : StandsFor player.server reached.server
  pub latest_is : player.latest ≡ reached.server.now
  pub begun_is : player.begun ≡ reached.begun
  pub place : reached.place < 2 ^ 64
  pub drawn : player.draw ≡ (basis_for bases player).at reached.place

-- the job that began last is there
abbrev pub IsReady : {S D : Type 0} → Player S D → Type 0
IsReady player = IfSome player.begun (λ job. job < ready_count player.server.jobs)

-- It has become what an event of this moment and place leads to.
abbrev pub Leads : {S D : Type 0} → Bases S D → ℕ → ℕ → Event (List ℕ) → Reached → Player S D → Type 0
Leads bases moment place event before player = (after : Reached) × LeadsTo (basis_for bases player) moment place event before after × StandsAt bases after player

-- What an opening has taken leads to what was reached, and that is kept.
pub record Follows {K S D : Type 0} (bases : Bases S D) (told : K → Option DiskTold) (opening : Reading K) (player : Player S D) : Type 0 where
  pub seed_is : player.seed ≡ opening.seed
  pub entries : List Record
  pub taken : HasTaken told entries opening
  pub reached : Reached
  pub replays : Replays (basis_for bases player) entries at_first reached
  pub stands : StandsAt bases reached player
