-- What the proofs of a desk's calls begin with. Nothing is promised here.
use Rattle.std.specs.Prelude.{◌≡◌, ◌≤◌, ◌<◌, ◌+◌, ◌%◌, ◌^◌, ℕ, List, ◌∷◌, [], Option, Some, length}
use Rattle.disks.specs.Crash.{MayLeave, synced_at}
use Rattle.disks.specs.Told.{DiskTold, MayHaveLeft, now}
use Rattle.draws.specs.Draws.{draw_after}
use Rattle.msg_ids.specs.Moments.{latest_moment}
use Rattle.sess_records.specs.declared.records.Record.{Record}
use Rattle.sess_records.specs.Crashes.{LeavesOnly}
use Rattle.sess_records.specs.Format.{Spells}
use Rattle.sess_records.specs.Standing.{Settled, SpellsOneOf, SpellsSome}
use Rattle.server_rules.specs.Server.{Server}
use Rattle.sess_journal.specs.Replay.{Bases, Basis}
use Rattle.sess_journal.specs.Keeping.{KeepsFor, Seen}

-- the draws of a seed go through its places
abbrev pub Goes : {D : Type 0} → Basis D → Type 0
Goes basis = (place words : ℕ) → place < 2 ^ 64 → draw_after basis.step words (basis.at place) ≡ basis.at ((place + words) % 2 ^ 64)

abbrev pub Places : {D : Type 0} → Basis D → Type 0
Places basis = (place : ℕ) → place < 2 ^ 64 → basis.place_of (basis.at place) ≡ place

-- laws of what the calls of a journal leave
pub record RowLaws : Type 0 where
  pub at_once : (told : DiskTold) (left : List ℕ) → MayHaveLeft (length told.acts) told left → MayLeave (now told) left
  pub synced : (bytes left : List ℕ) → MayLeave (synced_at bytes) left → left ≡ bytes
  pub spells : (seed : List ℕ) (entries : List Record) (len : ℕ) (told : DiskTold) → Settled seed entries len told → Spells seed entries told.contents
  pub one : (seed : List ℕ) (entries : List Record) (entry : Record) (before after : DiskTold)
      → LeavesOnly before after (SpellsOneOf seed entries entry) → LeavesOnly before after (SpellsSome seed entries (entry ∷ []))

-- A desk that stands for a server, with these records in its journal, is given a moment that there is.
pub record Stage {K S D : Type 0} (bases : Bases S D) (told : K → Option DiskTold) (entries : List Record) (old : Seen K S D) (server : Server) (moment : ℕ) : Type 0 where
  pub keeps : KeepsFor bases told entries old server
  pub goes : Goes (bases old.server.seal keeps.recorded.file.seed)
  pub places : Places (bases old.server.seal keeps.recorded.file.seed)
  pub early : moment ≤ latest_moment
  pub laws : RowLaws

-- and the last of the records is the begin of a run of this job
pub record RunStage {K S D : Type 0} (bases : Bases S D) (told : K → Option DiskTold) (entries : List Record) (job : ℕ) (old : Seen K S D) (server : Server) (moment : ℕ) : Type 0 where
  pub stage : Stage bases told entries old server moment
  pub begun : stage.keeps.recorded.reached.begun ≡ Some job
