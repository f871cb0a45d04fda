use Rattle.std.proofs.Common.{◌≡◌, ◌≤◌, ◌-◌}
use Rattle.sess_journal.specs.Playing.{Follows, IsReady}
use Rattle.sess_journal.specs.Replay.{bases_of}
use Rattle.sess_journal.proofs.kept.play_all.Given as goal

-- the records so far are those that were played
abbrev pub invariant-records : goal.invariant-records
invariant-records g l = record {
  inside : l.opening.at ≤ l.opening.len;
  ready : IsReady l.played;
  follows : Follows (bases_of g.S.Seal.lock g.S.Seal.keys g.D.Draw.step g.D.Seeded.standing_at g.D.Seeded.place_of) g.K.Disk.told l.opening l.played;
  told : g.K.Disk.told l.opening.disk ≡ g.K.Disk.told l.fn.opening.disk;
  counted : g.K.Disk.faults l.opening.disk ≡ g.K.Disk.faults l.fn.opening.disk;
  same_place : g.K.Disk.place l.opening.disk ≡ g.K.Disk.place l.fn.opening.disk;
  same_seed : l.opening.seed ≡ l.fn.opening.seed;
  same_len : l.opening.len ≡ l.fn.opening.len;
  same_seal : l.played.server.seal ≡ l.fn.played.server.seal;
}

-- what is left of the file
abbrev pub decreases-records : goal.decreases-records
decreases-records g l = l.opening.len - l.opening.at
