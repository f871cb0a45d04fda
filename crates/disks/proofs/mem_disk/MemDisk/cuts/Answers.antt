use Rattle.std.proofs.Common.{arith}
use Rattle.std.proofs.lemmas.Grind.{common_steps}
use Rattle.disks.specs.Crash.{synced_at}
use Rattle.disks.proofs.Moments.{cut_off, cut_bytes}
use Rattle.disks.proofs.mem_disk.MemDisk.cuts.Goals as goal

-- what a read gives is the front of what it gave
pub invariant_of-self-clause-possible : goal.invariant_of-self-clause-possible
invariant_of-self-clause-possible c =
    cut_off (synced_at c.args.self.now.first) c.args.self.now.acts.items c.push.new.self.items c.args.len c.args.self.now.contents.items c.truncate.new.self.items
    (grind (arith, common_steps)) (grind (arith, common_steps)) (grind (arith, common_steps)) (cut_bytes c.args.len c.args.self.now.contents.items c.truncate.new.self.items (grind (arith, common_steps)) c.args.self.now.possible.bytes) c.args.self.now.possible
